use Rattle.add_sequences.proofs.Claim.{claim}
use Rattle.add_sequences.proofs.every_list_of_adds.Goals as goal

-- src/lib.rt:14:1
pub returns : goal.returns
returns c = claim
