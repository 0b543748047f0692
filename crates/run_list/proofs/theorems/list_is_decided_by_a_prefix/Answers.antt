use Rattle.run_list.proofs.Prefix.{prefix_decides}
use Rattle.run_list.proofs.theorems.list_is_decided_by_a_prefix.Goals as goal

pub returns : goal.returns
returns c = prefix_decides
