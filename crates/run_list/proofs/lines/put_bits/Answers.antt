use Rattle.text.proofs.Wrote.{wrote_same}
use Rattle.run_list.proofs.Bits.{bits_are}
use Rattle.run_list.proofs.lines.put_bits.Goals as goal

pub returns : goal.returns
returns c = wrote_same _ _ _ _ (bits_are _ _ _ _ c.to_bits.ensures c.digits-digits.ensures) c.put_three.ensures
