use Rattle.text.proofs.Wrote.{wrote_both}
use Rattle.run_list.specs.Lines.{run_line}
use Rattle.run_list.proofs.lines.put_run.Goals as goal

pub returns : goal.returns
unfolding run_line
returns c = wrote_both _ _ _ _ _ (wrote_both _ _ _ _ _ c.put.ensures c.put_decimal.ensures) c.put_bits.ensures
