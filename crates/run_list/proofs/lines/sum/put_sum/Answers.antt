use Rattle.std.proofs.Common.{refl}
use Rattle.text.proofs.Wrote.{wrote_same, wrote_both, wrote_then}
use Rattle.run_list.specs.SumLine.{sum_line}
use Rattle.run_list.proofs.lines.sum.put_sum.Goals as goal

pub returns : goal.returns
unfolding sum_line
returns c =
    wrote_then _ _ _ _ _ _ (wrote_both _ _ _ _ _ (wrote_both _ _ _ _ _ c.put.ensures c.put_bits.ensures) c.put_bits-2.ensures)
    (wrote_same _ _ _ _ (rw (c.validity.ensures, c.verdict.ensures, c.is_valid-valid.ensures) refl) c.put_decimal_then.ensures)
