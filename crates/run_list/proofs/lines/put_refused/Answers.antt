use Rattle.std.proofs.Common.{refl, [], ◌∷◌}
use Rattle.std.specs.Fmt.{decimal}
use Rattle.text.specs.Text.{space, line_feed}
use Rattle.text.proofs.Wrote.{wrote_same, wrote_then}
use Rattle.run_list.specs.Lines.{refused_line}
use Rattle.run_list.proofs.lines.put_refused.Goals as goal

pub returns : goal.returns
unfolding refused_line
returns c =
    let r = c.row-row.result in
    wrote_same _ _ _ _ (rw c.row-row.ensures refl)
    (wrote_then _ (decimal r.index) (line_feed ∷ []) _ _ _
    (wrote_then _ (decimal r.view) (space ∷ []) _ _ _ (wrote_then _ (decimal r.number) (space ∷ []) _ _ _ c.put.ensures c.put_decimal_then.ensures) c.put_decimal_then-2.ensures)
    c.put_decimal_then-3.ensures)
