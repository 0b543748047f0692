use Rattle.std.proofs.Common.{◌≡◌, [], ◌∷◌, ◌*◌, ◌≤◌}
use Rattle.numerics.proofs.Fill.{filled_of, by_rows}
use Rattle.schur.proofs.Rows.{entry}
use Rattle.schur.proofs.elimination.reduced_hessian.Given as goal

abbrev pub invariant-loop-i : goal.invariant-loop-i
invariant-loop-i l = (l.i ≤ 5) × (l.out ≡ filled_of 25 (by_rows 5 (entry l.fn.h l.fn.local (l.x0 ∷ l.x1 ∷ l.x2 ∷ l.x3 ∷ l.x4 ∷ []))) (5 * l.i))
