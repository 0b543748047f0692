use Rattle.std.proofs.Common.{◌≡◌, ℕ, ◌*◌, ◌≤◌}
use Rattle.numerics.proofs.Fill.{filled_of, by_rows}
use Rattle.linearization.specs.Accumulate.{column, product}
use Rattle.linearization.proofs.accumulate.pose_hessian.Given as goal

-- the first i rows are filled
abbrev pub invariant-loop-i : goal.invariant-loop-i
invariant-loop-i l =
    let entry = λ (i j : ℕ). product (column 5 l.a l.b i) (column 5 l.a l.b j) in
    (l.i ≤ 5) × (l.h ≡ filled_of 25 (by_rows 5 entry) (5 * l.i))
