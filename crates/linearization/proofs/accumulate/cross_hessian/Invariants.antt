use Rattle.std.proofs.Common.{◌≡◌, ℕ, ◌*◌, ◌≤◌, [], ◌∷◌, get_or}
use Rattle.numerics.proofs.Fill.{filled_of, by_rows}
use Rattle.linearization.specs.Accumulate.{column, product}
use Rattle.linearization.proofs.accumulate.cross_hessian.Given as goal

-- the first i rows are filled
abbrev pub invariant-loop-i : goal.invariant-loop-i
invariant-loop-i l =
    let entry = λ (i j : ℕ). product (column 5 l.a l.b i) (get_or (l.c0 ∷ l.c1 ∷ l.c2 ∷ []) j []) in
    (l.i ≤ 5) × (l.h ≡ filled_of 15 (by_rows 3 entry) (3 * l.i))
