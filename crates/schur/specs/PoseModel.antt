-- The quadratic model of the pose's five equations, in `add` and `predicted_reduction` of schur.rs.
-- docs/SPECIFICATION.md, "Reduced system". A Hessian is 25 numbers, row by row.
use Rattle.std.specs.Prelude.{ℕ, ◌+◌, ◌*◌, List, Float}
use Rattle.numerics.specs.Binary64.{◌⊕◌}
use Rattle.numerics.specs.Vectors.{◌!◌, dot, tabulate}

-- xᵀy over five entries, as `.sum()` of the products
unfoldable pub dot5 : List Float → List Float → Float
dot5 x y = dot 5 x y

-- x + y, entry by entry
unfoldable pub sum5 : List Float → List Float → List Float
sum5 x y = tabulate 5 (λ i. x ! i ⊕ y ! i)

-- the diagonal of a Hessian
unfoldable pub diagonal5 : List Float → List Float
diagonal5 h = tabulate 5 (λ i. h ! (6 * i))

-- row i of a Hessian
unfoldable pub hessian_row : List Float → ℕ → List Float
hessian_row h i = tabulate 5 (λ j. h ! (5 * i + j))

-- sᵀHs: the step s times each row's product with it
unfoldable pub quadratic : List Float → List Float → Float
quadratic h step = dot5 step (tabulate 5 (λ i. dot5 (hessian_row h i) step))
