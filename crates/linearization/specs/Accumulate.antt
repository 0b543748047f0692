-- The sums of a point's block: `LocalLinearization::accumulate` of schur.rs (docs/SPECIFICATION.md,
-- "Linearization"). With r the residual, J_p and J_x the pose and the point Jacobian of a view, two
-- rows of each, all multiplied by the weight w of the view already, the sums over both views are
--     H_pp = Σ J_pᵀ J_p   H_px = Σ J_pᵀ J_x   H_xx = Σ J_xᵀ J_x   g_p = Σ J_pᵀ r   g_x = Σ J_xᵀ r
-- which is Σ J_pᵀ w² J_p and so on without that. The arguments are rows of view 1, then of view 2.
use Rattle.std.specs.Prelude.{ℕ, ◌+◌, ◌/◌, ◌%◌, List, [], ◌∷◌, Float}
use Rattle.numerics.specs.Binary64.{◌⊕◌, ◌⊗◌, zero}
use Rattle.numerics.specs.Vectors.{◌!◌, tabulate}

-- column k of the four rows, those of a before those of b; a row has n entries
unfoldable pub column : ℕ → List Float → List Float → ℕ → List Float
column n a b k = a ! k ∷ a ! (n + k) ∷ b ! k ∷ b ! (n + k) ∷ []

-- the product of two columns, summed from +0
unfoldable pub product : List Float → List Float → Float
product x y = zero ⊕ x ! 0 ⊗ y ! 0 ⊕ x ! 1 ⊗ y ! 1 ⊕ x ! 2 ⊗ y ! 2 ⊕ x ! 3 ⊗ y ! 3

-- H_pp, 5 by 5, of the rows a and b of J_p
unfoldable pub pose_hessian : List Float → List Float → List Float
pose_hessian a b = tabulate 25 (λ k. product (column 5 a b (k / 5)) (column 5 a b (k % 5)))

-- H_px, 5 by 3, of the rows a and b of J_p and the rows p and q of J_x
unfoldable pub cross_hessian : List Float → List Float → List Float → List Float → List Float
cross_hessian a p b q = tabulate 15 (λ k. product (column 5 a b (k / 3)) (column 3 p q (k % 3)))

-- H_xx, 3 by 3, of the rows p and q of J_x
unfoldable pub point_hessian : List Float → List Float → List Float
point_hessian p q = tabulate 9 (λ k. product (column 3 p q (k / 3)) (column 3 p q (k % 3)))

-- g_p, of the rows a and b of J_p and the residuals u and v
unfoldable pub pose_gradient : List Float → List Float → List Float → List Float → List Float
pose_gradient a u b v = tabulate 5 (λ i. product (column 5 a b i) (column 1 u v 0))

-- g_x, of the rows p and q of J_x and the residuals u and v
unfoldable pub point_gradient : List Float → List Float → List Float → List Float → List Float
point_gradient p u q v = tabulate 3 (λ i. product (column 3 p q i) (column 1 u v 0))
