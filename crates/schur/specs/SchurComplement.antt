-- The Schur complement of a point in the equations of the pose, by the packed inverse of its damped
-- Hessian: `add` of schur.rs, for a block that factors. docs/SPECIFICATION.md, "Reduced system".
-- H_pp, H_px and H_xx are the block's pose, cross and point Hessian, g_p and g_x its gradients.
use Rattle.std.specs.Prelude.{ℕ, ◌+◌, ◌*◌, ◌/◌, ◌%◌, List, Float}
use Rattle.numerics.specs.Binary64.{◌⊕◌, ◌⊖◌, ◌⊗◌, half}
use Rattle.numerics.specs.Vectors.{◌!◌, tabulate}
use Rattle.point_block.specs.Factor.{solve}
use Rattle.linearization.specs.declared.linearize.LocalLinearization.{LocalLinearization}

-- xᵀy over three entries, without the −0 that `.sum()` begins at
unfoldable pub dot3 : List Float → List Float → Float
dot3 x y = x ! 0 ⊗ y ! 0 ⊕ x ! 1 ⊗ y ! 1 ⊕ x ! 2 ⊗ y ! 2

-- row i of the cross Hessian, five rows of three
unfoldable pub cross_row : List Float → ℕ → List Float
cross_row cross i = tabulate 3 (λ j. cross ! (3 * i + j))

-- H_xx⁻¹ g_x
unfoldable pub inverse_gradient : List Float → LocalLinearization → List Float
inverse_gradient inverse b = solve inverse b.point_gradient

-- H_px H_xx⁻¹ H_pxᵀ, 5 by 5: its entry at row i and column j is row i of H_px times H_xx⁻¹ times
-- row j
unfoldable pub schur_term : List Float → List Float → List Float
schur_term inverse cross =
    tabulate 25 (λ k. dot3 (cross_row cross (k / 5)) (solve inverse (cross_row cross (k % 5))))

-- S += H_pp − H_px H_xx⁻¹ H_pxᵀ
unfoldable pub reduced_hessian : List Float → List Float → LocalLinearization → List Float
reduced_hessian h inverse b =
    tabulate 25 (λ k. h ! k ⊕ (b.pose_hessian ! k ⊖ schur_term inverse b.cross_hessian ! k))

-- g += g_p − H_px H_xx⁻¹ g_x
unfoldable pub reduced_gradient : List Float → List Float → LocalLinearization → List Float
reduced_gradient g inverse b =
    let x = inverse_gradient inverse b in
    tabulate 5 (λ i. g ! i ⊕ (b.pose_gradient ! i ⊖ dot3 (cross_row b.cross_hessian i) x))

-- What the points gain by themselves, with the pose held: reduction += ½ g_xᵀ H_xx⁻¹ g_x
unfoldable pub point_reduction : Float → List Float → LocalLinearization → Float
point_reduction r inverse b = r ⊕ half ⊗ dot3 b.point_gradient (inverse_gradient inverse b)
