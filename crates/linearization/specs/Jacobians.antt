-- How the residual of view 2 moves with the pose and with the point: the Jacobians in
-- `linearize_point` of schur.rs (docs/SPECIFICATION.md, "Linearization").
use Rattle.std.specs.Prelude.{ℕ, ◌+◌, ◌*◌, ◌/◌, ◌%◌, List, [], ◌∷◌, Float}
use Rattle.std.specs.Float.Ieee.{neg}
use Rattle.numerics.specs.Binary64.{◌⊗◌, zero}
use Rattle.numerics.specs.Vectors.{◌!◌, sum, tabulate}

-- How the rotated point a moves with the pose, M = ( −[a]ₓ  h b₀  h b₁ ): three rows of five. The
-- columns are the rotations about the three axes, where [a]ₓ v = a × v, and the two vectors of the
-- translation basis b times the baseline h.
unfoldable pub pose_motion_jacobian : List Float → List Float → Float → List Float
pose_motion_jacobian a b h =
    zero ∷ a ! 2 ∷ neg (a ! 1) ∷ h ⊗ b ! 0 ∷ h ⊗ b ! 3
    ∷ neg (a ! 2) ∷ zero ∷ a ! 0 ∷ h ⊗ b ! 1 ∷ h ⊗ b ! 4
    ∷ a ! 1 ∷ neg (a ! 0) ∷ zero ∷ h ⊗ b ! 2 ∷ h ⊗ b ! 5
    ∷ []

-- Σ leftᵢₖ rightₖⱼ over k from 0 to 2, summed from −0: the entry of row i and column j of a matrix
-- product, where the right matrix has n columns
unfoldable pub entry : ℕ → List Float → List Float → ℕ → ℕ → Float
entry n left right i j =
    sum (
    left ! (3 * i) ⊗ right ! j
    ∷ left ! (3 * i + 1) ⊗ right ! (n + j)
    ∷ left ! (3 * i + 2) ⊗ right ! (n + n + j)
    ∷ [])

-- J M, two rows of five: `multiply_2x3_3x5`
unfoldable pub pose_jacobian : List Float → List Float → List Float
pose_jacobian jacobian motion = tabulate 10 (λ k. entry 5 jacobian motion (k / 5) (k % 5))

-- (J R) h, two rows of three, with R the rotation and h the baseline: `multiply_2x3_3x3`, then
-- `scale_2x3`
unfoldable pub point_jacobian : List Float → List Float → Float → List Float
point_jacobian jacobian rotation baseline =
    tabulate 6 (λ k. entry 3 jacobian rotation (k / 3) (k % 3) ⊗ baseline)
