-- How a point moves with a step of the pose: `point_step_with_damping_norm` of schur.rs.
-- docs/SPECIFICATION.md, "Point step".
use Rattle.std.specs.Prelude.{ℕ, ◌+◌, ◌*◌, List, Float, Result}
use Rattle.std.specs.Float.Ieee.{neg}
use Rattle.numerics.specs.Binary64.{◌⊕◌, ◌⊗◌, zero}
use Rattle.numerics.specs.Vectors.{◌!◌, sum, tabulate, zeros}
use Rattle.refusal.specs.declared.Refusal.{Refusal}
use Rattle.refusal.specs.Chain.{◌>>=◌, map_ok}
use Rattle.point_block.specs.Damping.{valid_damping, damping_diagonal_of}
use Rattle.point_block.specs.declared.PointBlockFactor.{PointBlockFactor}
use Rattle.point_block.specs.Factor.{solve}
use Rattle.point_block.specs.FactorWithRcond.{factor, inverse_at}
use Rattle.linearization.specs.declared.linearize.LocalLinearization.{LocalLinearization}
use Rattle.linearization.specs.declared.terms.PointTerms.{PointTerms}
use Rattle.linearization.specs.Linearize.{point_terms}
use Rattle.schur.specs.PoseModel.{dot5}
use Rattle.schur.specs.declared.point_step.PointStep.{PointStep}

-- column i of the cross Hessian, five rows of three
unfoldable pub cross_column : List Float → ℕ → List Float
cross_column cross i = tabulate 5 (λ j. cross ! (3 * j + i))

-- g_x + H_pxᵀ s, with s the step of the pose
unfoldable pub right_hand_side : PointTerms → List Float → List Float
right_hand_side t pose_step =
    tabulate 3 (λ i. t.point_gradient ! i ⊕ dot5 (cross_column t.cross_hessian i) pose_step)

-- the step of the point by the packed inverse of its damped Hessian: −H_xx⁻¹ (g_x + H_pxᵀ s)
unfoldable pub step_of : List Float → PointTerms → List Float → List Float
step_of inverse t pose_step =
    tabulate 3 (λ i. neg (solve inverse (right_hand_side t pose_step) ! i))

-- xᵀ diag(d) x, with d the damping diagonal of the undamped point Hessian and x the step
unfoldable pub damping_norm : List Float → List Float → Float
damping_norm diagonal step = sum (tabulate 3 (λ i. diagonal ! i ⊗ step ! i ⊗ step ! i))

-- that step with its damping norm
unfoldable pub step_by_inverse : List Float → PointTerms → List Float → PointStep
step_by_inverse inverse t pose_step =
    let step = step_of inverse t pose_step in
    record { step = step; damping_norm = damping_norm (damping_diagonal_of t.point_hessian) step }

-- the step by the formulas, whether the block factors or not
abbrev pub step_at : PointTerms → Float → List Float → PointStep
step_at t damping pose_step = step_by_inverse (inverse_at t.point_hessian damping) t pose_step

-- what stands beside a refusal: +0 everywhere
abbrev pub zero_point_step : PointStep
zero_point_step = record { step = zeros 3; damping_norm = zero }

-- row 10, and then the step by the block's factor at the damping
unfoldable pub damped_step : PointTerms → Float → List Float → Result PointStep Refusal
damped_step t damping pose_step =
    map_ok (λ (f : PointBlockFactor). step_by_inverse f.inverse t pose_step)
    (factor t.point_hessian damping)

-- row 3, row 10, and then that step
unfoldable pub point_step : LocalLinearization → Float → List Float → Result PointStep Refusal
point_step b damping pose_step =
    valid_damping damping >>= (λ d. damped_step (point_terms b) d pose_step)
