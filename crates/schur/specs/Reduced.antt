-- A new system, and what is asked of a system once it has all its blocks: `new`, `finish_damping`,
-- `is_valid`, `scaled_gradient_inf_norm` and `predicted_reduction` of schur.rs.
-- docs/SPECIFICATION.md, "Reduced system".
use Rattle.std.specs.Prelude.{Bool, true, ◌&&◌, List, Float, Result}
use Rattle.numerics.specs.Extrema.{max}
use Rattle.numerics.specs.Binary64.{◌⊕◌, ◌⊖◌, ◌⊗◌, zero, half, one}
use Rattle.numerics.specs.Vectors.{all_finite, zeros}
use Rattle.refusal.specs.declared.Refusal.{Refusal}
use Rattle.refusal.specs.Chain.{map_ok}
use Rattle.point_block.specs.Damping.{valid_damping}
use Rattle.schur.specs.GradientNorm.{scaled_gradient_inf_norm}
use Rattle.schur.specs.PoseDamping.{damped_hessian, pose_damping_norm}
use Rattle.schur.specs.PoseModel.{dot5, quadratic}
use Rattle.schur.specs.declared.reduced_system.ReducedSystem.{ReducedSystem}

-- a system with no block: +0 everywhere, but 1 as the smallest rcond; no counts, and the flag set
unfoldable pub new_system : ReducedSystem
new_system = record {
  hessian = zeros 25;
  gradient = zeros 5;
  cost = zero;
  squared_residual = zero;
  full_pose_gradient = zeros 5;
  pose_diagonal = zeros 5;
  point_model_reduction = zero;
  scaled_point_gradient_inf_norm = zero;
  weak_point_count = 0;
  minimum_point_rcond = one;
  valid = true;
  block_count = 0;
}

-- the system with the damping added to the diagonal of its Hessian
abbrev pub with_damping : ReducedSystem → Float → ReducedSystem
with_damping s damping = record s { hessian = damped_hessian s.hessian s.pose_diagonal damping }

-- row 3, and then the system with the damping
unfoldable pub finish_damping : ReducedSystem → Float → Result ReducedSystem Refusal
finish_damping s damping = map_ok (with_damping s) (valid_damping damping)

-- The flag is set, and every entry of the equations is finite. A system that `add` made has the
-- flag set if and only if every block taken in factored.
unfoldable pub is_valid : ReducedSystem → Bool
is_valid s = s.valid && all_finite s.gradient && all_finite s.hessian

-- the largest scaled entry of the gradient of each point and of the pose's whole gradient
unfoldable pub gradient_inf_norm : ReducedSystem → Float
gradient_inf_norm s =
    max s.scaled_point_gradient_inf_norm
    (scaled_gradient_inf_norm 5 s.full_pose_gradient s.pose_diagonal)

-- What a step x of the pose is predicted to gain, with S the Hessian as it stands and g the
-- gradient:
--   reduction of the points − gᵀx − ½ xᵀSx + ½ damping (pose damping norm + point damping norm)
unfoldable pub reduction_of : ReducedSystem → List Float → Float → Float → Float
reduction_of s step damping point_damping_norm =
    let damping_norm = pose_damping_norm s.pose_diagonal step ⊕ point_damping_norm in
    s.point_model_reduction ⊖ dot5 s.gradient step ⊖ half ⊗ quadratic s.hessian step
    ⊕ half ⊗ damping ⊗ damping_norm

-- row 3, and then that prediction
unfoldable pub predicted_reduction :
    ReducedSystem → List Float → Float → Float → Result Float Refusal
predicted_reduction s step damping point_damping_norm =
    map_ok (λ d. reduction_of s step d point_damping_norm) (valid_damping damping)
