-- The figures that a whole step gives: docs/SPECIFICATION.md, "Whole step".
use Rattle.std.specs.Prelude.{ℕ, List, pos, Float}
use Rattle.std.specs.Float.{binary64}
use Rattle.std.specs.Float.Ieee.{of_int}
use Rattle.numerics.specs.Binary64.{◌⊘◌, zero}
use Rattle.numerics.specs.Vectors.{zeros}
use Rattle.root.specs.Root.{sqrt}
use Rattle.schur.specs.Reduced.{gradient_inf_norm, reduction_of}
use Rattle.schur.specs.declared.reduced_system.ReducedSystem.{ReducedSystem}
use Rattle.optimizer.specs.declared.step_result.StepResult.{StepResult}

-- √(squares ÷ n), the root mean square of the lengths of n point steps
abbrev pub rms : Float → ℕ → Float
rms squares n = sqrt (squares ⊘ of_int binary64 (pos n))

-- what stands beside a refusal: +0 for each number, and the count 0
abbrev pub zero_step_result : StepResult
zero_step_result = record {
  pose_step = zeros 5;
  cost = zero;
  squared_residual = zero;
  gradient_norm = zero;
  weak_point_count = 0;
  minimum_point_rcond = zero;
  point_step_rms = zero;
  point_damping_norm = zero;
  predicted_reduction = zero;
}

-- the result from the damped system, the limited pose step s, the damping, and over n point steps
-- the sums of their squared lengths and of their damping norms
unfoldable pub step_result : ReducedSystem → List Float → Float → ℕ → Float → Float → StepResult
step_result system s damping n squared damping_norm = record {
  pose_step = s;
  cost = system.cost;
  squared_residual = system.squared_residual;
  gradient_norm = gradient_inf_norm system;
  weak_point_count = system.weak_point_count;
  minimum_point_rcond = system.minimum_point_rcond;
  point_step_rms = rms squared n;
  point_damping_norm = damping_norm;
  predicted_reduction = reduction_of system s damping damping_norm;
}
