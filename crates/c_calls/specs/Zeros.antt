-- What stands beside the refusal of a call that makes something, in the layouts of the C interface
-- (docs/SPECIFICATION.md, "Refusals", "What stands beside a refusal").
use Rattle.std.specs.Prelude.{◌≡◌, [], ◌∷◌}
use Rattle.numerics.specs.Vectors.{zeros}
use Rattle.projection.specs.PixelProjection.{zero_projection}
use Rattle.point_block.specs.Factor.{zero_factor}
use Rattle.point_block.specs.FactorWithRcond.{zero_conditioned_factor}
use Rattle.solver.specs.Solver.{zero_solution}
use Rattle.linearization.specs.Linearize.{zero_linearization}
use Rattle.schur.specs.PointStep.{zero_point_step}
use Rattle.optimizer.specs.Results.{zero_step_result}
use Rattle.c_calls.specs.LayoutNumbers.{block_numbers}
use Rattle.c_calls.specs.MatrixCalls.{factor_numbers}
use Rattle.c_calls.specs.PointCalls.{projection_numbers, point_step_numbers}
use Rattle.c_calls.specs.StepCalls.{step_numbers, step_count}

-- every number of each layout is +0, and the weak count is 0
pub record EveryNumberIsZero : Type 0 where
  pub projection : projection_numbers zero_projection ≡ zeros 8
  pub factor : zero_factor.inverse ≡ zeros 6
  pub factor_with_rcond : factor_numbers zero_conditioned_factor ≡ zeros 7
  pub solution : zero_solution ≡ zeros 5
  pub block : block_numbers zero_linearization ≡ zeros 59
  pub point_step : point_step_numbers zero_point_step ≡ zeros 4
  pub step : step_numbers zero_step_result ≡ zeros 12
  pub weak_count : step_count zero_step_result ≡ 0 ∷ []
