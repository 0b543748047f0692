-- The outcomes of the calls of the whole step and of the limit of a pose step,
-- c_calls/src/step_calls.rt (docs/SPECIFICATION.md, "Whole step" and "C interface").
use Rattle.std.specs.Prelude.{ℕ, ◌≡◌, ◌&&◌, List, [], ◌∷◌, length, Float, Ok}
use Rattle.refusal.specs.Outcome.{Outcome, outcome}
use Rattle.refusal.specs.Chain.{map_ok}
use Rattle.problem.specs.Problem.{Problem}
use Rattle.optimizer.specs.PoseStep as PoseStep
use Rattle.optimizer.specs.Step as Step
use Rattle.optimizer.specs.declared.step_result.StepResult.{StepResult}
use Rattle.numerics.specs.Vectors.{◌!◌}
use Rattle.c_calls.specs.Outcomes.{code, if_lengths_fit, has_length}

-- the twelve numbers of a step's result, its weak point count apart
abbrev pub step_numbers : StepResult → List Float
step_numbers s =
    let p = s.pose_step in
    p ! 0 ∷ p ! 1 ∷ p ! 2 ∷ p ! 3 ∷ p ! 4
    ∷ s.cost ∷ s.squared_residual ∷ s.gradient_norm ∷ s.minimum_point_rcond
    ∷ s.point_step_rms ∷ s.point_damping_norm ∷ s.predicted_reduction ∷ []

-- its weak point count
abbrev pub step_count : StepResult → List ℕ
step_count s = s.weak_point_count ∷ []

-- the arrays that a call of the whole step may write: the steps of the points, the twelve numbers,
-- and the weak point count
pub record StepMemory : Type 0 where
  pub point_steps : List Float
  pub out : List Float
  pub weak : List ℕ

-- A call of the whole step meets an outcome: the number that it returns is the code of the
-- outcome's row, and after it the three arrays hold the outcome's values. Beside a refusal they
-- hold what they held before.
pub record HasStepOutcome (number : ℕ) (point_steps out : List Float) (weak : List ℕ)
    (a : Outcome StepMemory) : Type 0 where
  pub same_number : number ≡ code a.row
  pub same_point_steps : point_steps ≡ a.values.point_steps
  pub same_out : out ≡ a.values.out
  pub same_weak : weak ≡ a.values.weak

-- the arrays that hold a result, with the step of each point
abbrev pub step_memory : Problem → List Float → StepResult → StepMemory
step_memory p point_steps s = record {
  point_steps = Step.point_steps_after p (Ok s) point_steps;
  out = step_numbers s;
  weak = step_count s;
}

-- row 1 unless the rig, the twelve numbers and the count have their lengths; then the rows of the
-- step, or its result
unfoldable pub step : Problem → List Float → List Float → List Float → List ℕ → Outcome StepMemory
step p x point_steps out weak =
    let fits = has_length x 29 && has_length out 12 && has_length weak 1 in
    let result = map_ok (step_memory p point_steps) (Step.step p (length point_steps)) in
    outcome (record { point_steps = point_steps; out = out; weak = weak })
    (if_lengths_fit fits result)

-- the limited pose step
unfoldable pub limit_pose_step : List Float → List Float → Outcome (List Float)
limit_pose_step x out =
    let fits = has_length x 5 && has_length out 5 in
    outcome out (if_lengths_fit fits (Ok (PoseStep.limit_pose_step x)))
