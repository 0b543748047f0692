-- One whole step: `refine_impl` of kernel/two_view/optimizer.rs from `reduced_system` to
-- `predicted_reduction`, run once; and the theorem that nothing within it is refused but by rows 10
-- and 11. docs/SPECIFICATION.md, "Whole step".
use Rattle.std.specs.Prelude.{ℕ, suc, ◌*◌, ◌<◌, ◌≡◌, IsTrue, if◌then◌else◌, List, ◌==◌, length}
use Rattle.std.specs.Prelude.{Float, Result, Ok, Err}
use Rattle.std.specs.Result.{result_and}
use Rattle.refusal.specs.Outcome.{outcome}
use Rattle.refusal.specs.FirstRefusal.{CheckResult, refuse_unless}
use Rattle.refusal.specs.Chain.{map_ok}
use Rattle.refusal.specs.declared.Refusal.{Refusal}
use Rattle.refusal.specs.declared.Refusal.TheVariants.{Lengths, NotFactored}
use Rattle.linearization.specs.Linearize.{linearize_point}
use Rattle.problem.specs.Problem.{Problem, count, correspondence_at}
use Rattle.problem.specs.Checks as Checks
use Rattle.solver.specs.Solver.{solve_positive_definite}
use Rattle.schur.specs.ReducedAdd.{add}
use Rattle.schur.specs.Reduced.{is_valid, finish_damping, predicted_reduction, reduction_of}
use Rattle.optimizer.specs.Assembly.{block_at, system_to, reduced_system}
use Rattle.optimizer.specs.PoseStep.{negated_limited_step}
use Rattle.optimizer.specs.PointSteps.{answer_at, step_at, steps_to, sums_to}
use Rattle.optimizer.specs.Results.{zero_step_result, step_result}
use Rattle.optimizer.specs.declared.step_result.StepResult.{StepResult}

-- x with S x = g, for the damped reduced Hessian S and the reduced gradient g; or row 11
abbrev pub solution_of : Problem → Result (List Float) Refusal
solution_of p = solve_positive_definite (reduced_system p).hessian (reduced_system p).gradient

-- the figures of the step with the limited pose step s
unfoldable pub result_with : Problem → List Float → StepResult
result_with p s =
    let sums = sums_to p s (count p) in
    step_result (reduced_system p) s p.damping (count p) sums.squared sums.damping_norm

-- Row 10 where the system is not valid, row 11 where it has no solution x; else the step whose pose
-- step is −x, limited.
unfoldable pub step_after_checks : Problem → Result StepResult Refusal
step_after_checks p =
    if is_valid (reduced_system p)
    then map_ok (λ x. result_with p (negated_limited_step x)) (solution_of p)
    else Err NotFactored

-- rows 1 to 9, where the memory for the point steps has so many numbers: row 1 if they are not 3n
unfoldable pub check_step : Problem → ℕ → CheckResult
check_step p numbers =
    result_and (refuse_unless (numbers == 3 * count p) Lengths) (Checks.check_problem p)

-- rows 1 to 11, the first that holds; else the step
unfoldable pub step : Problem → ℕ → Result StepResult Refusal
step p numbers = result_and (check_step p numbers) (step_after_checks p)

-- the memory for the point steps after a call that answers r: the steps of all points for its pose
-- step, or, beside a refusal, what it held before
abbrev pub point_steps_after : Problem → Result StepResult Refusal → List Float → List Float
point_steps_after p (Ok r) before = steps_to p r.pose_step (count p)
point_steps_after p (Err e) before = before

-- A theorem of every problem that rows 1 to 9 let through, where `StepOutcome` cites it: no call
-- within its step is refused but by rows 10 and 11.
pub record NoneRefused (p : Problem) : Type 0 where
  -- the block maker gives each point its block
  pub blocks : (i : ℕ) → i < count p
      → linearize_point p.rig (correspondence_at p i) ≡ Ok (block_at p i)
  -- `add` takes each block in
  pub adds : (i : ℕ) → i < count p
      → add (system_to p i) (block_at p i) p.damping ≡ Ok (system_to p (suc i))
  -- `finish_damping` damps the pose
  pub damping : finish_damping (system_to p (count p)) p.damping ≡ Ok (reduced_system p)
  -- in a valid system each point has its step, whatever the step of the pose
  pub steps : IsTrue (is_valid (reduced_system p)) → (i : ℕ) → i < count p → (s : List Float)
      → answer_at p s i ≡ Ok (step_at p s i)
  -- the reduction is predicted, whatever the step of the pose and the damping norm
  pub prediction : (s : List Float) (norm : Float)
      → predicted_reduction (reduced_system p) s p.damping norm
      ≡ Ok (reduction_of (reduced_system p) s p.damping norm)

-- What one call of the step promises, which finds `before` in the memory for the point steps,
-- answers r and leaves `after` there.
pub record StepOutcome (p : Problem) (before : List Float) (r : Result StepResult Refusal)
    (after : List Float) : Type 0 where
  -- the answer is the step, or the first row that refuses it
  pub result : r ≡ step p (length before)
  -- and so is its outcome, with +0 for each number beside a refusal
  pub same_outcome : outcome zero_step_result r ≡ outcome zero_step_result (step p (length before))
  -- the memory holds the steps of all points, or, beside a refusal, what it held
  pub point_steps : after ≡ point_steps_after p r before
  -- where rows 1 to 9 let the problem through, nothing but rows 10 and 11 refuses it
  pub none_refused : check_step p (length before) ≡ Ok tt → NoneRefused p
