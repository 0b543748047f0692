-- The whole step: what each way out of it gives. Assumes nothing.
use Rattle.std.proofs.Common.{◌≡◌, ℕ, ◌*◌, List, length, Bool, true, false, refl, sym, ap, ◌∙◌, Result, Ok, Err, eqb-true, ne_eqb, eqb}
use Rattle.std.specs.Result.{result_and}
use lib.Ieee.{Float}
use Rattle.refusal.specs.Outcome.{outcome}
use Rattle.refusal.specs.FirstRefusal.{CheckResult, refuse_unless}
use Rattle.refusal.specs.declared.Refusal.{Refusal}
use Rattle.refusal.specs.declared.Refusal.TheVariants.{Lengths, NotFactored}
use Rattle.solver.specs.Solver.{solve_positive_definite}
use Rattle.schur.specs.Reduced.{with_damping, is_valid}
use Rattle.schur.specs.declared.reduced_system.ReducedSystem.{ReducedSystem}
use Rattle.problem.specs.Problem.{Problem, count}
use Rattle.problem.specs.Checks as Checks
use Rattle.problem.proofs.Passed.{refused_first}
use Rattle.optimizer.specs.Assembly.{system_to, reduced_system}
use Rattle.optimizer.specs.PoseStep.{negated_limited_step}
use Rattle.optimizer.specs.PointSteps.{steps_to, sums_to}
use Rattle.optimizer.specs.Results.{zero_step_result, step_result}
use Rattle.optimizer.specs.Step.{result_with, step_after_checks, check_step, step, point_steps_after, StepOutcome}
use Rattle.optimizer.specs.declared.point_steps.StepSums.{StepSums}
use Rattle.optimizer.specs.declared.step_result.StepResult.{StepResult}
use Rattle.optimizer.proofs.PointStepsLaws.{none_refused}

-- ---- row 1 with the memory for the point steps: the points' length decides where the two agree,
-- and one of them is wrong where they do not

points_short : (p : Problem) → eqb (length p.points) (3 * count p) ≡ false → Checks.check_problem p ≡ Err Lengths
unfolding Checks.check_problem
points_short p e = rw e refl

lengths_differ : (p : Problem) (numbers : ℕ) → (numbers ≡ length p.points → ⊥) → check_step p numbers ≡ Err Lengths
unfolding check_step
lengths_differ p numbers t = by (eqb numbers (3 * count p)) refl
  where
    by : (b : Bool) → eqb numbers (3 * count p) ≡ b → result_and (refuse_unless b Lengths) (Checks.check_problem p) ≡ Err Lengths
    by true q = points_short p (ne_eqb (length p.points) (3 * count p) (λ k. t (eqb-true numbers (3 * count p) q ∙ sym k)))
    by false q = refl

lengths_agree : (p : Problem) (numbers : ℕ) → numbers ≡ length p.points → check_step p numbers ≡ Checks.check_problem p
unfolding check_step
lengths_agree p numbers t = by (eqb numbers (3 * count p)) refl
  where
    by : (b : Bool) → eqb numbers (3 * count p) ≡ b → result_and (refuse_unless b Lengths) (Checks.check_problem p) ≡ Checks.check_problem p
    by true q = refl
    by false q = sym (points_short p (ap (λ (l : ℕ). eqb l (3 * count p)) (sym t) ∙ q))

-- ---- a problem that is refused has the checks' refusal, and one that is let through stays as it
-- is

-- what a test of a problem answers
abbrev tested : CheckResult → Problem → Result Problem Refusal
tested r p = result_and r (Ok p)

refused_by : (r : CheckResult) (p : Problem) (e : Refusal) → tested r p ≡ Err e → r ≡ Err e
refused_by (Ok u) p e k = absurd (cc)
refused_by (Err x) p e k = cc

let_through : (r : CheckResult) (p q : Problem) → tested r p ≡ Ok q → (r ≡ Ok tt) × (q ≡ p)
let_through (Ok u) p q k = (refl, cc)
let_through (Err x) p q k = absurd (cc)

-- ---- the ways out of the whole step

module _ (p : Problem) (before : List Float) where
  refuses : (e : Refusal) → check_step p (length before) ≡ Err e → StepOutcome p before (Err e) before
  unfolding step
  refuses e h = record { result = rw h refl; same_outcome = rw h refl; point_steps = refl; none_refused = λ y. absurd (cc) }

  pub wrong_length : (length before ≡ length p.points → ⊥) → StepOutcome p before (Err Lengths) before
  wrong_length t = refuses Lengths (lengths_differ p (length before) t)

  module _ (t : length before ≡ length p.points) where
    pub unreadable : (e : Refusal) (r : Result StepResult Refusal) → tested (Checks.check_readable p) p ≡ Err e → r ≡ Err e → StepOutcome p before r before
    unreadable e r h k = rw k (refuses e (lengths_agree p (length before) t ∙ refused_first p e (refused_by _ p e h)))

    module _ (q : Problem) (read : tested (Checks.check_readable p) p ≡ Ok q) where
      same_read : q ≡ p
      same_read = (let_through _ p q read).1

      pub checks_refused : (e : Refusal) (r : Result StepResult Refusal) → tested (Checks.check_problem q) q ≡ Err e → r ≡ Err e → StepOutcome p before r before
      checks_refused e r h k = rw k (refuses e (lengths_agree p (length before) t ∙ ap Checks.check_problem (sym same_read) ∙ refused_by _ q e h))

      module _ (o : Problem) (checked : tested (Checks.check_problem q) q ≡ Ok o) where
        ok : Checks.check_problem p ≡ Ok tt
        ok = ap Checks.check_problem (sym same_read) ∙ (let_through _ q o checked).0

        same : o ≡ p
        same = (let_through _ q o checked).1 ∙ same_read

        done : (r : Result StepResult Refusal) (after : List Float) → r ≡ step_after_checks p → after ≡ point_steps_after p r before → StepOutcome p before r after
        unfolding step
        done r after e f =
            let is : r ≡ step p (length before) = e ∙ rw (lengths_agree p (length before) t, ok) refl in
            record { result = is; same_outcome = ap (outcome zero_step_result) is; point_steps = f; none_refused = λ y. none_refused p ok }

        -- the sums, made before rows 4 to 9 are asked and damped after them
        module _ (sums s : ReducedSystem) (d : Float) (a : sums ≡ system_to q (count q)) (f : d ≡ o.damping) (g : s ≡ with_damping sums d) where
          made : s ≡ reduced_system p
          unfolding reduced_system
          made = rw (g, f, a, same, same_read) refl

          pub damped : s ≡ reduced_system o
          damped = made ∙ ap reduced_system (sym same)

          pub not_valid : is_valid s ≡ false → StepOutcome p before (Err NotFactored) before
          unfolding step_after_checks
          not_valid e = done (Err NotFactored) before (rw (sym made, e) refl) refl

          module _ (valid : is_valid s ≡ true) where
            pub not_solved : (e : Refusal) (r : Result StepResult Refusal) → solve_positive_definite s.hessian s.gradient ≡ Err e → r ≡ Err e → StepOutcome p before r before
            unfolding step_after_checks
            not_solved e r k l = rw l (done (Err e) before (rw (sym made, valid, k) refl) refl)

            pub solved : (x v : List Float) (sums : StepSums) (after : List Float) (u : StepResult) → solve_positive_definite s.hessian s.gradient ≡ Ok x → v ≡ negated_limited_step x
                → sums ≡ sums_to o v (count o)
                → after ≡ steps_to o v (count o)
                → u ≡ step_result s v o.damping (count o) sums.squared sums.damping_norm
                → StepOutcome p before (Ok u) after
            unfolding step_after_checks result_with step_result
            solved x v sums after u k l e f g =
                done (Ok u) after (ap Ok g ∙ rw (e, l, same, sym made, valid, k) refl) (f ∙ rw (same, g) refl)
