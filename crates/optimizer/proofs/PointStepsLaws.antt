-- On a problem that rows 1 to 9 let through no call within the step is refused; once the system
-- is valid no point step is, since each block factors. Assumes nothing.
use Rattle.std.proofs.Common.{◌≡◌, refl, sym, ap, ◌∙◌, true, true≢false, List, ℕ, ◌<◌, Result, Ok, Err, is_ok}
use lib.Ieee.{Float}
use Rattle.refusal.specs.declared.Refusal.{Refusal}
use Rattle.point_block.specs.Damping.{is_valid_damping}
use Rattle.point_block.specs.FactorWithRcond.{factor, inverse_at}
use Rattle.point_block.specs.declared.PointBlockFactor.{PointBlockFactor}
use Rattle.point_block.proofs.Laws.{factors_with_rcond, factor_is}
use Rattle.linearization.specs.Linearize.{block_of, point_terms}
use Rattle.linearization.specs.declared.terms.PointTerms.{PointTerms}
use Rattle.linearization.specs.declared.views.Correspondence.{Correspondence}
use Rattle.linearization.specs.declared.views.Rig.{Rig}
use Rattle.linearization.specs.declared.linearize.LocalLinearization.{LocalLinearization}
use Rattle.schur.specs.Reduced.{is_valid, finish_damping, predicted_reduction}
use Rattle.schur.specs.PointStep.{step_by_inverse, damped_step, point_step}
use Rattle.schur.specs.PointStep as Point
use Rattle.schur.specs.declared.point_step.PointStep.{PointStep}
use Rattle.add_sequences.specs.Calls.{factors}
use Rattle.problem.specs.Problem.{Problem, count, correspondence_at}
use Rattle.problem.specs.Checks.{check_problem}
use Rattle.problem.proofs.Passed.{passed, block_made}
use Rattle.optimizer.specs.Assembly.{block_at, reduced_system}
use Rattle.optimizer.specs.PointSteps.{step_at}
use Rattle.optimizer.specs.Step.{NoneRefused}
use Rattle.optimizer.proofs.Blocks.{added, block_factors}

-- a block that factors has the step of the formulas
damped_steps : (b : LocalLinearization) (d : Float) (s : List Float) → is_valid_damping d ≡ true → factors d b ≡ true → damped_step (point_terms b) d s ≡ Ok (Point.step_at (point_terms b) d s)
unfolding damped_step point_terms factors
damped_steps b d s g e = by (factor b.point_hessian d) refl (sym (factors_with_rcond b.point_hessian d g) ∙ e)
  where
    step_by : Result PointBlockFactor Refusal → Result PointStep Refusal
    step_by f = elim f [ Ok k ↦ Ok (step_by_inverse k.inverse (point_terms b) s) | Err q ↦ Err q ]

    by : (f : Result PointBlockFactor Refusal) → factor b.point_hessian d ≡ f → is_ok f ≡ true → step_by f ≡ Ok (step_by_inverse (inverse_at b.point_hessian d) (point_terms b) s)
    by (Ok k) q t = ap (λ (i : List Float). Ok (step_by_inverse i (point_terms b) s)) (factor_is b.point_hessian d k q)
    by (Err r) q t = absurd (true≢false (sym t))

module _ (p : Problem) (ok : check_problem p ≡ Ok tt) where
  good : is_valid_damping p.damping ≡ true
  good = (passed p ok).damping

  pub step_given : is_valid (reduced_system p) ≡ true → (i : ℕ) → i < count p → (s : List Float) → damped_step (point_terms (block_at p i)) p.damping s ≡ Ok (step_at p s i)
  step_given valid i k s = damped_steps (block_at p i) p.damping s good (block_factors p ok valid i k)

  -- the same of terms that are worked out as the pass over the points does
  pub moved_is : is_valid (reduced_system p) ≡ true → (s : List Float) (i : ℕ) → i < count p
      → (q : Problem) (c : Correspondence) (rig : Rig) (t : PointTerms) (d : Float) (r : Result PointStep Refusal)
      → q ≡ p → c ≡ correspondence_at q i → rig ≡ q.rig → t ≡ point_terms (block_of rig c) → d ≡ p.damping → r ≡ damped_step t d s
      → r ≡ Ok (step_at p s i)
  moved_is valid s i l q c rig t d r e f j g h k = rw (k, g, h, j, f, e) (step_given valid i l s)

  pub none_refused : NoneRefused p
  unfolding finish_damping predicted_reduction point_step reduced_system
  none_refused = record {
    blocks = block_made p ok;
    adds = added p ok;
    damping = rw good refl;
    steps = λ valid i k s. rw good (step_given valid i k s);
    prediction = λ s norm. rw good refl;
  }
