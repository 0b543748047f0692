-- The pass over all points that fills the memory for their steps, and its sums. Assumes nothing.
use Rattle.std.proofs.Common.{◌≡◌, refl, sym, ap, ◌∙◌, List, ℕ, ◌+◌, ◌-◌, ◌*◌, ◌≤◌, add-one, arith, length, take, take_all}
use borrow.Rule.Slice.PartMut.{put_mid}
use Rattle.std.proofs.lemmas.Slice.{take-put_mid}
use lib.Ieee.{Float}
use Rattle.numerics.specs.Binary64.{◌⊕◌, zero as zero·}
use Rattle.schur.specs.PointStep.{step_of, step_by_inverse}
use Rattle.schur.specs.declared.point_step.PointStep.{PointStep}
use Rattle.problem.specs.Problem.{Problem}
use Rattle.optimizer.specs.PointSteps.{step_at, steps_to, squared_norm, sums_to}

module _ (p : Problem) (s : List Float) where
  -- the steps of the first points stand in the memory
  abbrev pub Filled : ℕ → List Float → Type 0
  Filled i memory = take (3 * i) memory ≡ steps_to p s i

  pub filled_none : (memory : List Float) → Filled 0 memory
  unfolding steps_to
  filled_none memory = refl

  pub filled_next : (memory x : List Float) (i : ℕ) → Filled i memory → x ≡ (step_at p s i).step → 3 * i ≤ length memory
      → Filled (i + 1) (put_mid (3 * i) (3 * i + 3 - 3 * i) memory x)
  unfolding steps_to step_by_inverse step_of
  filled_next memory x i e f h =
      let three : length x ≡ 3 = ap length f in
      take-put_mid (3 * i) _ memory x (3 * (i + 1)) (omega arith) h ∙ rw (add-one i, e, f) refl

  pub filled_all : (memory : List Float) (n : ℕ) → Filled n memory → length memory ≡ 3 * n → memory ≡ steps_to p s n
  filled_all memory n e h = sym (take_all (3 * n) memory (omega arith)) ∙ e

  -- ---- their sums

  pub sums_none : ((sums_to p s 0).squared ≡ zero·) × ((sums_to p s 0).damping_norm ≡ zero·)
  unfolding sums_to
  sums_none = (refl, refl)

  pub squared_next : (i : ℕ) (q y : Float) (x : List Float) → q ≡ (sums_to p s i).squared → x ≡ (step_at p s i).step → y ≡ squared_norm x → q ⊕ y ≡ (sums_to p s (i + 1)).squared
  unfolding sums_to
  squared_next i q y x e f g = rw (add-one i, g, f, e) refl

  pub norm_next : (i : ℕ) (q : Float) (x : PointStep) → q ≡ (sums_to p s i).damping_norm → x ≡ step_at p s i → q ⊕ x.damping_norm ≡ (sums_to p s (i + 1)).damping_norm
  unfolding sums_to
  norm_next i q x e f = rw (add-one i, f, e) refl

-- the start of the pass, and one more point
pub ruleset passes = (filled_none, filled_next, filled_all, sums_none, squared_next, norm_next)
