-- The claim on every list of calls, proved by one induction over the calls. Assumes nothing.
use Rattle.std.proofs.Common.{◌≡◌, refl, sym, ap, ap₂, ◌∙◌, subst, ℕ, suc, ◌+◌, ◌≤◌, Bool, true, false, not, ◌&&◌, ◌||◌, cond, T, true≢false, List, [], ◌∷◌, ◌++◌, map, length, filter, Result, Ok, Err, Some, None, arith, le-leb, lt-ltb, ltb-true, le_trans as le-trans·, lt_of_le_of_lt, suc-le-suc, zero-add}
use mathlib.Core.Bool.{and-true, and_assoc}
use lib.Ieee.{Float, fits, binary64, le, of_bits}
use lib.Ieee.Fits.{add-fits}
use Rattle.numerics.specs.Binary64.{zero}
use Rattle.numerics.specs.Classify.{is_nonnegative}
use Rattle.numerics.proofs.Order.{le_refl, nonneg_not_nan, nonneg_add}
use Rattle.numerics.proofs.Monotone.{le_add, le_trans, zero-le, nonneg_zero}
use Rattle.numerics.specs.Extrema.{min}
use Rattle.numerics.proofs.Laws.{min_le_left, nonneg_min}
use Rattle.std.specs.List.{list_all}
use Rattle.std.proofs.lemmas.List.Sums.{length-filter}
use Rattle.std.specs.Result.{result_err}
use Rattle.refusal.specs.declared.Refusal.{Refusal}
use Rattle.refusal.specs.declared.Refusal.TheVariants.{Damping, Full}
use Rattle.point_block.specs.Condition.{reciprocal_condition_number, is_weak}
use Rattle.point_block.specs.Damping.{is_valid_damping, is_zero}
use Rattle.point_block.specs.FactorWithRcond.{factor, factor_with_rcond}
use Rattle.point_block.specs.declared.PointBlockFactor.{PointBlockFactor}
use Rattle.point_block.proofs.Laws.{rcond_nonneg}
use Rattle.linearization.specs.declared.linearize.LocalLinearization.{LocalLinearization}
use Rattle.schur.specs.declared.reduced_system.ReducedSystem.{ReducedSystem}
use Rattle.schur.specs.Reduced.{new_system}
use Rattle.schur.specs.SchurComplement.{reduced_hessian, reduced_gradient, point_reduction}
use Rattle.schur.specs.BlockElimination.{count_if, elimination_without_factor, elimination_by_inverse, elimination_of}
use Rattle.schur.proofs.FactorCases.{factor_cases}
use Rattle.schur.proofs.Room.{count_if_bounds, blocks_taken, weak_taken_at_most}
use Rattle.schur.specs.ReducedAdd.{max_blocks, with_block, add, system_after}
use Rattle.add_sequences.specs.Calls.{Inputs, linearization_of, Call, Add, RefusedAdd, system_after_call, call_results, system_after_calls, system_after_blocks, Counters, factors, is_ill_conditioned, has_room, count_block, count_calls, refusals_of, blocks_taken_in}
use Rattle.linearization.proofs.Costs.{Costs, made_costs}
use Rattle.add_sequences.specs.Claim.{CallByCall, system_after_run, final_system, blocks_of, SumsOverBlocks, SameEquations, IsMonotone, Claim}

-- ---- what one call hands back

-- row 12 does not refuse
abbrev Counts : ReducedSystem → Type 0
Counts s = s.weak_point_count ≤ s.block_count

-- row 3 refuses
add_bad : (s : ReducedSystem) (b : LocalLinearization) (x : Float) → is_valid_damping x ≡ false → add s b x ≡ Err Damping
unfolding add
add_bad s b x h = rw h refl

module _ (d : Float) (valid : is_valid_damping d ≡ true) where
  -- nothing refuses
  add_taken : (s : ReducedSystem) (b : LocalLinearization) → Counts s → has_room s.block_count ≡ true → add s b d ≡ Ok (with_block s b d)
  unfolding add
  add_taken s b c e = rw (valid, le-leb _ _ c, e) refl

  -- row 13 refuses
  add_full : (s : ReducedSystem) (b : LocalLinearization) → Counts s → has_room s.block_count ≡ false → add s b d ≡ Err Full
  unfolding add
  add_full s b c e = rw (valid, le-leb _ _ c, e) refl

  -- ---- a block taken in

  -- its factor is that of `factor_with_rcond`, and so is its rcond
  module _ (b : LocalLinearization) where
    factors_if : (f : PointBlockFactor) → factor b.point_hessian d ≡ Ok f → factors d b ≡ true
    unfolding factors factor_with_rcond
    factors_if f h = rw (valid, h) refl

    factors_unless : (r : Refusal) → factor b.point_hessian d ≡ Err r → factors d b ≡ false
    unfolding factors factor_with_rcond
    factors_unless r h = rw (valid, h) refl

    same_rcond : (f : PointBlockFactor) → factor b.point_hessian d ≡ Ok f → is_ill_conditioned d b ≡ is_weak (reciprocal_condition_number f.inverse b.point_hessian)
    unfolding is_ill_conditioned factor_with_rcond
    same_rcond f h = rw (valid, h) refl

  -- the flag and the weak count after it, in the words of the counters
  module _ (s : ReducedSystem) (b : LocalLinearization) where
    valid_taken : (with_block s b d).valid ≡ (s.valid && factors d b)
    unfolding with_block elimination_of elimination_by_inverse elimination_without_factor
    valid_taken = factor_cases b.point_hessian d (λ f h. rw (h, elimination_of, factors_if b f h) refl) (λ r h. rw (h, elimination_of, factors_unless b r h) refl)

    weak_taken : (with_block s b d).weak_point_count ≡ count_if (is_zero d && (not (factors d b) || is_ill_conditioned d b)) s.weak_point_count
    unfolding with_block elimination_of elimination_by_inverse elimination_without_factor
    weak_taken = factor_cases b.point_hessian d (λ f h. rw (h, elimination_of, factors_if b f h, same_rcond b f h) refl) (λ r h. rw (h, elimination_of, factors_unless b r h, and-true (is_zero d)) refl)

  -- the reduced equations see a block that factors, and no other
  module _ (s t : ReducedSystem) (b : LocalLinearization) (same : SameEquations s t) where
    equations_factored : factors d b ≡ true → SameEquations (with_block s b d) (with_block t b d)
    unfolding with_block elimination_of elimination_by_inverse
    equations_factored e = factor_cases b.point_hessian d
        (λ f h. rw (h, elimination_of) (record {
          hessian = ap (λ x. reduced_hessian x f.inverse b) same.hessian;
          gradient = ap (λ x. reduced_gradient x f.inverse b) same.gradient;
          reduction = ap (λ x. point_reduction x f.inverse b) same.reduction;
        }))
        (λ r h. absurd (true≢false (sym e ∙ factors_unless b r h)))

    equations_refused : factors d b ≡ false → SameEquations (with_block s b d) t
    unfolding with_block elimination_of elimination_without_factor
    equations_refused e = factor_cases b.point_hessian d (λ f h. absurd (true≢false (sym (factors_if b f h) ∙ e)))
        (λ r h. rw (h, elimination_of) (record { hessian = same.hessian; gradient = same.gradient; reduction = same.reduction }))

  -- ---- what further calls never do

  -- the counts are in order, and the figures that are compared are numbers not below zero
  record Sound (s : ReducedSystem) : Type 0 where
    counts : Counts s
    cost : T (is_nonnegative s.cost)
    cost_fits : T (fits binary64 s.cost)
    squared : T (is_nonnegative s.squared_residual)
    squared_fits : T (fits binary64 s.squared_residual)
    rcond : T (is_nonnegative s.minimum_point_rcond)

  -- further calls may do nothing
  further_refl : (s : ReducedSystem) → Sound s → IsMonotone s s
  further_refl s k = record {
    cost = le_refl s.cost (nonneg_not_nan s.cost k.cost);
    squared = le_refl s.squared_residual (nonneg_not_nan s.squared_residual k.squared);
    weak = omega arith;
    rcond = le_refl s.minimum_point_rcond (nonneg_not_nan s.minimum_point_rcond k.rcond);
    flag = λ h. h;
  }

  -- and go on
  further_trans : (s t u : ReducedSystem) → IsMonotone s t → IsMonotone t u → IsMonotone s u
  further_trans s t u f g = record {
    cost = le_trans s.cost t.cost u.cost f.cost g.cost;
    squared = le_trans s.squared_residual t.squared_residual u.squared_residual f.squared g.squared;
    weak = le-trans· f.weak g.weak;
    rcond = le_trans u.minimum_point_rcond t.minimum_point_rcond s.minimum_point_rcond g.rcond f.rcond;
    flag = λ h. g.flag (f.flag h);
  }

  -- of a block whose costs are numbers not below zero, as those of every block are
  module _ (s : ReducedSystem) (b : LocalLinearization) (k : Sound s) (cost : T (is_nonnegative b.cost)) (squared : T (is_nonnegative b.squared_residual)) where
    -- the smallest rcond stays a number not below zero, and does not rise
    rcond_taken : T (is_nonnegative (with_block s b d).minimum_point_rcond) × T (le (with_block s b d).minimum_point_rcond s.minimum_point_rcond)
    unfolding with_block elimination_of elimination_by_inverse elimination_without_factor
    rcond_taken =
        factor_cases b.point_hessian d
        (λ f h. let r = reciprocal_condition_number f.inverse b.point_hessian in
        rw (h, elimination_of) (by (is_zero d) (min m r) (nonneg_min m r k.rcond (rcond_nonneg f.inverse b.point_hessian)) (min_le_left m r (nonneg_not_nan m k.rcond))))
        (λ r h. rw (h, elimination_of) (by (is_zero d) zero (nonneg_zero binary64) (zero-le m k.rcond)))
      where
        m : Float
        m = s.minimum_point_rcond

        by : (z : Bool) (x : Float) → T (is_nonnegative x) → T (le x m) → T (is_nonnegative (cond z x m)) × T (le (cond z x m) m)
        by true x n l = (n, l)
        by false x n l = (k.rcond, le_refl m (nonneg_not_nan m k.rcond))

    -- the block keeps the figures so
    sound_taken : Sound (with_block s b d)
    unfolding with_block
    sound_taken = record {
      counts = weak_taken_at_most s b d k.counts;
      cost = nonneg_add binary64 s.cost b.cost k.cost cost;
      cost_fits = add-fits binary64 s.cost b.cost;
      squared = nonneg_add binary64 s.squared_residual b.squared_residual k.squared squared;
      squared_fits = add-fits binary64 s.squared_residual b.squared_residual;
      rcond = rcond_taken.0;
    }

    -- and moves none of them the wrong way
    further_taken : IsMonotone s (with_block s b d)
    unfolding with_block
    further_taken = record {
      cost = le_add binary64 s.cost b.cost k.cost_fits k.cost cost;
      squared = le_add binary64 s.squared_residual b.squared_residual k.squared_fits k.squared squared;
      weak = rw (weak_taken s b) (count_if_bounds (is_zero d && (not (factors d b) || is_ill_conditioned d b)) s.weak_point_count).0;
      rcond = rcond_taken.1;
      flag = λ h. valid_taken s b ∙ ap (λ (x : Bool). x && factors d b) h;
    }

  -- ---- the calls, one by one

  -- what the counters should be at a system
  abbrev counters_at : ReducedSystem → Counters
  counters_at s = record { flag = s.valid; blocks = s.block_count; weak = s.weak_point_count }

  -- they count a block as `add` does
  counters_taken : (s : ReducedSystem) (b : LocalLinearization) → counters_at (with_block s b d) ≡ count_block d (counters_at s) b
  counters_taken s b = rw (valid_taken s b, blocks_taken s b d, weak_taken s b) refl

  -- how many blocks are weak at damping zero
  abbrev weak_in : List LocalLinearization → ℕ
  weak_in bs = length (filter (λ b. not (factors d b)) bs) + length (filter (λ b. factors d b && is_ill_conditioned d b) bs)

  -- What calls that take in the blocks bs make of s. The equations are those of any other system
  -- that had the same and adds only the blocks that factor.
  record From (s end : ReducedSystem) (t : Counters) (bs : List LocalLinearization) : Type 0 where
    sound : Sound end
    counters : counters_at end ≡ t
    blocks_alone : end ≡ system_after_blocks d s bs
    sums : SumsOverBlocks s end bs
    block_count : s.block_count + length bs ≡ end.block_count
    flag : end.valid ≡ (s.valid && list_all (factors d) bs)
    equations : (u : ReducedSystem) → Counts u → u.block_count ≤ s.block_count → SameEquations s u
        → SameEquations end (system_after_blocks d u (filter (factors d) bs))
    weak_zero : is_zero d ≡ true → end.weak_point_count ≡ s.weak_point_count + weak_in bs
    weak_other : is_zero d ≡ false → end.weak_point_count ≡ s.weak_point_count
    further : IsMonotone s end

  -- no calls
  from_none : (s : ReducedSystem) → Sound s → From s s (counters_at s) []
  from_none s k = record {
    sound = k;
    counters = refl;
    blocks_alone = refl;
    sums = record { cost = refl; squared = refl; pose_gradient = refl; pose_diagonal = refl; point_gradient = refl };
    block_count = omega arith;
    flag = sym (and-true s.valid);
    equations = λ u c l same. same;
    weak_zero = λ z. omega arith;
    weak_other = λ z. refl;
    further = further_refl s k;
  }

  -- one call that takes its block in, and then others
  module _ (s : ReducedSystem) (i : Inputs) (k : Sound s) (free : has_room s.block_count ≡ true) where
    abbrev b : LocalLinearization
    b = linearization_of i

    costs : Costs b
    costs = made_costs i.rig i.correspondence

    next_sound : Sound (with_block s b d)
    next_sound = sound_taken s b k costs.0 costs.1

    module _ (end : ReducedSystem) (t : Counters) (bs : List LocalLinearization) (f : From (with_block s b d) end t bs) where
      from_sums : SumsOverBlocks s end (b ∷ bs)
      unfolding with_block
      from_sums = let g = f.sums in record {
        cost = g.cost;
        squared = g.squared;
        pose_gradient = g.pose_gradient;
        pose_diagonal = g.pose_diagonal;
        point_gradient = g.point_gradient;
      }

      from_block_count : s.block_count + length (b ∷ bs) ≡ end.block_count
      from_block_count = let e = f.block_count in let c = blocks_taken s b d in omega arith

      from_flag : end.valid ≡ (s.valid && list_all (factors d) (b ∷ bs))
      from_flag = f.flag ∙ ap (λ (x : Bool). x && list_all (factors d) bs) (valid_taken s b) ∙ and_assoc s.valid (factors d b) (list_all (factors d) bs)

      from_weak : is_zero d ≡ true → end.weak_point_count ≡ s.weak_point_count + weak_in (b ∷ bs)
      from_weak z = by (factors d b) (is_ill_conditioned d b) (f.weak_zero z ∙ ap (λ n. n + weak_in bs) (weak_taken s b ∙ rw z refl))
        where
          by : (x y : Bool) → end.weak_point_count ≡ count_if (not x || y) s.weak_point_count + weak_in bs
              → end.weak_point_count ≡ s.weak_point_count + (length (cond (not x) (b ∷ filter (λ b. not (factors d b)) bs) (filter (λ b. not (factors d b)) bs))
              + length (cond (x && y) (b ∷ filter (λ b. factors d b && is_ill_conditioned d b) bs) (filter (λ b. factors d b && is_ill_conditioned d b) bs)))
          by true true e = omega arith
          by true false e = omega arith
          by false y e = omega arith

      from_equations : (u : ReducedSystem) → Counts u → u.block_count ≤ s.block_count → SameEquations s u
          → SameEquations end (system_after_blocks d u (filter (factors d) (b ∷ bs)))
      from_equations u c below same = by (factors d b) refl
        where
          u_free : has_room u.block_count ≡ true
          u_free = lt-ltb u.block_count max_blocks (lt_of_le_of_lt below (ltb-true s.block_count max_blocks free))

          by : (x : Bool) → factors d b ≡ x → SameEquations end (system_after_blocks d u (cond x (b ∷ filter (factors d) bs) (filter (factors d) bs)))
          by true e = subst (λ (a : Result ReducedSystem Refusal). SameEquations end (system_after_blocks d (system_after u a) (filter (factors d) bs))) (sym (add_taken u b c u_free))
              (f.equations (with_block u b d) (weak_taken_at_most u b d c) (rw (blocks_taken u b d, blocks_taken s b d) (suc-le-suc below))
              (equations_factored s u b same e))
          by false e = f.equations u c (rw (blocks_taken s b d) (omega (arith, below))) (equations_refused s u b same e)

      from_taken : From s end t (b ∷ bs)
      from_taken = record {
        sound = f.sound;
        counters = f.counters;
        blocks_alone = f.blocks_alone ∙ sym (ap (λ (a : Result ReducedSystem Refusal). system_after_blocks d (system_after s a) bs) (add_taken s b k.counts free));
        sums = from_sums;
        block_count = from_block_count;
        flag = from_flag;
        equations = from_equations;
        weak_zero = from_weak;
        weak_other = λ z. f.weak_other z ∙ weak_taken s b ∙ rw z refl;
        further = further_trans s (with_block s b d) end (further_taken s b k costs.0 costs.1) f.further;
      }

  -- the induction, over the calls
  abbrev Rest : List Call → ReducedSystem → Type 0
  Rest cs s = From s (system_after_calls d s cs) (count_calls d (counters_at s) cs) (blocks_taken_in s.block_count cs)

  from : (s : ReducedSystem) (cs : List Call) → Sound s → Rest cs s
  from s [] k = from_none s k
  from s (RefusedAdd i x h ∷ cs) k = rw (add_bad s (linearization_of i) x h) (from s cs k)
  from s (Add i ∷ cs) k = by (has_room s.block_count) refl (λ h. from (with_block s (linearization_of i) d) cs h) (from s cs k)
    where
      by : (x : Bool) → has_room s.block_count ≡ x → (Sound (with_block s (linearization_of i) d) → Rest cs (with_block s (linearization_of i) d)) → Rest cs s
          → From s (system_after_calls d (system_after s (add s (linearization_of i) d)) cs) (count_calls d (cond x (count_block d (counters_at s) (linearization_of i)) (counters_at s)) cs)
          (cond x (linearization_of i ∷ blocks_taken_in (suc s.block_count) cs) (blocks_taken_in s.block_count cs))
      by true e f g = rw (add_taken s (linearization_of i) k.counts e)
          (from_taken s i k e (system_after_calls d (with_block s (linearization_of i) d) cs) (count_calls d (count_block d (counters_at s) (linearization_of i)) cs) (blocks_taken_in (suc s.block_count) cs)
          (rw (← counters_taken s (linearization_of i), ← blocks_taken s (linearization_of i) d) (f (next_sound s i k e))))
      by false e f g = rw (add_full s (linearization_of i) k.counts e) g

  -- each refusal is that of the counters
  refusals_each : (s : ReducedSystem) (cs : List Call) → Sound s → map result_err (call_results d s cs) ≡ refusals_of d (counters_at s) cs
  refusals_each s [] k = refl
  refusals_each s (RefusedAdd i x h ∷ cs) k = rw (add_bad s (linearization_of i) x h) (ap (λ l. Some Damping ∷ l) (refusals_each s cs k))
  refusals_each s (Add i ∷ cs) k = by (has_room s.block_count) refl (λ h. refusals_each (with_block s (linearization_of i) d) cs h) (refusals_each s cs k)
    where
      by : (x : Bool) → has_room s.block_count ≡ x
          → (Sound (with_block s (linearization_of i) d) → map result_err (call_results d (with_block s (linearization_of i) d) cs) ≡ refusals_of d (counters_at (with_block s (linearization_of i) d)) cs)
          → map result_err (call_results d s cs) ≡ refusals_of d (counters_at s) cs
          → (result_err (add s (linearization_of i) d) ∷ map result_err (call_results d (system_after s (add s (linearization_of i) d)) cs))
          ≡ cond x None (Some Full) ∷ refusals_of d (cond x (count_block d (counters_at s) (linearization_of i)) (counters_at s)) cs
      by true e f g = rw (add_taken s (linearization_of i) k.counts e, ← counters_taken s (linearization_of i)) (ap (λ l. None ∷ l) (f (next_sound s i k e)))
      by false e f g = rw (add_full s (linearization_of i) k.counts e) (ap (λ l. Some Full ∷ l) g)

  -- one list and then another
  after_append : (s : ReducedSystem) (cs more : List Call) → system_after_calls d s (cs ++ more) ≡ system_after_calls d (system_after_calls d s cs) more
  after_append s [] more = refl
  after_append s (c ∷ cs) more = after_append (system_after_call d s c) cs more

  -- whoever runs the list call by call has its results
  ran_each : (s : ReducedSystem) (cs : List Call) (ran : List (Result ReducedSystem Refusal)) → CallByCall d s cs ran → (ran ≡ call_results d s cs) × (system_after_run s ran ≡ system_after_calls d s cs)
  ran_each s [] [] h = (refl, refl)
  ran_each s [] (r ∷ rs) h = absurd h
  ran_each s (c ∷ cs) [] h = absurd h
  ran_each s (c ∷ cs) (r ∷ rs) h =
      let k = ran_each (system_after s r) cs rs h.1 in
      subst (λ (x : Result ReducedSystem Refusal). (r ∷ rs ≡ x ∷ call_results d (system_after s x) cs) × (system_after_run (system_after s r) rs ≡ system_after_calls d (system_after s x) cs)) h.0 (ap (λ l. r ∷ l) k.0, k.1)

  -- the figures of a new system are such numbers
  sound_new : Sound new_system
  unfolding new_system is_nonnegative of_bits fits
  sound_new = record { counts = omega arith; cost = tt; cost_fits = tt; squared = tt; squared_fits = tt; rcond = tt }

  -- ---- the theorem

  pub claim : (calls : List Call) → Claim d calls
  unfolding new_system
  claim calls = let f = from new_system calls sound_new in record {
    figures = λ ran h. let k = ran_each new_system calls ran h in record { each = k.0; last = k.1; blocks_alone = k.1 ∙ f.blocks_alone };
    counters = record {
      flag = ap (λ (t : Counters). t.flag) f.counters;
      blocks = ap (λ (t : Counters). t.blocks) f.counters;
      weak = ap (λ (t : Counters). t.weak) f.counters;
      refusals = refusals_each new_system calls sound_new;
    };
    sums = f.sums;
    block_count = sym (zero-add (length (blocks_of calls))) ∙ f.block_count ∙ ap (λ (t : Counters). t.blocks) f.counters;
    flag = f.flag;
    equations = f.equations new_system sound_new.counts (omega arith) (record { hessian = refl; gradient = refl; reduction = refl });
    weak = record {
      undamped = λ z. let bs = blocks_of calls in f.weak_zero z ∙ zero-add (weak_in bs) ∙ ap₂ (λ (m n : ℕ). m + n) (length-filter _ bs) (length-filter _ bs);
      damped = f.weak_other;
    };
    further = λ more. subst (IsMonotone (final_system d calls)) (sym (after_append new_system calls more))
        (from (final_system d calls) more f.sound).further;
  }
