-- What holds of every list of calls of `add` of schur.rs.
-- docs/SPECIFICATION.md, "Sequences of adds".
--
-- A list has a damping d that row 3 lets through. Its first call works on a new system, each other
-- one on the system that the call before left: the one handed back, or, where that call was
-- refused, the system as it was. Each call brings a block, made from any inputs, at d or at a
-- damping that row 3 refuses. A call at such a damping is refused with row 3, one at d on a full
-- system with row 13, and each other call takes its block in. `EveryListOfAdds`, at the end, says
-- the sentences of the record `Claim` of every d and every list. `Calls.antt` has the definitions
-- of its words.
use Rattle.std.specs.Prelude.{ℕ, ◌+◌, ◌≤◌, ◌≡◌, true, false, not, ◌&&◌, IsTrue, Float, Result}
use Rattle.std.specs.Prelude.{List, [], ◌∷◌, ◌++◌, map, fold, length, filter, count_by}
use Rattle.std.specs.List.{list_all}
use Rattle.std.specs.Result.{result_err}
use Rattle.std.specs.Float.{◌≤ᶠ◌}
use Rattle.numerics.specs.Binary64.{◌⊕◌}
use Rattle.numerics.specs.Extrema.{max}
use Rattle.refusal.specs.declared.Refusal.{Refusal}
use Rattle.point_block.specs.Damping.{is_valid_damping, is_zero}
use Rattle.linearization.specs.declared.linearize.LocalLinearization.{LocalLinearization}
use Rattle.schur.specs.declared.reduced_system.ReducedSystem.{ReducedSystem}
use Rattle.schur.specs.GradientNorm.{point_gradient_norm}
use Rattle.schur.specs.PoseModel.{sum5, diagonal5}
use Rattle.schur.specs.Reduced.{new_system}
use Rattle.schur.specs.ReducedAdd.{system_after}
use Rattle.add_sequences.specs.Calls.{Call, call_result, call_results, system_after_calls}
use Rattle.add_sequences.specs.Calls.{system_after_blocks, blocks_taken_in}
use Rattle.add_sequences.specs.Calls.{Counters, zero_counters, count_calls, refusals_of}
use Rattle.add_sequences.specs.Calls.{factors, is_ill_conditioned}

-- ---- the list's own figures

-- the system after the list
abbrev pub final_system : Float → List Call → ReducedSystem
final_system d calls = system_after_calls d new_system calls

-- the blocks that it takes in, in their order
abbrev pub blocks_of : List Call → List LocalLinearization
blocks_of calls = blocks_taken_in 0 calls

-- the counters after the list
abbrev pub counters_of : Float → List Call → Counters
counters_of d calls = count_calls d zero_counters calls

-- ---- a run of the list

-- what the calls answered, one after the other
abbrev pub Run : Type 0
Run = List (Result ReducedSystem Refusal)

-- There is one answer for each call, and it is what the definition of `add` gives for the call and
-- the system that the answer before left, the first one for s.
abbrev pub CallByCall : Float → ReducedSystem → List Call → Run → Type 0
CallByCall d s [] [] = Unit {0}
CallByCall d s [] (r ∷ rs) = ⊥
CallByCall d s (c ∷ cs) [] = ⊥
CallByCall d s (c ∷ cs) (r ∷ rs) = (r ≡ call_result d s c) × CallByCall d (system_after s r) cs rs

-- the system that the last answer left
abbrev pub system_after_run : ReducedSystem → Run → ReducedSystem
system_after_run s [] = s
system_after_run s (r ∷ rs) = system_after_run (system_after s r) rs

-- The run's answers and its last system are the list's own. The last system is also that of the
-- blocks taken in by themselves, so that a refused call leaves no trace.
pub record SameFigures (d : Float) (calls : List Call) (ran : Run) : Type 0 where
  pub each : ran ≡ call_results d new_system calls
  pub last : system_after_run new_system ran ≡ final_system d calls
  pub blocks_alone : system_after_run new_system ran
      ≡ system_after_blocks d new_system (blocks_of calls)

-- ---- what the sentences say

-- The counters t, which never see a system, have the flag, the block count and the weak count of
-- the system after the list, and of each call the counters give the refusal, or that there is none.
-- They know rows 3 and 13 alone, so that row 12 never comes up.
pub record CountersAgree (d : Float) (calls : List Call) (t : Counters) : Type 0 where
  pub flag : (final_system d calls).valid ≡ t.flag
  pub blocks : (final_system d calls).block_count ≡ t.blocks
  pub weak : (final_system d calls).weak_point_count ≡ t.weak
  pub refusals : map result_err (call_results d new_system calls)
      ≡ refusals_of d zero_counters calls

-- What every block brings, one too that does not factor: the figures of t are those of s with the
-- blocks' own added one by one, in their order; of the scaled point gradients t has the largest.
pub record SumsOverBlocks (s t : ReducedSystem) (blocks : List LocalLinearization) : Type 0 where
  pub cost : t.cost ≡ fold (λ sum b. sum ⊕ b.cost) s.cost blocks
  pub squared : t.squared_residual
      ≡ fold (λ sum b. sum ⊕ b.squared_residual) s.squared_residual blocks
  pub pose_gradient : t.full_pose_gradient
      ≡ fold (λ sum b. sum5 sum b.pose_gradient) s.full_pose_gradient blocks
  pub pose_diagonal : t.pose_diagonal
      ≡ fold (λ sum b. sum5 sum (diagonal5 b.pose_hessian)) s.pose_diagonal blocks
  pub point_gradient : t.scaled_point_gradient_inf_norm
      ≡ fold (λ so_far b. max so_far (point_gradient_norm b.point_gradient b.point_hessian))
      s.scaled_point_gradient_inf_norm blocks

-- Two systems have the same equations of the pose.
pub record SameEquations (s t : ReducedSystem) : Type 0 where
  pub hessian : s.hessian ≡ t.hessian
  pub gradient : s.gradient ≡ t.gradient
  pub reduction : s.point_model_reduction ≡ t.point_model_reduction

-- At damping zero, of either sign, the weak count is how many of the blocks have no factor, and how
-- many have one with an rcond of at most 192ε, added. At any other damping it is 0.
pub record CountsWeakBlocks (d : Float) (weak : ℕ) (blocks : List LocalLinearization) : Type 0 where
  pub undamped : is_zero d ≡ true
      → weak
      ≡ count_by (λ b. not (factors d b)) blocks
      + count_by (λ b. factors d b && is_ill_conditioned d b) blocks
  pub damped : is_zero d ≡ false → weak ≡ 0

-- From s to t neither cost nor the weak count falls, the smallest rcond does not rise, and a false
-- flag stays false. The order is that of IEEE 754, so that none of these figures is a NaN.
pub record IsMonotone (s t : ReducedSystem) : Type 0 where
  pub cost : s.cost ≤ᶠ t.cost
  pub squared : s.squared_residual ≤ᶠ t.squared_residual
  pub weak : s.weak_point_count ≤ t.weak_point_count
  pub rcond : t.minimum_point_rcond ≤ᶠ s.minimum_point_rcond
  pub flag : s.valid ≡ false → t.valid ≡ false

-- ---- the claim

-- What holds of one list of calls, sentence by sentence
pub record Claim (d : Float) (calls : List Call) : Type 0 where
  -- 1. The list alone decides every figure: any run in which each call answers as the definition of
  -- `add` says has the list's own answers and last system.
  pub figures : (ran : Run) → CallByCall d new_system calls ran → SameFigures d calls ran
  -- 2. The counters give the flag, the two counts and the refusal of each call.
  pub counters : CountersAgree d calls (counters_of d calls)
  -- 3. Costs, pose gradient and pose diagonal are the sums over all blocks taken in, from +0.
  pub sums : SumsOverBlocks new_system (final_system d calls) (blocks_of calls)
  -- 4. As many blocks are taken in as the counters say.
  pub block_count : length (blocks_of calls) ≡ (counters_of d calls).blocks
  -- 5. The flag is set if and only if every block taken in factors.
  pub flag : (final_system d calls).valid ≡ list_all (factors d) (blocks_of calls)
  -- 6. The equations are those of a new system to which only the blocks that factor are added.
  pub equations : SameEquations (final_system d calls)
      (system_after_blocks d new_system (filter (factors d) (blocks_of calls)))
  -- 7. The weak count is, at damping zero, how many of the blocks taken in are weak, and else 0.
  pub weak : CountsWeakBlocks d (final_system d calls).weak_point_count (blocks_of calls)
  -- 8. Whatever calls are appended, no cost and no weak count falls, the smallest rcond does not
  -- rise, and a false flag stays false.
  pub further : (more : List Call)
      → IsMonotone (final_system d calls) (final_system d (calls ++ more))

-- The claim holds of every list of calls, at every damping that row 3 lets through.
abbrev pub EveryListOfAdds : Type 0
EveryListOfAdds = (d : Float) → IsTrue (is_valid_damping d) → (calls : List Call) → Claim d calls
