-- Lists of calls of `add` of schur.rs: what the calls answer and leave; the counters, which see
-- only the blocks and the dampings; and the blocks taken in.
-- docs/SPECIFICATION.md, "Sequences of adds".
use Rattle.std.specs.Prelude.{ℕ, suc, ◌≡◌, Bool, true, false, not, ◌&&◌, ◌||◌, if◌then◌else◌}
use Rattle.std.specs.Prelude.{nat_lt, List, [], ◌∷◌, Float, Result, Ok, Err, Option, Some, None, is_ok}
use Rattle.numerics.specs.Binary64.{zero}
use Rattle.refusal.specs.declared.Refusal.{Refusal}
use Rattle.refusal.specs.declared.Refusal.TheVariants.{Damping, Full}
use Rattle.point_block.specs.Condition.{is_weak}
use Rattle.point_block.specs.Damping.{is_valid_damping, is_zero}
use Rattle.point_block.specs.FactorWithRcond.{factor_with_rcond}
use Rattle.linearization.specs.declared.linearize.LocalLinearization.{LocalLinearization}
use Rattle.linearization.specs.declared.views.Rig.{Rig}
use Rattle.linearization.specs.declared.views.Correspondence.{Correspondence}
use Rattle.linearization.specs.Linearize.{block_or_zeros, linearize_point}
use Rattle.schur.specs.declared.reduced_system.ReducedSystem.{ReducedSystem}
use Rattle.schur.specs.BlockElimination.{count_if}
use Rattle.schur.specs.ReducedAdd.{max_blocks, add, system_after}

-- ---- calls

-- what a block is made from: any numbers
pub record Inputs : Type 0 where
  pub rig : Rig
  pub correspondence : Correspondence

-- the block of some inputs: what `linearize_point` gives, and +0 everywhere where it refuses
abbrev pub linearization_of : Inputs → LocalLinearization
linearization_of i = block_or_zeros (linearize_point i.rig i.correspondence)

-- A call of `add` brings the block of some inputs, at the list's damping or at one that row 3
-- refuses.
pub data Call : Type 0 where
  Add : Inputs → Call
  RefusedAdd : Inputs → (damping : Float) → is_valid_damping damping ≡ false → Call

-- ---- `add`, call by call, at the list's damping d

-- what a call answers on the system s
abbrev pub call_result : Float → ReducedSystem → Call → Result ReducedSystem Refusal
call_result d s (Add i) = add s (linearization_of i) d
call_result d s (RefusedAdd i x h) = add s (linearization_of i) x

-- the system after a call: s as it was where the call is refused
abbrev pub system_after_call : Float → ReducedSystem → Call → ReducedSystem
system_after_call d s c = system_after s (call_result d s c)

-- what each call of a list answers
abbrev pub call_results : Float → ReducedSystem → List Call → List (Result ReducedSystem Refusal)
call_results d s [] = []
call_results d s (c ∷ cs) = call_result d s c ∷ call_results d (system_after_call d s c) cs

-- the system after all calls of a list
abbrev pub system_after_calls : Float → ReducedSystem → List Call → ReducedSystem
system_after_calls d s [] = s
system_after_calls d s (c ∷ cs) = system_after_calls d (system_after_call d s c) cs

-- the system after blocks that are added one after the other, all at d
abbrev pub system_after_blocks : Float → ReducedSystem → List LocalLinearization → ReducedSystem
system_after_blocks d s [] = s
system_after_blocks d s (b ∷ bs) = system_after_blocks d (system_after s (add s b d)) bs

-- ---- the counters

-- whether every block so far factored; how many were taken in; how many of them were weak
pub record Counters : Type 0 where
  pub flag : Bool
  pub blocks : ℕ
  pub weak : ℕ

abbrev pub zero_counters : Counters
zero_counters = record { flag = true; blocks = 0; weak = 0 }

-- a block factors at d: `factor_with_rcond` gives a factor
unfoldable pub factors : Float → LocalLinearization → Bool
factors d b = is_ok (factor_with_rcond b.point_hessian d)

-- its rcond at d is at most 192ε; where it does not factor the rcond is taken as +0
unfoldable pub is_ill_conditioned : Float → LocalLinearization → Bool
is_ill_conditioned d b = is_weak (elim (factor_with_rcond b.point_hessian d) [
  | Ok f ↦ f.rcond
  | Err r ↦ zero
])

-- there are fewer blocks than the most that a system takes in
abbrev pub has_room : ℕ → Bool
has_room blocks = nat_lt blocks max_blocks

-- A block taken in: one more block; the flag goes if it does not factor; at damping zero, of either
-- sign, one more weak block if it does not factor or its rcond is at most 192ε.
abbrev pub count_block : Float → Counters → LocalLinearization → Counters
count_block d t b = record {
  flag = t.flag && factors d b;
  blocks = suc t.blocks;
  weak = count_if (is_zero d && (not (factors d b) || is_ill_conditioned d b)) t.weak;
}

-- a call: its block is counted if it comes at d and there is room; otherwise the counters stay
abbrev pub count_call : Float → Counters → Call → Counters
count_call d t (Add i) = if has_room t.blocks then count_block d t (linearization_of i) else t
count_call d t (RefusedAdd i x h) = t

-- all calls of a list
abbrev pub count_calls : Float → Counters → List Call → Counters
count_calls d t [] = t
count_calls d t (c ∷ cs) = count_calls d (count_call d t c) cs

-- the refusal of a call, by the counters before it: row 13 without room, row 3 at a refused damping
abbrev pub refusal_of : Counters → Call → Option Refusal
refusal_of t (Add i) = if has_room t.blocks then None else Some Full
refusal_of t (RefusedAdd i x h) = Some Damping

-- the refusal of each call of a list
abbrev pub refusals_of : Float → Counters → List Call → List (Option Refusal)
refusals_of d t [] = []
refusals_of d t (c ∷ cs) = refusal_of t c ∷ refusals_of d (count_call d t c) cs

-- ---- the blocks taken in

-- the blocks of the calls at d, in their order, while there is room; n were taken in before
abbrev pub blocks_taken_in : ℕ → List Call → List LocalLinearization
blocks_taken_in n [] = []
blocks_taken_in n (Add i ∷ cs) =
    if has_room n
    then linearization_of i ∷ blocks_taken_in (suc n) cs
    else blocks_taken_in n cs
blocks_taken_in n (RefusedAdd i x h ∷ cs) = blocks_taken_in n cs
