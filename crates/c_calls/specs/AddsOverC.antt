-- A list of adds over the C interface, each on the memory that the one before left: what stands
-- there after them, and the codes that they return (docs/SPECIFICATION.md, "Sequences of adds").
use Rattle.std.specs.Prelude.{ℕ, ◌≡◌, List, [], ◌∷◌, map, IsTrue, length, Float, Result}
use Rattle.refusal.specs.Outcome.{Outcome, outcome}
use Rattle.refusal.specs.declared.Refusal.{Refusal}
use Rattle.point_block.specs.Damping.{is_valid_damping}
use Rattle.schur.specs.declared.reduced_system.ReducedSystem.{ReducedSystem}
use Rattle.schur.specs.Reduced.{new_system}
use Rattle.add_sequences.specs.Calls.{linearization_of, Call, Add, RefusedAdd}
use Rattle.add_sequences.specs.Calls.{call_results, system_after_calls}
use Rattle.add_sequences.specs.Calls.{Counters, zero_counters, count_calls}
use Rattle.c_calls.specs.Outcomes.{code}
use Rattle.c_calls.specs.Layout.{system}
use Rattle.c_calls.specs.LayoutNumbers.{block_numbers, flag}
use Rattle.c_calls.specs.SystemCalls as SystemCalls
use Rattle.c_calls.specs.SystemCalls.{SystemMemory, memory_of}

-- one call on lent memory, with the 59 numbers of its block; of a point that is refused each is +0
abbrev pub call_outcome : Float → SystemMemory → Call → Outcome SystemMemory
call_outcome d m (Add i) = SystemCalls.add m.numbers m.counts (block_numbers (linearization_of i)) d
call_outcome d m (RefusedAdd i x h) =
    SystemCalls.add m.numbers m.counts (block_numbers (linearization_of i)) x

-- the outcome of each call of a list
abbrev pub call_outcomes : Float → SystemMemory → List Call → List (Outcome SystemMemory)
call_outcomes d m [] = []
call_outcomes d m (c ∷ cs) = call_outcome d m c ∷ call_outcomes d (call_outcome d m c).values cs

-- the memory after the last one
abbrev pub memory_after_calls : Float → SystemMemory → List Call → SystemMemory
memory_after_calls d m [] = m
memory_after_calls d m (c ∷ cs) = memory_after_calls d (call_outcome d m c).values cs

-- the three counts that the counters of a list give
abbrev pub counter_numbers : Counters → List ℕ
counter_numbers t = t.weak ∷ t.blocks ∷ flag t.flag ∷ []

-- A list of calls at damping d, from the memory that the call for a new system left (`begun`), does
-- over C what the definition of `add` does with a new system, call by call.
pub record Reaches (d : Float) (calls : List Call) (begun : Outcome SystemMemory) : Type 0 where
  -- the call for a new system returns 0
  pub begins : code begun.row ≡ 0
  -- after the list the memory holds the 45 numbers and the counts of the system that `add` reaches
  pub memory : memory_after_calls d begun.values calls
      ≡ memory_of (system_after_calls d new_system calls)
  -- the codes that come back are those of the refusals of `add`, 0 where it refuses nothing
  pub codes : map (λ (a : Outcome SystemMemory). code a.row) (call_outcomes d begun.values calls)
      ≡ map (λ (r : Result ReducedSystem Refusal). code (outcome new_system r).row)
      (call_results d new_system calls)
  -- any further call on that memory reads the very system that `add` reaches
  pub read : system (memory_after_calls d begun.values calls).numbers
      (memory_after_calls d begun.values calls).counts
      ≡ system_after_calls d new_system calls
  -- at a damping that row 3 lets through, the counts are those of the counters
  pub counts : IsTrue (is_valid_damping d) → (memory_after_calls d begun.values calls).counts
      ≡ counter_numbers (count_calls d zero_counters calls)

-- This holds of every list of calls, at any damping, and of any memory of the right lengths that
-- the call for a new system writes.
abbrev pub EveryListOverC : Type 0
EveryListOverC = (d : Float) (calls : List Call) (x : List Float) (counts : List ℕ)
    → length x ≡ 45 → length counts ≡ 3 → Reaches d calls (SystemCalls.new_system x counts)
