-- A list of adds over the C interface reaches the system that `add` gives, call by call. Assumes
-- nothing.
use Rattle.std.proofs.Common.{◌≡◌, refl, ap, ap₂, ◌∙◌, Bool, true, false, cond, List, [], ◌∷◌, map, ℕ, length, Float, Result, Ok, Err}
use mathlib.Core.Path.{subst⁻¹}
use Rattle.std.specs.Result.{result_and}
use Rattle.refusal.specs.Chain.{◌>>=◌}
use Rattle.refusal.specs.Outcome.{Outcome, outcome}
use Rattle.refusal.specs.FirstRefusal.{CheckResult}
use Rattle.refusal.specs.declared.Refusal.{Refusal}
use Rattle.refusal.specs.declared.Refusal.TheVariants.{Damping}
use Rattle.linearization.specs.Accumulate.{pose_hessian, cross_hessian, point_hessian, pose_gradient, point_gradient}
use Rattle.point_block.specs.Damping.{is_valid_damping}
use Rattle.schur.specs.PoseModel.{sum5}
use Rattle.linearization.specs.Views.{check_views, views_of}
use Rattle.linearization.specs.declared.views.LinearizedViews.{LinearizedViews}
use Rattle.linearization.specs.Linearize as Linearize
use Rattle.linearization.specs.declared.linearize.LocalLinearization.{LocalLinearization}
use Rattle.schur.specs.SchurComplement.{reduced_hessian, reduced_gradient}
use Rattle.schur.specs.declared.reduced_system.ReducedSystem.{ReducedSystem}
use Rattle.schur.specs.Reduced.{new_system}
use Rattle.schur.specs.BlockElimination.{elimination_without_factor, elimination_by_inverse, elimination_of}
use Rattle.schur.proofs.FactorCases.{factor_cases}
use Rattle.schur.specs.ReducedAdd.{with_block, check_room, take_in, add, system_after}
use Rattle.add_sequences.specs.Calls.{Inputs, linearization_of, Call, Add, RefusedAdd, call_result, system_after_call, call_results, system_after_calls, Counters, zero_counters, count_calls}
use Rattle.add_sequences.proofs.Claim.{claim}
use Rattle.c_calls.specs.Outcomes.{code}
use Rattle.c_calls.specs.Layout.{block, system}
use Rattle.c_calls.specs.LayoutNumbers.{block_numbers, system_numbers, system_counts}
use Rattle.c_calls.specs.SystemCalls as Calls
use Rattle.c_calls.specs.SystemCalls.{SystemMemory, system_memory, memory_of, system_outcome}
use Rattle.c_calls.specs.AddsOverC.{call_outcome, call_outcomes, memory_after_calls, counter_numbers, Reaches, EveryListOverC}
use Rattle.c_calls.proofs.ReadBack.{Sized, numbers_long, counts_long, system_read, SizedBlock, block_long, block_read}

-- ---- the lengths that blocks and systems have

-- a block has its lengths, and so have the zeros beside a refusal
block_sized : (r : CheckResult) (v : LinearizedViews) (w : Float) → SizedBlock (Linearize.block_or_zeros (result_and r (Ok (Linearize.block v w))))
unfolding Linearize.zero_linearization Linearize.block Linearize.sums Linearize.terms pose_hessian cross_hessian point_hessian pose_gradient point_gradient
block_sized (Ok t) v w = record { pose_hessian = refl; cross_hessian = refl; point_hessian = refl; pose_gradient = refl; point_gradient = refl }
block_sized (Err r) v w = record { pose_hessian = refl; cross_hessian = refl; point_hessian = refl; pose_gradient = refl; point_gradient = refl }

made_sized : (i : Inputs) → SizedBlock (linearization_of i)
unfolding Linearize.linearize_point Linearize.block_of
made_sized i = block_sized (check_views i.rig i.correspondence) (views_of i.rig i.correspondence) i.correspondence.inverse_standard_deviation

new_sized : Sized new_system
unfolding new_system
new_sized = record { hessian = refl; gradient = refl; full_gradient = refl; diagonal = refl }

-- a system with a block, whether it factors or not
with_block_sized : (s : ReducedSystem) (b : LocalLinearization) (d : Float) → Sized s → Sized (with_block s b d)
unfolding with_block elimination_of elimination_by_inverse elimination_without_factor reduced_hessian reduced_gradient sum5
with_block_sized s b d k =
    factor_cases b.point_hessian d (λ f h. rw (h, elimination_of) (record { hessian = refl; gradient = refl; full_gradient = refl; diagonal = refl }))
    (λ r h. rw (h, elimination_of) (record { hessian = k.hessian; gradient = k.gradient; full_gradient = refl; diagonal = refl }))

-- s or t, as a check decides
checked_sized : (s t : ReducedSystem) (r : CheckResult) → Sized s → Sized t → Sized (system_after s (result_and r (Ok t)))
checked_sized s t (Ok x) k l = l
checked_sized s t (Err e) k l = k

-- what `add` leaves has its lengths
add_sized : (s : ReducedSystem) (b : LocalLinearization) (d : Float) → Sized s → Sized (system_after s (add s b d))
unfolding add
add_sized s b d k = by (is_valid_damping d)
  where
    by : (x : Bool) → Sized (system_after s (cond x (Ok d) (Err Damping) >>= take_in s b))
    by true = checked_sized s (with_block s b d) (check_room s) k (with_block_sized s b d k)
    by false = k

-- ---- one call

-- what the call answers on memory that holds s: the answer of `add`, whose memory holds the system
-- that it leaves
abbrev held : ReducedSystem → Result ReducedSystem Refusal → Outcome SystemMemory
held s r = record { row = (outcome new_system r).row; values = memory_of (system_after s r) }

-- a refused add leaves the system, and so what stands there
add_held : (s : ReducedSystem) (r : Result ReducedSystem Refusal) → system_outcome (memory_of s) r ≡ held s r
add_held s (Ok t) = refl
add_held s (Err e) = refl

-- the lengths fit, and the numbers are those of a system and a block
add_of : (x : List Float) (counts : List ℕ) (y : List Float) (d : Float) (r : Result ReducedSystem Refusal) → length x ≡ 45 → length counts ≡ 3 → length y ≡ 59
    → add (system x counts) (block y) d ≡ r → Calls.add x counts y d ≡ system_outcome (system_memory x counts) r
unfolding Calls.add
add_of x counts y d r e f g h = rw (e, f, g, h) refl

add_written : (s : ReducedSystem) (b : LocalLinearization) (d : Float) → Sized s → SizedBlock b
    → Calls.add (system_numbers s) (system_counts s) (block_numbers b) d ≡ held s (add s b d)
add_written s b d k l =
    add_of (system_numbers s) (system_counts s) (block_numbers b) d (add s b d) (numbers_long s k) (counts_long s) (block_long b l)
    (ap₂ (λ (t : ReducedSystem) (c : LocalLinearization). add t c d) (system_read s k) (block_read b l))
    ∙ add_held s (add s b d)

-- ---- a list of calls

called_written : (d : Float) (s : ReducedSystem) (c : Call) → Sized s → call_outcome d (memory_of s) c ≡ held s (call_result d s c)
called_written d s (Add i) k = add_written s (linearization_of i) d k (made_sized i)
called_written d s (RefusedAdd i x h) k = add_written s (linearization_of i) x k (made_sized i)

next_sized : (d : Float) (s : ReducedSystem) (c : Call) → Sized s → Sized (system_after_call d s c)
next_sized d s (Add i) k = add_sized s (linearization_of i) d k
next_sized d s (RefusedAdd i x h) k = add_sized s (linearization_of i) x k

after_sized : (d : Float) (s : ReducedSystem) (cs : List Call) → Sized s → Sized (system_after_calls d s cs)
after_sized d s [] k = k
after_sized d s (c ∷ cs) k = after_sized d (system_after_call d s c) cs (next_sized d s c k)

left_holds : (d : Float) (s : ReducedSystem) (cs : List Call) → Sized s → memory_after_calls d (memory_of s) cs ≡ memory_of (system_after_calls d s cs)
left_holds d s [] k = refl
left_holds d s (c ∷ cs) k =
    ap (λ (a : Outcome SystemMemory). memory_after_calls d a.values cs) (called_written d s c k) ∙ left_holds d (system_after_call d s c) cs (next_sized d s c k)

-- the number that comes back of a result
abbrev code_of : Result ReducedSystem Refusal → ℕ
code_of r = code (outcome new_system r).row

codes_back : (d : Float) (s : ReducedSystem) (cs : List Call) → Sized s
    → map (λ (a : Outcome SystemMemory). code a.row) (call_outcomes d (memory_of s) cs) ≡ map code_of (call_results d s cs)
codes_back d s [] k = refl
codes_back d s (c ∷ cs) k =
    ap (λ (a : Outcome SystemMemory). code a.row ∷ map (λ (a : Outcome SystemMemory). code a.row) (call_outcomes d a.values cs)) (called_written d s c k)
    ∙ ap (λ (l : List ℕ). code_of (call_result d s c) ∷ l) (codes_back d (system_after_call d s c) cs (next_sized d s c k))

new_written : (x : List Float) (counts : List ℕ) → length x ≡ 45 → length counts ≡ 3 → Calls.new_system x counts ≡ held new_system (Ok new_system)
unfolding Calls.new_system
new_written x counts e f = rw (e, f) refl

-- the counts of the system that a list reaches, by its counters
counts_agree : (s : ReducedSystem) (t : Counters) → s.valid ≡ t.flag → s.block_count ≡ t.blocks → s.weak_point_count ≡ t.weak → system_counts s ≡ counter_numbers t
unfolding system_counts
counts_agree s t e f g = rw (e, f, g) refl

begun_reaches : (d : Float) (calls : List Call) → Reaches d calls (held new_system (Ok new_system))
unfolding code
begun_reaches d calls =
    let l = left_holds d new_system calls new_sized in
    record {
      begins = refl;
      memory = l;
      codes = codes_back d new_system calls new_sized;
      read = ap (λ (m : SystemMemory). system m.numbers m.counts) l ∙ system_read (system_after_calls d new_system calls) (after_sized d new_system calls new_sized);
      counts = λ good.
          let t = (claim d good calls).counters in
          ap (λ (m : SystemMemory). m.counts) l ∙ counts_agree (system_after_calls d new_system calls) (count_calls d zero_counters calls) t.flag t.blocks t.weak;
    }

-- ---- the theorem

pub every_list : EveryListOverC
every_list d calls x counts e f = subst⁻¹ (Reaches d calls) (new_written x counts e f) (begun_reaches d calls)
