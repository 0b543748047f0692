-- The outcomes of the calls on a lent system, c_calls/src/system_calls.rt: row 1 unless every array
-- has its length, then what the call of the same name gives (docs/SPECIFICATION.md, "Reduced
-- system"). A system is 45 numbers x and three counts; `Layout` has their order.
use Rattle.std.specs.Prelude.{ℕ, ◌≡◌, ◌&&◌, List, [], ◌∷◌, Float, Result, Ok}
use Rattle.refusal.specs.Outcome.{Outcome, outcome}
use Rattle.refusal.specs.Chain.{map_ok}
use Rattle.refusal.specs.declared.Refusal.{Refusal}
use Rattle.schur.specs.ReducedAdd as ReducedAdd
use Rattle.schur.specs.Reduced as Reduced
use Rattle.schur.specs.declared.reduced_system.ReducedSystem.{ReducedSystem}
use Rattle.c_calls.specs.Layout.{block, system}
use Rattle.c_calls.specs.LayoutNumbers.{system_numbers, system_counts, flag}
use Rattle.c_calls.specs.Outcomes.{code, if_lengths_fit, has_length}

-- the two arrays that a lent system stands in
pub record SystemMemory : Type 0 where
  pub numbers : List Float
  pub counts : List ℕ

abbrev pub system_memory : List Float → List ℕ → SystemMemory
system_memory x counts = record { numbers = x; counts = counts }

-- the arrays that hold a system
abbrev pub memory_of : ReducedSystem → SystemMemory
memory_of s = system_memory (system_numbers s) (system_counts s)

-- A call on a lent system meets an outcome: the number that it returns is the code of the outcome's
-- row, and after it the two arrays hold the outcome's system. Beside a refusal they hold what they
-- held before.
pub record HasSystemOutcome (number : ℕ) (numbers : List Float) (counts : List ℕ)
    (a : Outcome SystemMemory) : Type 0 where
  pub same_number : number ≡ code a.row
  pub same_numbers : numbers ≡ a.values.numbers
  pub same_counts : counts ≡ a.values.counts

-- the next system in memory, or the memory as it was before and the refusal
abbrev pub system_outcome : SystemMemory → Result ReducedSystem Refusal → Outcome SystemMemory
system_outcome before next = outcome before (map_ok memory_of next)

-- a new system: +0 everywhere, but minimum rcond 1 and the flag true
unfoldable pub new_system : List Float → List ℕ → Outcome SystemMemory
new_system x counts =
    let fits = has_length x 45 && has_length counts 3 in
    system_outcome (system_memory x counts) (if_lengths_fit fits (Ok Reduced.new_system))

-- the system with the block b taken in
unfoldable pub add : List Float → List ℕ → List Float → Float → Outcome SystemMemory
add x counts b damping =
    let fits = has_length x 45 && has_length counts 3 && has_length b 59 in
    let next = ReducedAdd.add (system x counts) (block b) damping in
    system_outcome (system_memory x counts) (if_lengths_fit fits next)

-- the system with the damping added to the diagonal of its Hessian
unfoldable pub finish_damping : List Float → List ℕ → Float → Outcome SystemMemory
finish_damping x counts damping =
    let fits = has_length x 45 && has_length counts 3 in
    let next = Reduced.finish_damping (system x counts) damping in
    system_outcome (system_memory x counts) (if_lengths_fit fits next)

-- 1 where the flag is true and gradient and Hessian are finite, else 0
unfoldable pub is_valid : List Float → List ℕ → List ℕ → Outcome (List ℕ)
is_valid x counts out =
    let fits = has_length x 45 && has_length counts 3 && has_length out 1 in
    outcome out (if_lengths_fit fits (Ok (flag (Reduced.is_valid (system x counts)) ∷ [])))

-- the largest scaled gradient entry, of the points and of the pose
unfoldable pub gradient_inf_norm : List Float → List ℕ → List Float → Outcome (List Float)
gradient_inf_norm x counts out =
    let fits = has_length x 45 && has_length counts 3 && has_length out 1 in
    outcome out (if_lengths_fit fits (Ok (Reduced.gradient_inf_norm (system x counts) ∷ [])))

-- the reduction of the cost that the quadratic model predicts for a step of the pose
unfoldable pub predicted_reduction : List Float → List ℕ → List Float → Float → Float → List Float
    → Outcome (List Float)
predicted_reduction x counts step damping point_damping_norm out =
    let s = system x counts in
    let fits = has_length x 45 && has_length counts 3 && has_length step 5 && has_length out 1 in
    let reduction = Reduced.predicted_reduction s step damping point_damping_norm in
    outcome out (if_lengths_fit fits (map_ok (λ (x : Float). x ∷ []) reduction))
