-- The blocks of a problem that rows 1 to 9 let through, by the claim on lists of calls of `add`:
-- where the system is valid each factors; how many are weak; and the costs are numbers. Assumes
-- nothing.
use Rattle.std.proofs.Common.{◌≡◌, refl, sym, ap, ap₂, subst, ◌∙◌, Float, Bool, true, false, ◌&&◌, List, [], ◌∷◌, ℕ, zero, suc, ◌+◌, ◌≤◌, ◌<◌, add-zero, add-suc, suc-add, zero-add, add-one, arith, lt-ltb, leb, ltb, le→leb, ◌⊎◌, inl, inr, Result, Ok, is_ok}
use Rattle.std.specs.Float.{NotNan}
use lib.Ieee.Bits.{is_true}
use Rattle.std.specs.List.{list_all}
use Rattle.std.proofs.lemmas.Bool.{and_parts, cases_lt}
use Rattle.std.proofs.lemmas.Float.{le_left}
use Rattle.numerics.specs.Vectors.{all_finite}
use Rattle.refusal.specs.declared.Refusal.{Refusal}
use Rattle.point_block.specs.Damping.{is_valid_damping}
use Rattle.linearization.specs.Linearize.{block_or_zeros}
use Rattle.linearization.specs.declared.linearize.LocalLinearization.{LocalLinearization}
use Rattle.schur.specs.Reduced.{new_system, is_valid}
use Rattle.refusal.specs.FirstRefusal.{CheckResult}
use Rattle.schur.specs.ReducedAdd.{max_blocks, check_room, take_in, add, system_after}
use Rattle.schur.specs.declared.reduced_system.ReducedSystem.{ReducedSystem}
use Rattle.schur.proofs.Room.{blocks_taken, weak_taken_at_most}
use Rattle.add_sequences.specs.Calls.{Inputs, linearization_of, Call, Add, system_after_call, system_after_calls, factors, blocks_taken_in}
use Rattle.add_sequences.proofs.Claim.{claim}
use Rattle.problem.specs.Problem.{Problem, count, correspondence_at}
use Rattle.problem.specs.Checks.{AcceptsFirst, check_problem}
use Rattle.linearization.specs.Views.{check_views}
use Rattle.problem.proofs.Passed.{passed, block_made}
use Rattle.optimizer.specs.Assembly.{block_at, system_to, reduced_system}

-- ---- the counts of the system

blocks_counted : (p : Problem) (i : ℕ) → (system_to p i).block_count ≡ i
unfolding system_to new_system
blocks_counted p zero = refl
blocks_counted p (suc i) = blocks_taken (system_to p i) (block_at p i) p.damping ∙ ap suc (blocks_counted p i)

weak_counted : (p : Problem) (i : ℕ) → (system_to p i).weak_point_count ≤ (system_to p i).block_count
unfolding system_to new_system
weak_counted p zero = omega arith
weak_counted p (suc i) = weak_taken_at_most (system_to p i) (block_at p i) p.damping (weak_counted p i)

-- so that rows 12 and 13 let one more block in
module _ (p : Problem) (i : ℕ) (few : i < max_blocks) where
  counts : (leb (system_to p i).weak_point_count (system_to p i).block_count ≡ true) × (ltb (system_to p i).block_count max_blocks ≡ true)
  counts =
      let s = system_to p i in
      (is_true (leb s.weak_point_count s.block_count) (le→leb s.weak_point_count s.block_count (weak_counted p i)), lt-ltb s.block_count max_blocks (rw (blocks_counted p i) few))

module _ (p : Problem) (i : ℕ) (few : i < max_blocks) (s : ReducedSystem) (e : s ≡ system_to p i) where
  pub room_left : (r : CheckResult) → r ≡ check_room s → r ≡ Ok tt
  room_left r k = k ∙ rw (e, (counts p i few).0, (counts p i few).1) refl

  pub block_taken : (b : LocalLinearization) (d : Float) (t : ReducedSystem) → b ≡ block_at p i → d ≡ p.damping → t ≡ system_after s (take_in s b d) → t ≡ system_to p (i + 1)
  unfolding system_to
  block_taken b d t f g k = k ∙ rw (room_left (check_room s) refl, add-one i, f, g, e) refl

-- ---- one more point of which rows 4 and 9 are asked

pub accepted_next : (p : Problem) (i : ℕ) (a b : Bool) → (a ≡ true → AcceptsFirst p i) → b ≡ is_ok (check_views p.rig (correspondence_at p i)) → (a && b) ≡ true → AcceptsFirst p (i + 1)
accepted_next p i a b before e t j h = by (cases_lt j i)
  where
    both : (a ≡ true) × (b ≡ true)
    both = and_parts a b t

    by : (j < i) ⊎ (i ≤ j) → is_ok (check_views p.rig (correspondence_at p j)) ≡ true
    by (inl k) = before both.0 j k
    by (inr k) =
        let same : j ≡ i = omega arith in
        rw same (sym e ∙ both.1)

pub accepted_still : (p : Problem) (i : ℕ) (a b : Bool) → (AcceptsFirst p i → a ≡ true) → b ≡ is_ok (check_views p.rig (correspondence_at p i)) → AcceptsFirst p (i + 1) → (a && b) ≡ true
accepted_still p i a b before e h =
    let first : a ≡ true = before (λ j k. h j (omega arith)) in
    let last : b ≡ true = e ∙ h i (omega arith) in
    rw (first, last) refl

-- ---- the problem's blocks as calls of `add`, from an index on

abbrev inputs : Problem → ℕ → Inputs
inputs p i = record { rig = p.rig; correspondence = correspondence_at p i }

abbrev calls : Problem → ℕ → ℕ → List Call
calls p i zero = []
calls p i (suc n) = Add (inputs p i) ∷ calls p (suc i) n

abbrev blocks : Problem → ℕ → ℕ → List LocalLinearization
blocks p i zero = []
blocks p i (suc n) = block_at p i ∷ blocks p (suc i) n

module _ (p : Problem) (ok : check_problem p ≡ Ok tt) where
  good : is_valid_damping p.damping ≡ true
  good = (passed p ok).damping

  few : count p ≤ max_blocks
  few = (passed p ok).fits.most

  made_is : (i : ℕ) → i < count p → linearization_of (inputs p i) ≡ block_at p i
  made_is i h = ap block_or_zeros (block_made p ok i h)

  pub added : (i : ℕ) → i < count p → add (system_to p i) (block_at p i) p.damping ≡ Ok (system_to p (suc i))
  unfolding add system_to
  added i h =
      let k = counts p i (omega (arith, few)) in
      rw (good, k.0, k.1) refl

  called : (i : ℕ) → i < count p → system_after_call p.damping (system_to p i) (Add (inputs p i)) ≡ system_to p (suc i)
  called i h =
      let s = system_to p i in
      ap (λ (b : LocalLinearization). system_after s (add s b p.damping)) (made_is i h) ∙ ap (λ (r : Result ReducedSystem Refusal). system_after s r) (added i h)

  after_calls : (i n : ℕ) → i + n ≤ count p → system_after_calls p.damping (system_to p i) (calls p i n) ≡ system_to p (i + n)
  after_calls i zero h = ap (λ (k : ℕ). system_to p k) (sym (add-zero i))
  after_calls i (suc n) h =
      ap (λ (s : ReducedSystem). system_after_calls p.damping s (calls p (suc i) n)) (called i (omega arith))
      ∙ after_calls (suc i) n (omega arith)
      ∙ ap (λ (k : ℕ). system_to p k) (suc-add i n ∙ sym (add-suc i n))

  after_all : system_after_calls p.damping new_system (calls p 0 (count p)) ≡ system_to p (count p)
  unfolding system_to
  after_all = after_calls 0 (count p) (omega arith) ∙ ap (λ (k : ℕ). system_to p k) (zero-add (count p))

  all_taken : (m i n : ℕ) → m + n ≤ max_blocks → i + n ≤ count p → blocks_taken_in m (calls p i n) ≡ blocks p i n
  all_taken m i zero h l = refl
  all_taken m i (suc n) h l =
      let k : m < max_blocks = omega arith in
      rw (lt-ltb m max_blocks k) (ap₂ (λ (b : LocalLinearization) (bs : List LocalLinearization). b ∷ bs) (made_is i (omega arith)) (all_taken (suc m) (suc i) n (omega arith) (omega arith)))

-- what holds of every block holds of each
each : (p : Problem) (good : LocalLinearization → Bool) (i n j : ℕ) → list_all good (blocks p i n) ≡ true → j < n → good (block_at p (i + j)) ≡ true
each p good i zero j e h = absurd (omega arith)
each p good i (suc n) zero e h = ap (λ (k : ℕ). good (block_at p k)) (add-zero i) ∙ (and_parts (good (block_at p i)) (list_all good (blocks p (suc i) n)) e).0
each p good i (suc n) (suc j) e h =
    ap (λ (k : ℕ). good (block_at p k)) (add-suc i j ∙ sym (suc-add i j))
    ∙ each p good (suc i) n j (and_parts (good (block_at p i)) (list_all good (blocks p (suc i) n)) e).1 (omega arith)

-- ---- a valid system, and blocks that factor

valid_flag : (s : ReducedSystem) → is_valid s ≡ true → s.valid ≡ true
unfolding is_valid
valid_flag s e = (and_parts s.valid (all_finite s.gradient) (and_parts (s.valid && all_finite s.gradient) (all_finite s.hessian) e).0).0

-- every block of a problem that has a valid system factors
module _ (p : Problem) (ok : check_problem p ≡ Ok tt) (valid : is_valid (reduced_system p) ≡ true) where
  all_factor : list_all (factors p.damping) (blocks p 0 (count p)) ≡ true
  unfolding reduced_system
  all_factor =
      ap (λ (l : List LocalLinearization). list_all (factors p.damping) l) (sym (all_taken p ok 0 0 (count p) (omega (arith, few p ok)) (omega arith)))
      ∙ sym (claim p.damping (good p ok) (calls p 0 (count p))).flag
      ∙ ap (λ (t : ReducedSystem). t.valid) (after_all p ok)
      ∙ valid_flag (reduced_system p) valid

  pub block_factors : (i : ℕ) → i < count p → factors p.damping (block_at p i) ≡ true
  block_factors i k = ap (λ (j : ℕ). factors p.damping (block_at p j)) (sym (zero-add i)) ∙ each p (factors p.damping) 0 (count p) i all_factor k

-- ---- the weak count is at most the number of points

pub weak_at_most : (p : Problem) → (reduced_system p).weak_point_count ≤ count p
unfolding reduced_system
weak_at_most p =
    let w = weak_counted p (count p) in
    let b = blocks_counted p (count p) in
    omega arith

-- ---- cost and squared residual are numbers, since the order of IEEE 754 holds of them

pub costs_are_numbers : (p : Problem) → check_problem p ≡ Ok tt → NotNan (reduced_system p).cost × NotNan (reduced_system p).squared_residual
unfolding reduced_system
costs_are_numbers p ok =
    let f = (claim p.damping (good p ok) (calls p 0 (count p))).further [] in
    let Numbers : ReducedSystem → Type 0 = λ t. NotNan t.cost × NotNan t.squared_residual in
    subst Numbers (after_all p ok) (le_left _ _ f.cost, le_left _ _ f.squared)
