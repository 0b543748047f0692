-- The first refusal of a list, and among indexes. Assumes nothing.
use Rattle.std.proofs.Common.{◌≡◌, ℕ, zero, suc, ◌+◌, ◌-◌, ◌<◌, ◌≤◌, refl, sym, ap, ◌∙◌, Bool, true, false, add-zero, add-suc, zero-add, add-one, arith}
use native.Mathlib.Nat.{suc-add}
use Rattle.std.specs.Prelude.{Ok, Err}
use Rattle.std.specs.Result.{result_and}
use Rattle.refusal.specs.declared.Refusal.{Refusal}
use Rattle.refusal.specs.FirstRefusal.{CheckResult, refuse_unless, first_refusal_from}

-- ---- index by index

first_none : (check : ℕ → CheckResult) (n i : ℕ) → n ≤ i → first_refusal_from check i (n - i) ≡ Ok tt
unfolding first_refusal_from
first_none check n i h = let k : n - i ≡ 0 = omega arith in rw k refl

first_next : (check : ℕ → CheckResult) (n i : ℕ) → i < n → first_refusal_from check i (n - i) ≡ result_and (check i) (first_refusal_from check (i + 1) (n - (i + 1)))
unfolding first_refusal_from
first_next check n i h =
    let k : n - i ≡ suc (n - (i + 1)) = omega arith in
    rw k (ap (λ (j : ℕ). result_and (check i) (first_refusal_from check j (n - (i + 1)))) (sym (add-one i)))

-- A loop over indexes below n that is left at the first refused one: those before i were not,
-- and the rest decides the whole.
abbrev pub Scanned : CheckResult → (ℕ → CheckResult) → ℕ → ℕ → Type 0
Scanned whole check n i = (i ≤ n) × (whole ≡ first_refusal_from check i (n - i))

module _ (whole : CheckResult) (check : ℕ → CheckResult) (n i : ℕ) (inv : Scanned whole check n i) where
  pub ends : n ≤ i → whole ≡ Ok tt
  ends h = inv.1 ∙ first_none check n i h

  pub goes_on : i < n → check i ≡ Ok tt → Scanned whole check n (i + 1)
  goes_on h e = (omega arith, inv.1 ∙ first_next check n i h ∙ rw e refl)

  pub leaves : (r : Refusal) → i < n → check i ≡ Err r → whole ≡ Err r
  leaves r h e = inv.1 ∙ first_next check n i h ∙ rw e refl

-- what a test says of a check
pub is_good : (place : Refusal) (good b : Bool) → b ≡ good → b ≡ true → refuse_unless good place ≡ Ok tt
is_good place good b e t = rw (← e, t) refl

-- ---- what no refusal says

pub after_ok : (x s : CheckResult) → result_and x s ≡ Ok tt → (x ≡ Ok tt) × (s ≡ Ok tt)
after_ok (Ok tt) s e = (refl, e)
after_ok (Err r) s e = absurd (cc)

pub held : (good : Bool) (x : Refusal) → refuse_unless good x ≡ Ok tt → good ≡ true
held true x e = refl
held false x e = absurd (cc)

-- a check that no index fails
ok_from : (check : ℕ → CheckResult) (left start j : ℕ) → j < left → first_refusal_from check start left ≡ Ok tt → check (start + j) ≡ Ok tt
unfolding first_refusal_from
ok_from check zero start j k e = absurd (omega arith)
ok_from check (suc left) start zero k e = ap check (add-zero start) ∙ (after_ok (check start) (first_refusal_from check (suc start) left) e).0
ok_from check (suc left) start (suc j) k e =
    ap check (add-suc start j ∙ sym (suc-add start j)) ∙ ok_from check left (suc start) j (omega arith) (after_ok (check start) (first_refusal_from check (suc start) left) e).1

pub all_ok : (check : ℕ → CheckResult) (n i : ℕ) → i < n → first_refusal_from check 0 n ≡ Ok tt → check i ≡ Ok tt
all_ok check n i h e = ap check (sym (zero-add i)) ∙ ok_from check n 0 i h e

-- and back: a check that every index passes
passes_from : (check : ℕ → CheckResult) (left start : ℕ) → ((i : ℕ) → i < start + left → check i ≡ Ok tt) → first_refusal_from check start left ≡ Ok tt
unfolding first_refusal_from
passes_from check zero start h = refl
passes_from check (suc left) start h =
    rw (h start (omega arith)) (passes_from check left (suc start) (λ i k. h i (omega arith)))

pub passes : (check : ℕ → CheckResult) (n : ℕ) → ((i : ℕ) → i < n → check i ≡ Ok tt) → first_refusal_from check 0 n ≡ Ok tt
passes check n h = passes_from check n 0 (λ i k. h i (omega arith))
