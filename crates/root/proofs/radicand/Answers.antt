-- `root::radicand` meets its contract: an odd power leaves a factor of two to the digits. Assumes
-- nothing.
use mathlib.Core.Path.{◌≡◌, sym, ap, subst, ◌∙◌}
use mathlib.Core.Logic.{◌⊎◌, inl, inr}
use Prim.Native.Nat.{ℕ, ◌+◌, ◌*◌, ◌/◌, ◌%◌, ◌^◌, ◌≤◌, ◌<◌}
use native.Mathlib.Nat.{mul_assoc, mul-le-mul_right, mul-lt-mul_of_pos_right}
use native.Mathlib.Omega.{arith}
use lib.Dec.{lit<}
use lib.Pow.{pow-add}
use Rattle.root.proofs.radicand.Goals as goal
use Rattle.root.proofs.radicand.Goals.{then-power-eq0, else-power-eq0}

-- d * 2 ^ 52 with an even power of two beside it is m * 2 ^ (p + 52)
record Evened (m p d : ℕ) : Type 0 where
  low : 2 ^ 52 ≤ d
  high : d < 2 ^ 54
  same : m * 2 ^ (p + 52) ≡ d * 2 ^ 52 * 2 ^ (2 * (p / 2))

module _ (m p : ℕ) (lo : 2 ^ 52 ≤ m) (hi : m < 2 ^ 53) where
  at_even : p % 2 ≡ 0 → Evened m p m
  at_even h = record {
    low = lo;
    high = omega arith;
    same = ap (λ (x : ℕ). m * 2 ^ x) (regroup p h) ∙ ap (λ (x : ℕ). m * x) (pow-add 2 52 (2 * (p / 2))) ∙ sym (mul_assoc m (2 ^ 52) (2 ^ (2 * (p / 2))));
  }
    where
      regroup : (p : ℕ) → p % 2 ≡ 0 → p + 52 ≡ 52 + 2 * (p / 2)
      regroup p h = omega arith

  at_odd : (p % 2 ≡ 0 → ⊥) → Evened m p (2 * m)
  at_odd h = record {
    low = omega arith;
    high = omega arith;
    same =
        ap (λ (x : ℕ). m * 2 ^ x) (regroup p h)
        ∙ ap (λ (x : ℕ). m * x) (pow-add 2 53 (2 * (p / 2)))
        ∙ sym (mul_assoc m (2 ^ 53) (2 ^ (2 * (p / 2))))
        ∙ ap (λ (x : ℕ). x * 2 ^ (2 * (p / 2))) (doubled m);
  }
    where
      regroup : (p : ℕ) → (p % 2 ≡ 0 → ⊥) → p + 52 ≡ 53 + 2 * (p / 2)
      regroup p h = omega arith

      doubled : (m : ℕ) → m * 2 ^ 53 ≡ 2 * m * 2 ^ 52
      doubled m = omega arith

  evened : (d : ℕ) → (p % 2 ≡ 0) × (d ≡ m) ⊎ (p % 2 ≡ 0 → ⊥) × (d ≡ 2 * m) → Evened m p d
  evened d (inl w) = subst (Evened m p) (sym w.1) (at_even w.0)
  evened d (inr w) = subst (Evened m p) (sym w.1) (at_odd w.0)

pub returns : goal.returns
returns c =
    let m = c.args.m in
    let p = c.args.power in
    let d = c.if-power-eq0.d in
    let e = evened m p c.requires.0 c.requires.1 d (elim c.if-power-eq0.branch [ then-power-eq0 w ↦ inl (w.if-power-eq0.true, w.d-is) | else-power-eq0 w ↦ inr (w.if-power-eq0.false, w.d-is) ]) in
    record { low = mul-le-mul_right (2 ^ 52) e.low; high = mul-lt-mul_of_pos_right e.high (lit< tt); same = e.same }
