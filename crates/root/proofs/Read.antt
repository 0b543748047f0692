-- The root of a value above zero, by its pattern: what it is for a normal value, and that the
-- pattern read back is the root. Assumes nothing.
use mathlib.Core.Path.{◌≡◌, sym, ap, ◌∙◌, subst}
use mathlib.Core.Bool.{Bool, true, false, not}
use Prim.Native.Nat.{ℕ, suc, ◌+◌, ◌-◌, ◌*◌, ◌/◌, ◌%◌, ◌^◌, ◌≤◌, ◌<◌}
use native.Mathlib.Nat.{mul_assoc, mul-pos, add_comm, mul-le-mul_right}
use native.Mathlib.Omega.{arith}
use lib.Dec.{T, leb, leb→le, nleb→lt, lit<}
use lib.Pow.{pow-add, pow_pos}
use lib.Ieee.{Float, binary64, fits, is_nan, lt, le, of_bits, to_bits, nan_bits}
use lib.Ieee.Order.{le_of_values}
use Rattle.std.proofs.lemmas.Float.{le_trans, lt_of_lt_of_le}
use lib.Ieee.Bits.{is_true, of_bits-to_bits, nan_bits_is}
use Rattle.numerics.specs.Binary64 as Binary64
use Rattle.std.specs.Bool.{passes}
use Rattle.std.specs.Float.{float_is_finite}
use Rattle.numerics.proofs.Monotone.{finite_not_nan}
use Rattle.root.specs.Root.{nearest_root, sqrt, IsCorrectlyRounded}
use Rattle.root.proofs.Patterns.{low_value, normal_value, plain_finite}
use Rattle.root.proofs.Rounded.{sqrt_of}
use Rattle.root.proofs.Correct.{sqrt_correct}

-- of a normal value, whose exponent's field is the power
pub normal : (b : ℕ) → 2 ^ 52 ≤ b → b < 0x7ff0_0000_0000_0000
    → to_bits binary64 (nearest_root ((b % 2 ^ 52 + 2 ^ 52) * 2 ^ (b / 2 ^ 52 + 1021 + 52))) ≡ to_bits binary64 (sqrt (of_bits binary64 b))
normal b lo hi = go (b / 2 ^ 52 - 1) (omega arith)
  where
    go : (x : ℕ) → b / 2 ^ 52 ≡ suc x
        → to_bits binary64 (nearest_root ((b % 2 ^ 52 + 2 ^ 52) * 2 ^ (b / 2 ^ 52 + 1021 + 52))) ≡ to_bits binary64 (sqrt (of_bits binary64 b))
    go x e =
        ap (λ (n : ℕ). to_bits binary64 (nearest_root n))
        (ap (λ (n : ℕ). n * 2 ^ (b / 2 ^ 52 + 1021 + 52)) (add_comm (b % 2 ^ 52) (2 ^ 52))
        ∙ ap (λ (n : ℕ). (2 ^ 52 + b % 2 ^ 52) * 2 ^ n) (sum (b / 2 ^ 52) x e)
        ∙ ap (λ (n : ℕ). (2 ^ 52 + b % 2 ^ 52) * n) (pow-add 2 x 1074)
        ∙ sym (mul_assoc (2 ^ 52 + b % 2 ^ 52) (2 ^ x) (2 ^ 1074)))
        ∙ ap (to_bits binary64) (sym (sqrt_of (of_bits binary64 b) ((2 ^ 52 + b % 2 ^ 52) * 2 ^ x) (normal_value b x hi e) (mul-pos (omega arith) (pow_pos x))))
      where
        sum : (y x : ℕ) → y ≡ suc x → y + 1021 + 52 ≡ x + 1074
        sum y x e = omega arith

pub held : (x : Float) → fits binary64 x ≡ true → T (fits binary64 x)
held x p = subst T (sym p) tt

-- the least normal value
abbrev pub least : Float
least = of_bits binary64 0x10_0000_0000_0000

-- what is not below it is above zero, and its pattern is a normal one's or that of +∞: the value of
-- any pattern below 2 ^ 52 is at most that of the last of them
pub above_least : (x : Float) → le least x ≡ true → lt Binary64.zero x ≡ true
unfolding lt of_bits
above_least x h = is_true _ (lt_of_lt_of_le Binary64.zero least x tt (subst T (sym h) tt))

pub low_of_least : (x : Float) → T (fits binary64 x) → le least x ≡ true → 2 ^ 52 ≤ to_bits binary64 x
unfolding le of_bits
low_of_least x f h = go (to_bits binary64 x) (leb (2 ^ 52) (to_bits binary64 x)) (leb→le (2 ^ 52) _) (nleb→lt (2 ^ 52) _) (of_bits-to_bits binary64 x f)
  where
    last : Float
    last = of_bits binary64 0xf_ffff_ffff_ffff

    at_most : (b : ℕ) → b < 2 ^ 52 → T (le (of_bits binary64 b) last)
    at_most b l =
        let m : b ≤ 2 ^ 52 - 1 = omega arith in
        le_of_values (of_bits binary64 b) last b (2 ^ 1074) (2 ^ 52 - 1) (2 ^ 1074) (pow_pos 1074) (pow_pos 1074) (low_value b l) (low_value (2 ^ 52 - 1) (lit< tt)) (mul-le-mul_right (2 ^ 1074) m)

    go : (b : ℕ) (t : Bool) → (T t → 2 ^ 52 ≤ b) → (T (not t) → b < 2 ^ 52) → of_bits binary64 b ≡ x → 2 ^ 52 ≤ b
    go b true l g e = l tt
    go b false l g e = absurd (le_trans least x last (subst T (sym h) tt) (subst (λ (y : Float). T (le y last)) e (at_most b (g tt))))

-- the root of a finite one is IEEE 754's, and so it has a pattern that is read back
correct : (x : Float) → T (fits binary64 x) → lt Binary64.zero x ≡ true → to_bits binary64 x < 0x7ff0_0000_0000_0000 → IsCorrectlyRounded x (sqrt x)
correct x f l h = sqrt_correct x f (subst (λ (y : Float). T (float_is_finite y)) (of_bits-to_bits binary64 x f) (plain_finite (to_bits binary64 x) h)) (subst T (sym l) tt)

no_nan_bits : (x : Float) → IsCorrectlyRounded x (sqrt x) → T (not (nan_bits binary64 (to_bits binary64 (sqrt x))))
no_nan_bits x c =
    subst (λ (b : Bool). T (not b))
    (sym (nan_bits_is binary64 (to_bits binary64 (sqrt x)) ∙ ap is_nan (of_bits-to_bits binary64 (sqrt x) (passes _ c.is_binary64))))
    (finite_not_nan (sqrt x) (passes _ c.is_finite))

-- what the pattern's root is, read back
module _ (x : Float) (f : T (fits binary64 x)) (above : lt Binary64.zero x ≡ true) (plain : to_bits binary64 x < 0x7ff0_0000_0000_0000) where
  rounded : IsCorrectlyRounded x (sqrt x)
  rounded = correct x f above plain

  bits : (r : ℕ) → r ≡ to_bits binary64 (sqrt (of_bits binary64 (to_bits binary64 x))) → r ≡ to_bits binary64 (sqrt x)
  bits r e = e ∙ ap (λ (y : Float). to_bits binary64 (sqrt y)) (of_bits-to_bits binary64 x f)

  pub no_nan : (r : ℕ) → r ≡ to_bits binary64 (sqrt (of_bits binary64 (to_bits binary64 x))) → T (not (nan_bits binary64 r))
  no_nan r e = rw (bits r e) (no_nan_bits x rounded)

  pub root : (r : ℕ) → r ≡ to_bits binary64 (sqrt (of_bits binary64 (to_bits binary64 x))) → of_bits binary64 r ≡ sqrt x
  root r e = ap (of_bits binary64) (bits r e) ∙ of_bits-to_bits binary64 (sqrt x) (passes _ rounded.is_binary64)
