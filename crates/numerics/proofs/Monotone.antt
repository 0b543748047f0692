-- A sum of values clear of the sign never falls, and some products stay clear of the sign.
-- Assumes nothing.
use mathlib.Core.Path.{◌≡◌, refl, sym, ◌∙◌, subst}
use mathlib.Core.Bool.{true, false, not, cond}
use Prim.Native.Nat.{ℕ, zero, suc, ◌+◌, ◌-◌, ◌*◌, ◌≤◌}
use native.Mathlib.Nat.{le_trans as le-trans·, le_of_eq, le-add_right, zero-add, sub-zero, zero-mul, mul-zero, one-mul, mul-one, mul_assoc, mul_comm, mul_right_comm, mul-le-mul_right, mul-pos}
use native.Mathlib.Omega.{arith}
use lib.IntN.{ℤ, pos, negsuc}
use lib.Dec.{T, ltb, eqb-suc-zero}
use lib.Ieee.{Float, fin, Format, binary64, up, down, round, neg, add, mul, of_bits, lt, le, fits, is_nan}
use lib.Ieee.Fits.{down_pos}
use lib.Ieee.Order.{round_mono}
use Rattle.std.proofs.Common.{rules}
use Rattle.std.proofs.lemmas.Bool.Decides.{nat_tests}
pub use Rattle.std.proofs.lemmas.Float.{le_trans}
use Rattle.std.specs.Float.{float_is_finite}
use Rattle.numerics.specs.Binary64.{◌⊕◌, ◌⊗◌, half, neg_zero}
use Rattle.numerics.specs.Classify.{is_nonnegative}
use Rattle.numerics.proofs.Values.{zero_is, round_value, round_zero}
use Rattle.numerics.proofs.Order.{nonneg_mul_positive}

-- what is finite is a number
pub finite_not_nan : (x : Float) → T (float_is_finite x) → T (not (is_nan x))
unfolding float_is_finite is_nan
finite_not_nan x h = search rules

-- +0 is clear of the sign
pub nonneg_zero : (f : Format) → T (is_nonnegative (of_bits f 0))
unfolding is_nonnegative of_bits
nonneg_zero f = search rules

-- +0 is at most any value clear of the sign
pub zero-le : (x : Float) → T (is_nonnegative x) → T (le (of_bits binary64 0) x)
unfolding of_bits is_nonnegative le lt is_nan
zero-le x h = grind (arith, nat_tests, zero-mul)

-- ---- a sum of values clear of the sign is at least the first, an infinite sum too: the first
-- fits, so it is its own rounding

-- a / x is at most a / x + b / (x * y)
grows : (a b x y : ℕ) → a * (x * y) ≤ (a * y + b) * x
grows a b x y = le-trans· (le_of_eq (sym (mul_assoc a x y) ∙ mul_right_comm a x y)) (mul-le-mul_right x (le-add_right (a * y) b))

pub le_add : (f : Format) (x y : Float) → T (fits f x) → T (is_nonnegative x) → T (is_nonnegative y) → T (le x (add f x y))
unfolding is_nonnegative add le
le_add f (fin false m e) (fin false n d) p h k =
    let s = m * up e * down d + n * up d * down e in
    let c = down e * down d in
    subst (λ (x : Float). T (le x (round f false s c))) (round_value f (fin false m e) false (m * up e) (down e) (down_pos e) p (refl, refl))
    (round_mono f (m * up e) (down e) s c (down_pos e) (mul-pos (down_pos e) (down_pos d)) (grows (m * up e) (n * up d * down e) (down e) (down d)))
le_add f x y p h k = search rules

-- ---- a product with a weight, which is finite and above zero

-- such a product stays clear of the sign
nonneg_mul_right : (f : Format) (x : Float) (n : ℕ) (d : ℤ) → T (is_nonnegative x) → T (is_nonnegative (mul f x (fin false (suc n) d)))
unfolding mul is_nonnegative
nonneg_mul_right f (fin false m e) n d h =
    rw (mul_comm (m * up e) (suc n * up d), mul_comm (down e) (down d)) (nonneg_mul_positive f n d (fin false m e) tt)
nonneg_mul_right f x n d h = search (rules, eqb-suc-zero)

weight : (f : Format) (x w : Float) → T (is_nonnegative x) → T (float_is_finite w) → T (lt (fin false 0 (pos 0)) w) → T (is_nonnegative (mul f x w))
unfolding float_is_finite lt
weight f x (fin false (suc n) d) h p l = nonneg_mul_right f x n d h
weight f x w h p l = grind (arith, nat_tests, zero-mul)

pub nonneg_mul_weight : (f : Format) (x w : Float) → T (is_nonnegative x) → T (float_is_finite w) → T (lt (of_bits f 0) w) → T (is_nonnegative (mul f x w))
nonneg_mul_weight f x w h p l = weight f x w h p (rw (zero_is f) at l)

-- ---- c * x * x for a c that is finite and above zero: where x is 0 so is c * x, and where x is
-- infinite so is c * x

-- a finite value times 0 is 0
pub times_zero : (f : Format) (m : ℕ) (e d : ℤ) → mul f (fin false m e) (fin false 0 d) ≡ fin false 0 (pos 0)
unfolding mul
times_zero f m e d = rw (zero-mul (up d), mul-zero (m * up e)) (round_zero f false (down e * down d) (mul-pos (down_pos e) (down_pos d)))

pub nonneg_scaled_square : (f : Format) (m : ℕ) (e : ℤ) (x : Float) → T (is_nonnegative x) → T (is_nonnegative (mul f (mul f (fin false (suc m) e) x) x))
unfolding mul is_nonnegative
nonneg_scaled_square f m e (fin false zero d) h = rw (times_zero f (suc m) e d, times_zero f 0 (pos 0) d) tt
nonneg_scaled_square f m e (fin false (suc n) d) h = nonneg_mul_right f (mul f (fin false (suc m) e) (fin false (suc n) d)) n d (nonneg_mul_positive f m e (fin false (suc n) d) h)
nonneg_scaled_square f m e x h = search (rules, eqb-suc-zero)

pub nonneg_half_square : (r : Float) → T (is_nonnegative r) → T (is_nonnegative (half ⊗ r ⊗ r))
unfolding of_bits
nonneg_half_square r h = nonneg_scaled_square binary64 0 (negsuc 0) r h

-- ---- a sum from −0, as `.sum()` works it out

-- what −0 and a / c are rounded to, the signs being unlike
opposite : (f : Format) (a c : ℕ) → cond (ltb 0 a) (round f false (a - 0) c) (round f (ltb a 0) (0 - a) c) ≡ round f false a c
opposite f zero c = refl
opposite f (suc a) c = grind (arith, nat_tests, sub-zero)

-- −0 + x is x
from_negative_zero : (f : Format) (x : Float) → T (fits f x) → add f (fin true 0 (pos 0)) x ≡ x
unfolding add
from_negative_zero f (fin true m e) p = simp (zero-mul, zero-add, mul-one, one-mul) (round_value f (fin true m e) true (m * up e) (down e) (down_pos e) p (refl, refl))
from_negative_zero f (fin false m e) p =
    simp (zero-mul, mul-one, one-mul, opposite) (round_value f (fin false m e) false (m * up e) (down e) (down_pos e) p (refl, refl))
from_negative_zero f x p = refl

pub neg_zero_add : (x : Float) → T (fits binary64 x) → neg_zero ⊕ x ≡ x
unfolding of_bits neg
neg_zero_add x p = from_negative_zero binary64 x p
