-- The absolute value in products and in comparisons. Assumes nothing.
use mathlib.Core.Path.{◌≡◌}
use mathlib.Core.Bool.{Bool, true, false, not, ◌&&◌}
use Prim.Native.Nat.{ℕ}
use native.Mathlib.Omega.{arith}
use lib.Dec.{T}
use lib.Ieee.{Float, Format, odd, units, round, neg, mul, lt, fits, is_nan}
use lib.Ieee.Fits.{round_is}
use Rattle.std.proofs.Common.{rules}
use Rattle.std.proofs.lemmas.Bool.Decides.{nat_tests}
use Rattle.std.specs.Float.{float_is_finite, is_sign_negative, float_with_sign}
use Rattle.numerics.specs.Classify.{is_nonnegative, abs}

-- a number's absolute value is clear of the sign
pub nonneg_abs : (x : Float) → T (not (is_nan x)) → T (is_nonnegative (abs x))
unfolding is_nonnegative float_with_sign is_nan
nonneg_abs x p = search rules

-- the format that holds a value holds its absolute value
pub fits_abs : (f : Format) (x : Float) → T (fits f x) → T (fits f (abs x))
unfolding fits float_with_sign
fits_abs f x p = search rules

-- without the sign it changes nothing
pub abs_clear : (x : Float) → is_sign_negative x ≡ false → abs x ≡ x
unfolding float_with_sign is_sign_negative
abs_clear x h = search rules

-- ---- of a product it is the product of the absolute values

-- the absolute value of a rounded fraction is the fraction without its sign, rounded
abs_round : (f : Format) (s : Bool) (a c : ℕ) → abs (round f s a c) ≡ round f false a c
unfolding units odd float_with_sign
abs_round f s a c = rw (round_is f s a c, round_is f false a c) (search rules)

pub abs_mul : (f : Format) (x y : Float) → abs (mul f x y) ≡ mul f (abs x) (abs y)
unfolding float_with_sign mul
abs_mul f x y = search (rules, abs_round)

-- ---- it is below z where the value lies between −z and z
pub abs_below : (x z : Float) → lt (abs x) z ≡ (lt x z && lt (neg z) x)
unfolding float_with_sign lt neg
abs_below x z = grind (arith, nat_tests)

-- which a value that is not finite never does
pub finite_below : (x z : Float) → T (lt (abs x) z) → T (float_is_finite x)
unfolding float_with_sign lt float_is_finite
finite_below x z h = search rules

-- below a value with the sign lies what is larger without it
pub below_negative : (x z : Float) → T (lt x z) → is_sign_negative z ≡ true → T (lt (abs z) (abs x))
unfolding float_with_sign lt is_sign_negative
below_negative x z h k = search rules
