-- The laws that callers cite: the order of values, and what keeps a value a number, or clear of
-- the sign. A number here is a value that is no NaN. Assumes nothing.
use mathlib.Core.Path.{◌≡◌}
use mathlib.Core.Bool.{false, not}
use Prim.Native.Nat.{ℕ, suc}
use native.Mathlib.Omega.{arith}
use lib.IntN.{ℤ, negsuc}
use lib.Dec.{T, eqb-suc-zero}
use lib.Ieee.{Float, Format, binary64, units, odd, round, fin, add, mul, div, of_bits, lt, le, is_nan}
use lib.Ieee.Fits.{round_is}
use Rattle.std.proofs.Common.{rules}
pub use Rattle.std.proofs.lemmas.Float.{le_refl}
use Rattle.std.proofs.lemmas.Float.{lt_irrefl, lt_trans}
use Rattle.std.specs.Float.{float_is_finite}
use Rattle.numerics.specs.Binary64.{◌⊗◌, relative_tolerance, recip}
use Rattle.numerics.specs.Classify.{is_nonnegative}

-- ---- the order of values

-- of two numbers, either the first is below the second, or the second is at most the first
pub not_lt : (x y : Float) → T (not (is_nan x)) → T (not (is_nan y)) → not (lt x y) ≡ le y x
unfolding lt le is_nan
not_lt x y p q = search rules

-- no two values are each below the other
pub lt_one_way : (x y : Float) → T (lt x y) → lt y x ≡ false
lt_one_way x y h = grind (arith, lt_irrefl x, lt_trans x y x)

-- ---- values clear of the sign

-- such a value is a number
pub nonneg_not_nan : (x : Float) → T (is_nonnegative x) → T (not (is_nan x))
unfolding is_nonnegative is_nan
nonneg_not_nan x h = search rules

-- what lies above such a value is one too
pub nonneg_above : (x y : Float) → T (is_nonnegative x) → T (lt x y) → T (is_nonnegative y)
unfolding is_nonnegative lt
nonneg_above x y h k = search rules

-- ---- what is rounded

-- a whole number of units, rounded
pub nonneg_units : (f : Format) (q k : ℕ) → T (is_nonnegative (units f false q k))
unfolding units odd is_nonnegative
nonneg_units f q k = search rules

-- a fraction, rounded
nonneg_round : (f : Format) (a c : ℕ) → T (is_nonnegative (round f false a c))
nonneg_round f a c = rw (round_is f false a c) (nonneg_units f _ _)

-- ---- sums and products

-- the sum of two such values
pub nonneg_add : (f : Format) (x y : Float) → T (is_nonnegative x) → T (is_nonnegative y) → T (is_nonnegative (add f x y))
unfolding add is_nonnegative
nonneg_add f x y h k = search (rules, nonneg_round)

-- the square of a number
pub nonneg_square : (f : Format) (x : Float) → T (not (is_nan x)) → T (is_nonnegative (mul f x x))
unfolding mul is_nonnegative is_nan
nonneg_square f x p = search (rules, nonneg_round)

-- a factor that is finite and above zero never makes a NaN
pub nonneg_mul_positive : (f : Format) (m : ℕ) (e : ℤ) (y : Float) → T (is_nonnegative y) → T (is_nonnegative (mul f (fin false (suc m) e) y))
unfolding mul is_nonnegative
nonneg_mul_positive f m e y h = search (rules, eqb-suc-zero, nonneg_round)

-- 64ε times a largest entry
pub nonneg_floor : (y : Float) → T (is_nonnegative y) → T (is_nonnegative (relative_tolerance ⊗ y))
unfolding of_bits
nonneg_floor y h = nonneg_mul_positive binary64 0 (negsuc 45) y h

-- the reciprocal of such a finite value, +∞ for +0
pub nonneg_recip : (x : Float) → T (float_is_finite x) → T (is_nonnegative x) → T (is_nonnegative (recip x))
unfolding float_is_finite is_nonnegative div of_bits
nonneg_recip x p h = search (rules, nonneg_round)
