-- `f64::max` and `f64::min`, and the largest of a list. docs/SPECIFICATION.md, "Numbers": a NaN is
-- passed over where the other value is a number; of +0 and −0, `max` is +0 and `min` is −0.
use Rattle.std.specs.Prelude.{◌≡◌, Bool, not, ◌&&◌, ◌||◌, if◌then◌else◌, List, fold, IsTrue, Float}
use Rattle.std.specs.Float.{is_sign_negative}
use Rattle.std.specs.Float.Ieee.{is_nan, lt, eq}
use Rattle.numerics.specs.Binary64.{zero, neg_zero}
use Rattle.numerics.specs.Classify.{is_nonnegative}

-- x where y is no number, where x > y, and where x = y and x has the sign clear; y elsewhere
unfoldable pub max : Float → Float → Float
max x y = if is_nan y || lt y x || (eq x y && not (is_sign_negative x)) then x else y

-- x where y is no number, where x < y, and where x = y and x has the sign set; y elsewhere
unfoldable pub min : Float → Float → Float
min x y = if is_nan y || lt x y || (eq x y && is_sign_negative x) then x else y

-- What IEEE 754 says of a result r that is one of x and y, where `ahead x y` says that x lies
-- strictly ahead of y: a NaN is passed over, so that of two NaNs either comes back; of two numbers
-- the one that lies ahead is r; equal values of one sign are one value, which is r; equal values of
-- unlike signs are the two zeros, of which r is `of_zeros`.
pub record PicksOperand (ahead : Float → Float → Bool) (of_zeros x y r : Float) : Type 0 where
  pub first_nan : IsTrue (is_nan x) → r ≡ y
  pub second_nan : IsTrue (is_nan y) → r ≡ x
  pub first : IsTrue (ahead x y) → r ≡ x
  pub second : IsTrue (ahead y x) → r ≡ y
  pub equal : IsTrue (eq x y) → is_sign_negative x ≡ is_sign_negative y → (r ≡ x) × (r ≡ y)
  pub unlike_zeros : IsTrue (eq x y) → is_sign_negative x ≡ not (is_sign_negative y) → r ≡ of_zeros

-- r is the larger of x and y, and +0 of unlike zeros
abbrev pub IsMaximum : Float → Float → Float → Type 0
IsMaximum x y r = PicksOperand (λ a b. lt b a) zero x y r

-- r is the smaller of x and y, and −0 of unlike zeros
abbrev pub IsMinimum : Float → Float → Float → Type 0
IsMinimum x y r = PicksOperand lt neg_zero x y r

-- x where x > low, and low elsewhere: one comparison
abbrev pub max_nonnegative : Float → Float → Float
max_nonnegative low x = if lt low x then x else low

-- r is that, and where low is a number with the sign clear it is the larger of the two, whichever
-- of them comes first
pub record IsMaxNonnegative (low x r : Float) : Type 0 where
  pub value : r ≡ max_nonnegative low x
  pub low_first : IsTrue (is_nonnegative low) → r ≡ max low x
  pub low_second : IsTrue (is_nonnegative low) → r ≡ max x low

-- max(.. max(max(+0, x₀), x₁) .., xₙ₋₁), `.fold(0.0, f64::max)`: never below +0, and never NaN
abbrev pub fold_max : List Float → Float
fold_max xs = fold max zero xs
