-- Laws of the larger and the smaller of two values, and of the largest of a list. A number here
-- is a value that is no NaN. Assumes nothing.
use mathlib.Core.Path.{◌≡◌, refl, sym, ap, ◌∙◌, subst}
use mathlib.Core.Bool.{true, not, cond}
use mathlib.Core.List.{List, [], ◌∷◌, ◌++◌}
use native.Mathlib.Omega.{arith}
use lib.Dec.{T}
use lib.Ieee.{Float, binary64, lt, eq, le, fits, is_nan}
use lib.Ieee.Bits.{is_true}
use Rattle.std.proofs.Common.{rules}
use Rattle.std.proofs.lemmas.Bool.Decides.{nat_tests}
use Rattle.std.proofs.lemmas.List.Sums.{fold-append}
use Rattle.std.specs.Prelude.{fold}
use Rattle.std.specs.Bool.{passes}
use Rattle.std.specs.Float.{is_sign_negative}
use Rattle.numerics.specs.Binary64.{◌⊗◌, zero, relative_tolerance}
use Rattle.numerics.specs.Classify.{is_nonnegative}
use Rattle.numerics.specs.Extrema.{max, min, max_nonnegative, IsMaxNonnegative, fold_max}
use Rattle.numerics.proofs.ExtremaLaws.{eq_alike}
use Rattle.numerics.proofs.Order.{nonneg_floor}
use Rattle.numerics.proofs.Monotone.{nonneg_zero}

-- ---- the larger and the smaller of two values

-- the second may be a NaN, which is passed over
pub min_le_left : (x y : Float) → T (not (is_nan x)) → T (le (min x y) x)
unfolding min le lt eq is_nan is_sign_negative
min_le_left x y p = grind (arith, nat_tests)

-- by one comparison, the larger of a value that is clear of the sign and of any other, a NaN too
pub max_select : (least x : Float) → T (is_nonnegative least) → max least x ≡ cond (lt least x) x least
unfolding max lt eq is_nan is_nonnegative is_sign_negative
max_select least x h = grind (arith, nat_tests)

-- the larger of a value clear of the sign and any other is clear of it
pub nonneg_max : (x y : Float) → T (is_nonnegative x) → T (is_nonnegative (max x y))
unfolding max lt eq is_nan is_nonnegative is_sign_negative
nonneg_max x y h = search rules

-- the smaller of two values clear of the sign is clear of it
pub nonneg_min : (x y : Float) → T (is_nonnegative x) → T (is_nonnegative y) → T (is_nonnegative (min x y))
unfolding min
nonneg_min x y h k = search rules

-- ---- `max_nonnegative` in the place of `max`

-- with the other value first, by one comparison too
low_second : (low x : Float) → T (fits binary64 low) → T (fits binary64 x) → T (is_nonnegative low) → max_nonnegative low x ≡ max x low
unfolding max lt eq is_nan is_nonnegative is_sign_negative
low_second low x p q k = grind (arith, nat_tests, eq_alike binary64 x low q p)

-- what the contract of `max_nonnegative` says of a result
pub max_nonnegative_is : (low x r : Float) → fits binary64 low ≡ true → fits binary64 x ≡ true → r ≡ max_nonnegative low x → IsMaxNonnegative low x r
max_nonnegative_is low x r p q e = record {
  value = e;
  low_first = λ k. e ∙ sym (max_select low x (passes _ k));
  low_second = λ k. e ∙ low_second low x (passes _ p) (passes _ q) (passes _ k);
}

-- ---- the largest of a list

-- it is clear of the sign
pub nonneg_largest : (low : Float) (xs : List Float) → T (is_nonnegative low) → T (is_nonnegative (fold max low xs))
nonneg_largest low [] n = n
nonneg_largest low (x ∷ xs) n = nonneg_largest (max low x) xs (nonneg_max low x n)

-- the floor of a scale, 64ε of the largest, is clear of the sign
pub floor_clear : (xs : List Float) (s : Float) → s ≡ fold_max xs → is_nonnegative (relative_tolerance ⊗ s) ≡ true
floor_clear xs s e = rw e (is_true _ (nonneg_floor (fold_max xs) (nonneg_largest zero xs (nonneg_zero binary64))))

-- One comparison each finds it: what was found of xs is clear of the sign, and so is what is
-- found of one more.
abbrev pub Found : List Float → Float → Type 0
Found xs low = T (is_nonnegative low) × (low ≡ fold_max xs)

pub found_none : Found [] zero
found_none = (nonneg_zero binary64, refl)

pub found_more : (xs : List Float) (low x r : Float) → Found xs low → IsMaxNonnegative low x r → Found (xs ++ (x ∷ [])) r
found_more xs low x r h l =
    let e : r ≡ max low x = l.low_first (is_true _ h.0) in
    (subst (λ (y : Float). T (is_nonnegative y)) (sym e) (nonneg_max low x h.0), e ∙ ap (λ (y : Float). max y x) h.1 ∙ sym (fold-append max zero xs (x ∷ [])))
