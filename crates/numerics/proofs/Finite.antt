-- A sum or a product is finite only where both operands are, and one product tells whether every
-- number of a list is. Assumes nothing.
use mathlib.Core.Path.{◌≡◌, refl, ◌∙◌}
use mathlib.Core.Bool.{Bool, true, false, not, ◌&&◌}
use mathlib.Core.List.{List, [], ◌∷◌}
use Prim.Native.Nat.{◌*◌}
use native.Mathlib.Nat.{zero-mul, mul-pos}
use native.Mathlib.Omega.{arith}
use lib.Dec.{T, eqb, eqb→eq}
use lib.Ieee.{Float, nan, inf, fin, Format, unlike, up, down, add, mul, eq, neg, sub, of_bits}
use lib.Ieee.Bits.{is_true}
use lib.Ieee.Fits.{down_pos}
use Rattle.std.proofs.Common.{rules}
use Rattle.std.specs.Prelude.{fold}
use Rattle.std.specs.Float.{float_is_finite}
use Rattle.numerics.specs.Vectors.{all_finite}
use Rattle.numerics.proofs.Values.{zero_is, round_zero}

-- where x + y is finite, so are x and y
pub finite_add : (f : Format) (x y : Float) → T (float_is_finite (add f x y)) → T (float_is_finite x) × T (float_is_finite y)
unfolding float_is_finite add
finite_add f x y h = search rules

-- where x − y is finite, so are x and y
pub finite_sub : (f : Format) (x y : Float) → T (float_is_finite (sub f x y)) → T (float_is_finite x) × T (float_is_finite y)
unfolding float_is_finite add sub neg
finite_sub f x y h = search rules

-- where x · y is finite, so are x and y
pub finite_mul : (f : Format) (x y : Float) → T (float_is_finite (mul f x y)) → T (float_is_finite x) × T (float_is_finite y)
unfolding float_is_finite mul
finite_mul f x y h = search rules

-- ---- a product from +0: a zero while every factor is finite, and NaN from the first that is not

-- what the product is where the factors so far are all finite, as `good` says, and where not
unfoldable tells : Bool → Float → Bool
tells good nan = not good
tells good (inf s) = false
tells good (fin s m e) = good && eqb m 0

-- one more factor
more : (f : Format) (good : Bool) (p x : Float) → T (tells good p) → T (tells (good && float_is_finite x) (mul f p x))
unfolding tells float_is_finite mul
more f true (fin s m e) (fin t n d) h =
    rw (eqb→eq m 0 h, zero-mul (up e), zero-mul (n * up d), round_zero f (unlike s t) (down e * down d) (mul-pos (down_pos e) (down_pos d))) tt
more f true (fin s m e) (inf t) h = rw (is_true (eqb m 0) h) tt
more f good p x h = search rules

-- the product equals 0 where every factor so far is finite
told : (f : Format) (good : Bool) (p : Float) → T (tells good p) → eq p (of_bits f 0) ≡ good
unfolding tells eq
told f true (fin true m e) h = rw (zero_is f, eqb→eq m 0 h, zero-mul (up e), zero-mul (down e)) refl
told f true (fin false m e) h = rw (zero_is f, eqb→eq m 0 h, zero-mul (up e), zero-mul (down e)) refl
told f good p h = search rules

-- the factors that are left, one by one
tells_all : (f : Format) (good : Bool) (p : Float) (xs : List Float) → T (tells good p) → eq (fold (mul f) p xs) (of_bits f 0) ≡ fold (λ g x. g && float_is_finite x) good xs
tells_all f good p [] h = told f good p h
tells_all f good p (x ∷ xs) h = tells_all f (good && float_is_finite x) (mul f p x) xs (more f good p x h)

-- the product of a list from +0 is a zero where every entry is finite
pub product_tells : (f : Format) (xs : List Float) → eq (fold (mul f) (of_bits f 0) xs) (of_bits f 0) ≡ fold (λ g x. g && float_is_finite x) true xs
unfolding tells
product_tells f xs = tells_all f true (of_bits f 0) xs (rw (zero_is f) tt)

-- the same of `all_finite`, which goes from the other end
all_from : (good : Bool) (xs : List Float) → fold (λ g x. g && float_is_finite x) good xs ≡ (good && all_finite xs)
unfolding all_finite
all_from good [] = grind arith
all_from good (x ∷ xs) = all_from (good && float_is_finite x) xs ∙ grind arith

pub product_tells_all : (f : Format) (xs : List Float) → eq (fold (mul f) (of_bits f 0) xs) (of_bits f 0) ≡ all_finite xs
product_tells_all f xs = product_tells f xs ∙ all_from true xs
