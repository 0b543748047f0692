-- What the standard says of the larger and the smaller of two values that binary64 holds, for
-- each of its cases. Assumes nothing.
use mathlib.Core.Path.{◌≡◌, refl, sym, ◌∙◌}
use mathlib.Core.Bool.{Bool, true, not, ◌||◌}
use Prim.Native.Nat.{ℕ, ◌*◌}
use native.Mathlib.Nat.{zero-mul}
use native.Mathlib.Omega.{arith}
use lib.IntN.{pos}
use lib.Dec.{T, eqb, eqb→eq}
use lib.Ieee.{Float, fin, Format, binary64, up, down, fits, is_nan, lt, eq, level, of_bits, neg}
use lib.Ieee.Fits.{and_l, and_r, down_pos}
use Rattle.std.proofs.Common.{rules}
use Rattle.std.proofs.lemmas.Float.{eq_flip}
use Rattle.std.specs.Bool.{beq, passes}
use Rattle.std.specs.Float.{is_sign_negative}
use Rattle.numerics.specs.Extrema.{max, min, IsMaximum, IsMinimum}
use Rattle.numerics.proofs.Values.{same_value}

-- ---- equal values

-- of one sign they are one value
pub eq_alike : (f : Format) (x y : Float) → T (fits f x) → T (fits f y) → is_sign_negative x ≡ is_sign_negative y → T (eq x y) → x ≡ y
unfolding eq is_sign_negative
eq_alike f (fin s m e) (fin t n d) p q a h =
    let u = m * up e * down d in
    let v = n * up d * down e in
    same_value f (fin s m e) (fin t n d) s (m * up e) (down e) (down_pos e) p q (refl, refl) (sym a, sym (eqb→eq u v (and_l (eqb u v) (beq s t || eqb u 0) h)))
eq_alike f x y p q a h = grind arith

-- of unlike signs they are zeros
level_zero : (s t : Bool) (a b : ℕ) → s ≡ not t → T (level s a t b) → a ≡ 0
level_zero s t a b u h = search (rules, eqb→eq, and_r)

-- so the first of two such values is a zero with its own sign
eq_unlike : (f : Format) (x y : Float) → T (fits f x) → is_sign_negative x ≡ not (is_sign_negative y) → T (eq x y) → x ≡ fin (is_sign_negative x) 0 (pos 0)
unfolding eq is_sign_negative
eq_unlike f (fin s m e) (fin t n d) p a h =
    let z = level_zero s t (m * up e * down d) (n * up d * down e) a h in
    same_value f (fin s m e) (fin s 0 (pos 0)) s 0 (down d) (down_pos d) p (unfold fits in tt) (refl, z ∙ sym (zero-mul (down e))) (refl, zero-mul (down d))
eq_unlike f x y p a h = grind arith

flip : (s t : Bool) → s ≡ not t → t ≡ not s
flip s t u = search rules

-- each case of the standard, by cases of the two values
is_maximum : (x y : Float) → T (fits binary64 x) → T (fits binary64 y) → IsMaximum x y (max x y)
unfolding max is_nan lt eq is_sign_negative of_bits
is_maximum x y p q = record {
  first_nan = λ k. search rules;
  second_nan = λ k. search rules;
  first = λ k. search rules;
  second = λ k. search rules;
  equal = λ k s. let e = eq_alike binary64 x y p q s (passes _ k) in grind arith;
  unlike_zeros = λ k s.
      let e = eq_unlike binary64 x y p s (passes _ k) in
      let g = eq_unlike binary64 y x q (flip _ _ s) (eq_flip x y (passes _ k)) in
      grind arith;
}

-- what the contracts of `max` and `min` say of a result
pub maximum_is : (x y r : Float) → fits binary64 x ≡ true → fits binary64 y ≡ true → r ≡ max x y → IsMaximum x y r
maximum_is x y r p q e = rw e (is_maximum x y (passes _ p) (passes _ q))

is_minimum : (x y : Float) → T (fits binary64 x) → T (fits binary64 y) → IsMinimum x y (min x y)
unfolding min is_nan lt eq is_sign_negative of_bits neg
is_minimum x y p q = record {
  first_nan = λ k. search rules;
  second_nan = λ k. search rules;
  first = λ k. search rules;
  second = λ k. search rules;
  equal = λ k s. let e = eq_alike binary64 x y p q s (passes _ k) in grind arith;
  unlike_zeros = λ k s.
      let e = eq_unlike binary64 x y p s (passes _ k) in
      let g = eq_unlike binary64 y x q (flip _ _ s) (eq_flip x y (passes _ k)) in
      grind arith;
}

pub minimum_is : (x y r : Float) → fits binary64 x ≡ true → fits binary64 y ≡ true → r ≡ min x y → IsMinimum x y r
minimum_is x y r p q e = rw e (is_minimum x y (passes _ p) (passes _ q))
