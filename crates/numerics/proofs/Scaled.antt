-- Products with a factor that is finite and above 0: they keep the order of values clear of the
-- sign, and so that of the largest of a list is below a bound where that of each number is.
-- Assumes nothing.
use mathlib.Core.Path.{◌≡◌, refl, ap, ◌∙◌, subst}
use mathlib.Core.Bool.{Bool, true, false, not, ◌&&◌}
use mathlib.Core.List.{List, [], ◌∷◌, map}
use Prim.Native.Nat.{ℕ, suc, ◌*◌, ◌≤◌}
use native.Mathlib.Nat.{mul-pos, mul_comm, mul_assoc, mul-mul-mul_comm, mul-le-mul_left, mul-le-mul_right}
use native.Mathlib.Omega.{arith}
use borrow.Author.Tests.{ltb-false}
use lib.IntN.{ℤ, pos, negsuc}
use lib.Dec.{T, eqb-suc-zero}
use lib.Ieee.{Float, inf, fin, Format, binary64, up, down, round, mul, lt, le, fits, is_nan, of_bits}
use lib.Ieee.Fits.{and_l, and_r, down_pos}
use lib.Ieee.Order.{round_mono}
use Rattle.std.proofs.Common.{rules}
use Rattle.std.specs.Prelude.{fold}
use Rattle.std.proofs.lemmas.Float.{le_right, le_of_lt, lt_irrefl, lt_of_le_of_lt, lt_of_lt_of_le}
use Rattle.std.specs.Float.{is_sign_negative, float_with_sign}
use Rattle.numerics.specs.Binary64.{◌⊗◌, zero as zero·, relative_tolerance}
use Rattle.numerics.specs.Classify.{is_nonnegative, abs}
use Rattle.numerics.specs.Vectors.{all_finite}
use Rattle.numerics.specs.Extrema.{max, fold_max}
use Rattle.numerics.proofs.Values.{round_value}
use Rattle.numerics.proofs.Order.{lt_one_way, nonneg_not_nan, nonneg_mul_positive}
use Rattle.numerics.proofs.Monotone.{finite_not_nan, nonneg_zero, times_zero}
use Rattle.numerics.proofs.Absolute.{nonneg_abs, fits_abs, abs_clear, abs_mul, abs_below, below_negative}
use Rattle.numerics.proofs.Laws.{max_select, nonneg_max}

-- a / u is at most b / v, and so are their products with c / w
keeps : (c a b u v w : ℕ) → a * v ≤ b * u → c * a * (w * v) ≤ c * b * (w * u)
keeps c a b u v w h = rw (mul-mul-mul_comm c a w v, mul-mul-mul_comm c b w u) (mul-le-mul_left (c * w) h)

-- every number is at most +∞
le_top : (x : Float) → T (not (is_nan x)) → T (le x (inf false))
unfolding le lt is_nan
le_top x p = search rules

module _ (f : Format) (m : ℕ) (e : ℤ) where
  abbrev scaled : Float → Float
  scaled x = mul f (fin false (suc m) e) x

  scaled_top : (x : Float) → T (is_nonnegative x) → T (le (scaled x) (inf false))
  scaled_top x p = le_top (scaled x) (nonneg_not_nan (scaled x) (nonneg_mul_positive f m e x p))

  mul_le_mul : (x y : Float) → T (is_nonnegative x) → T (is_nonnegative y) → lt y x ≡ false → T (le (scaled x) (scaled y))
  unfolding is_nonnegative mul lt
  mul_le_mul (fin false k l) (fin false n d) p q h =
      round_mono f _ _ _ _ (mul-pos (down_pos e) (down_pos l)) (mul-pos (down_pos e) (down_pos d))
      (keeps (suc m * up e) (k * up l) (n * up d) (down l) (down d) (down e) (ltb-false _ _ h))
  mul_le_mul x y p q h = grind (arith, scaled_top x p, eqb-suc-zero m)

  -- the absolute value may be taken before or after
  abs_scaled : (x : Float) → abs (scaled x) ≡ scaled (abs x)
  unfolding float_with_sign
  abs_scaled x = abs_mul f (fin false (suc m) e) x

  -- that of the larger of two is below z where those of both are
  scaled_max : (x y z : Float) → T (is_nonnegative x) → T (is_nonnegative y) → lt (scaled (max x y)) z ≡ (lt (scaled x) z && lt (scaled y) z)
  scaled_max x y z p q =
      let up = λ (h : T (lt x y)). mul_le_mul x y p q (lt_one_way x y h) in
      let down = mul_le_mul y x q p in
      rw (max_select x y p) (grind (arith, up, down, lt_of_le_of_lt (scaled x) (scaled y) z, lt_of_le_of_lt (scaled y) (scaled x) z))

  -- and that of the largest of a list, where those of all are
  scaled_largest : (z low : Float) (xs : List Float) → T (is_nonnegative low) → T (all_finite xs)
      → lt (scaled (fold max low (map abs xs))) z ≡ fold (λ g x. g && lt (abs (scaled x)) z) (lt (scaled low) z) xs
  unfolding all_finite
  scaled_largest z low [] p h = refl
  scaled_largest z low (x ∷ xs) p h =
      let q = nonneg_abs x (finite_not_nan x (and_l _ _ h)) in
      scaled_largest z (max low (abs x)) xs (nonneg_max low (abs x) p) (and_r _ _ h)
      ∙ rw (scaled_max low (abs x) z p q, abs_scaled x) refl

  -- ---- by a factor of at most 1

  module _ (at_most_one : suc m * up e ≤ down e) where
    mul_le : (x : Float) → T (fits f x) → T (is_nonnegative x) → T (le (scaled x) x)
    unfolding is_nonnegative mul
    mul_le (fin false n d) p q =
        subst (λ (x : Float). T (le (round f false (suc m * up e * (n * up d)) (down e * down d)) x)) (round_value f (fin false n d) false _ _ (down_pos d) p (refl, refl))
        (round_mono f _ _ _ _ (mul-pos (down_pos e) (down_pos d)) (down_pos d)
        (rw (mul_comm (suc m * up e) (n * up d), mul_assoc (n * up d) (suc m * up e) (down d)) (mul-le-mul_left (n * up d) (mul-le-mul_right (down d) at_most_one))))
    mul_le x p q = grind (arith, scaled_top x q, eqb-suc-zero m)

    -- where the product is below the value, so is its absolute value: no value with the sign has it
    -- so
    scaled_below : (x : Float) → T (fits f x) → lt (abs (scaled x)) x ≡ lt (scaled x) x
    scaled_below x p = by (is_sign_negative x) refl
      where
        never : is_sign_negative x ≡ true → T (lt (scaled x) x) → ⊥
        never k h =
            lt_irrefl (abs x)
            (lt_of_lt_of_le (abs x) (scaled (abs x)) (abs x) (subst (λ (y : Float). T (lt (abs x) y)) (abs_scaled x) (below_negative (scaled x) x h k))
            (mul_le (abs x) (fits_abs f x p) (nonneg_abs x (le_right _ x (le_of_lt _ x h)))))

        by : (s : Bool) → is_sign_negative x ≡ s → lt (abs (scaled x)) x ≡ lt (scaled x) x
        by false k = rw (abs_scaled x, abs_clear x k) refl
        by true k = rw (abs_below (scaled x) x) (grind (arith, never k))

-- ---- by 64ε

-- the floor of a scale is below z
pub floor_below : (z : Float) (xs : List Float) → T (all_finite xs) → lt (relative_tolerance ⊗ fold_max (map abs xs)) z ≡ fold (λ g x. g && lt (abs (relative_tolerance ⊗ x)) z) (lt zero· z) xs
unfolding of_bits
floor_below z xs h =
    scaled_largest binary64 0 (negsuc 45) z zero· xs (nonneg_zero binary64) h
    ∙ ap (λ (x : Float). fold (λ g x. g && lt (abs (relative_tolerance ⊗ x)) z) (lt x z) xs) (times_zero binary64 1 (negsuc 45) (pos 0))

pub floor_below_itself : (x : Float) → T (fits binary64 x) → lt (abs (relative_tolerance ⊗ x)) x ≡ lt (relative_tolerance ⊗ x) x
unfolding of_bits
floor_below_itself x p = scaled_below binary64 0 (negsuc 45) (omega arith) x p
