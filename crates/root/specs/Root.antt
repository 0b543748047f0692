-- The square root of binary64, `f64::sqrt`: IEEE 754's, correctly rounded, defined by comparing
-- squares of whole numbers. docs/SPECIFICATION.md, "Square root".
use Prim.Native.Nat.{ℕ, zero, suc, ◌+◌, ◌-◌, ◌*◌, ◌/◌, ◌^◌, ◌<◌, compare}
use Rattle.std.specs.Prelude.{true, false, if◌then◌else◌, IsTrue, nat_le, Float}
use Rattle.std.specs.Float.{nan, inf, fin, binary64, float_is_finite}
use Rattle.std.specs.Float.Ieee.{size, nearest, units, fits}
use Rattle.numerics.specs.Classify.{is_nonnegative, magnitude}

-- ⌊√n⌋ for an n below 4 ^ d, digit by digit: with r = 2 · ⌊√⌊n / 4⌋⌋ it is r + 1 where
-- (r + 1)² ≤ n, and r elsewhere
unfoldable pub whole_root : ℕ → ℕ → ℕ
whole_root zero n = 0
whole_root (suc d) n =
    let r = 2 * whole_root d (n / 4) in
    if nat_le (suc r * suc r) n then suc r else r

-- √n units of 2 ^ -1074, rounded to a multiple of 2 ^ k units, where √n < 2 ^ (53 + k): with
-- q = ⌊√⌊n / 2 ^ (2·k)⌋⌋ it is q · 2 ^ k units where 4·n < (2·q + 1)² · 2 ^ (2·k), as √n then
-- lies below the middle (q + 1/2) · 2 ^ k, and (q + 1) · 2 ^ k units where it lies above. On the
-- middle itself, where no root of a binary64 lies, it is the even one of the two.
unfoldable pub rounded_root : ℕ → ℕ → Float
unfolding whole_root
rounded_root n k =
    let q = whole_root 53 (n / 2 ^ (2 * k)) in
    let to_middle = compare (4 * n) ((2 * q + 1) * (2 * q + 1) * 2 ^ (2 * k)) in
    units binary64 false (nearest q to_middle) k

-- √n units of 2 ^ -1074, rounded to 53 binary digits. With D digits in n the root has ⌈D / 2⌉, of
-- which k = max(0, ⌈D / 2⌉ − 53) are dropped. `size n` is D, and `-` ends at 0.
unfoldable pub nearest_root : ℕ → Float
unfolding rounded_root
nearest_root n = rounded_root n ((size n + 1) / 2 - 53)

-- √x. Where 0 < x < ∞ and V = x · 2 ^ 1074, its magnitude, that is √(V · 2 ^ 1074) units of
-- 2 ^ -1074. NaN and what lies below zero give NaN, +∞ gives +∞, and a zero of either sign itself.
unfoldable pub sqrt : Float → Float
unfolding nearest_root
sqrt nan = nan
sqrt (inf true) = nan
sqrt (inf false) = inf false
sqrt (fin s zero e) = fin s zero e
sqrt (fin true (suc m) e) = nan
sqrt (fin false (suc m) e) = nearest_root (magnitude (fin false (suc m) e) * 2 ^ 1074)

-- For an x with 0 < x < ∞: r is the square root that IEEE 754 asks for. It is a finite binary64 and
-- not below zero, and no other one is as near to the exact root √x. For a y below r the middle of
-- the two lies below √x, so that y is further away, and for a y above r the middle lies above √x:
--
--     (y + r) / 2 < √x, which is (y + r)² < 4·x, for each finite y with 0 ≤ y < r
--     √x < (y + r) / 2, which is 4·x < (y + r)², for each finite y with r < y
--
-- Both are said by magnitudes, whole numbers: values without their sign in units of 2 ^ -1074. No
-- tie occurs, so that both are strict. (A y with the sign set lies further away than its absolute
-- value does.)
pub record IsCorrectlyRounded (x r : Float) : Type 0 where
  pub is_binary64 : IsTrue (fits binary64 r)
  pub is_finite : IsTrue (float_is_finite r)
  pub has_sign_clear : IsTrue (is_nonnegative r)
  pub lower_are_further :
      (y : Float) → IsTrue (fits binary64 y) → IsTrue (float_is_finite y)
      → magnitude y < magnitude r
      → (magnitude y + magnitude r) ^ 2 < 4 * (magnitude x * 2 ^ 1074)
  pub higher_are_further :
      (y : Float) → IsTrue (fits binary64 y) → IsTrue (float_is_finite y)
      → magnitude r < magnitude y
      → 4 * (magnitude x * 2 ^ 1074) < (magnitude y + magnitude r) ^ 2
