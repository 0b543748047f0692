-- The parts of a value: its sign, its absolute value, whether it is finite, and its magnitude as a
-- whole number. docs/SPECIFICATION.md, "Numbers".
use Rattle.std.specs.Prelude.{ℕ, ◌*◌, ◌/◌, ◌^◌, Bool, false, not, ◌&&◌, Float}
use Rattle.std.specs.Float.{nan, inf, fin, binary64, float_is_finite, float_with_sign}
use Rattle.std.specs.Float.Ieee.{low, up, down, lt}
use Rattle.numerics.specs.Binary64.{zero}

-- a number with the sign clear: +0 and what lies above it, and neither −0 nor NaN
unfoldable pub is_nonnegative : Float → Bool
is_nonnegative nan = false
is_nonnegative (inf s) = not s
is_nonnegative (fin s m e) = not s

-- 0 < x < ∞
abbrev pub is_positive_finite : Float → Bool
is_positive_finite x = float_is_finite x && lt zero x

-- |x|, `f64::abs`: the sign is cleared, of a zero too, and a NaN stays
abbrev pub abs : Float → Float
abs = float_with_sign false

-- |x| · 2 ^ 1074: how many of the smallest positive values, 2 ^ -1074, a finite binary64 is without
-- its sign, a whole number. Of x = m · 2 ^ e it is m · 2 ^ e · 2 ^ 1074, where `up e / down e` is
-- 2 ^ e. It says nothing of a NaN or an infinity.
unfoldable pub magnitude : Float → ℕ
magnitude nan = 0
magnitude (inf s) = 0
magnitude (fin s m e) = m * up e * 2 ^ low binary64 / down e
