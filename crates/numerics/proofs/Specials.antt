-- Bit patterns: a NaN's, and the sign's bit. Assumes nothing.
use mathlib.Core.Path.{◌≡◌, refl, sym, ◌∙◌}
use mathlib.Core.Bool.{true}
use Prim.Native.Nat.{ℕ, ◌*◌, ◌%◌, ◌<◌}
use borrow.Author.Tests.{lt-ltb}
use lib.Ieee.{Float, nan, Format, binary64, is_nan, hid, ones, top, of_bits, to_bits}
use lib.Ieee.Bits.{nan_bits_is, nan_bits_above}
use Rattle.std.proofs.Common.{rules}

-- the NaN by its pattern, and its pattern
pub nan_of_pattern : of_bits binary64 0x7ff8_0000_0000_0000 ≡ nan
unfolding of_bits
nan_of_pattern = refl

pub nan_pattern : to_bits binary64 nan ≡ 0x7ff8_0000_0000_0000
unfolding to_bits
nan_pattern = refl

-- one NaN there is
pub nan_of_is_nan : (x : Float) → is_nan x ≡ true → x ≡ nan
unfolding is_nan
nan_of_is_nan x h = search rules

-- a pattern whose rest, below the sign's bit, lies above an infinity's is a NaN's, and no other is
pub nan_of_bits : (f : Format) (b : ℕ) → ones f * hid f < b % top f → of_bits f b ≡ nan
nan_of_bits f b h = nan_of_is_nan (of_bits f b) (sym (nan_bits_is f b) ∙ nan_bits_above f b ∙ lt-ltb (ones f * hid f) (b % top f) h)
