-- Binary64 of IEEE 754: an operator for each operation, and the constants of the Rust.
-- docs/SPECIFICATION.md, "Numbers".
use Rattle.std.specs.Prelude.{Float}
use Rattle.std.specs.Float.{binary64}
use Rattle.std.specs.Float.Ieee.{add, sub, mul, div, neg, of_bits}

-- x + y, x − y, x · y and x ÷ y, each rounded once: to the nearest binary64, a tie to the even one
infixl 75 ◌⊕◌ ◌⊖◌
infixl 80 ◌⊗◌ ◌⊘◌
abbrev pub ◌⊕◌ : Float → Float → Float
x ⊕ y = add binary64 x y

abbrev pub ◌⊖◌ : Float → Float → Float
x ⊖ y = sub binary64 x y

abbrev pub ◌⊗◌ : Float → Float → Float
x ⊗ y = mul binary64 x y

abbrev pub ◌⊘◌ : Float → Float → Float
x ⊘ y = div binary64 x y

-- +0, −0, 1/2 and 1
abbrev pub zero : Float
zero = of_bits binary64 0

abbrev pub neg_zero : Float
neg_zero = neg zero

abbrev pub half : Float
half = of_bits binary64 0x3fe0_0000_0000_0000

abbrev pub one : Float
one = of_bits binary64 0x3ff0_0000_0000_0000

-- 64ε = 2 ^ -46, where ε is `f64::EPSILON`, 2 ^ -52
abbrev pub relative_tolerance : Float
relative_tolerance = of_bits binary64 0x3d10_0000_0000_0000

-- 192ε = 3 · 2 ^ -46, `POINT_BLOCK_RCOND_THRESHOLD` of `point_block.rs`
abbrev pub point_block_rcond_threshold : Float
point_block_rcond_threshold = of_bits binary64 0x3d28_0000_0000_0000

-- 2 ^ -1022, the smallest normal value, `f64::MIN_POSITIVE`
abbrev pub min_positive : Float
min_positive = of_bits binary64 0x0010_0000_0000_0000

-- 1 ÷ x, `f64::recip`
abbrev pub recip : Float → Float
recip x = one ⊘ x
