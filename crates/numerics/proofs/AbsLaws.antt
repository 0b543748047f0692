-- The absolute value by a difference from 0. Assumes nothing.
use mathlib.Core.Path.{◌≡◌, refl}
use mathlib.Core.Bool.{true, false}
use Prim.Native.Nat.{ℕ, ◌+◌, ◌-◌, ◌*◌, ◌≤◌}
use native.Mathlib.Nat.{zero-lt-suc, zero-sub, zero-mul, zero-add, mul-one, one-mul, mul-pos}
use native.Mathlib.Omega.{arith}
use borrow.Author.Tests.{ltb-false}
use lib.IntN.{pos}
use lib.Dec.{T}
use lib.Ieee.{Float, fin, Format, up, down, neg, sub, lt, fits, of_bits}
use lib.Ieee.Fits.{down_pos, neg-fits}
use Rattle.std.proofs.Common.{rules}
use Rattle.std.specs.Float.{float_with_sign}
use Rattle.numerics.specs.Classify.{abs}
use Rattle.numerics.proofs.Values.{zero_is, round_value}

-- above 0 a value is its absolute value
pub abs_above : (f : Format) (x : Float) → lt (of_bits f 0) x ≡ true → x ≡ abs x
unfolding lt float_with_sign
abs_above f x h = let k = rw (zero_is f) at h in search rules

-- the size of a value that has the sign, and of what its difference from 0 is rounded from
cleared : (u d : ℕ) → u * (1 * d) ≡ (0 * d + u * 1) * d
cleared u d = simp (one-mul, zero-mul, zero-add, mul-one)

-- the same where the sign is clear: not above 0, the value is 0
no_more : (u d : ℕ) → u * 1 ≤ 0 * d → u * (1 * d) ≡ (0 * d - u * 1) * d
no_more u d h =
    let z : u ≡ 0 = omega (arith, zero-mul d) in
    simp (z, zero-mul, zero-sub)

-- elsewhere the absolute value is the difference from 0
from_zero : (f : Format) (x : Float) → T (fits f x) → lt (fin false 0 (pos 0)) x ≡ false → sub f (fin false 0 (pos 0)) x ≡ abs x
unfolding lt sub neg float_with_sign
from_zero f (fin true m e) p h =
    round_value f (fin false m e) false _ _ (mul-pos (zero-lt-suc 0) (down_pos e)) (neg-fits f (fin true m e) p) (refl, cleared (m * up e) (down e))
from_zero f (fin false m e) p h =
    let k = ltb-false (0 * down e) (m * up e * 1) h in
    rw h (round_value f (fin false m e) false _ _ (mul-pos (zero-lt-suc 0) (down_pos e)) p (refl, no_more (m * up e) (down e) k))
from_zero f x p h = search rules

pub abs_rest : (f : Format) (x : Float) → T (fits f x) → lt (of_bits f 0) x ≡ false → sub f (of_bits f 0) x ≡ abs x
abs_rest f x p h = rw (zero_is f) (from_zero f x p (rw (zero_is f) at h))
