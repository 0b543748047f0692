-- A bit pattern of binary64 and the magnitude of its value, in units of 2 ^ -1074. Assumes nothing.
use mathlib.Core.Path.{◌≡◌, ap, subst, ◌∙◌}
use mathlib.Core.Bool.{Bool, true, false, cond, true≢false}
use Prim.Native.Nat.{ℕ, zero, suc, ◌+◌, ◌-◌, ◌*◌, ◌/◌, ◌%◌, ◌^◌, ◌<◌}
use native.Mathlib.Nat.{mul-div_cancel, zero-add, mul-one, mod-eq_of_lt, lt_irrefl}
use native.Mathlib.Omega.{arith}
use borrow.Author.Tests.{lt-leb, ne_eqb}
use lib.Dec.{T, leb, eqb}
use lib.Ieee.{Float, nan, inf, fin, binary64, low, down, size, odd, of_fields, of_bits, to_bits, fits, ones}
use lib.Ieee.Bits.{of_bits-to_bits}
use lib.Ieee.Exact.{HasValue, odd_sign}
use lib.Ieee.Fits.{down_pos}
use Rattle.std.specs.Float.{float_is_finite}
use Rattle.numerics.specs.Classify.{magnitude}

pub magnitude_of : (x : Float) (s : Bool) (a : ℕ) → HasValue x s a (2 ^ low binary64) → magnitude x ≡ a
unfolding magnitude
magnitude_of nan s a h = absurd h
magnitude_of (inf t) s a h = absurd h
magnitude_of (fin t m e) s a h = ap (λ (n : ℕ). n / down e) h.1 ∙ mul-div_cancel a (down_pos e)

-- the pattern of a value with the sign clear, by its magnitude
pub to_bits_of : (x : Float) (a : ℕ) → HasValue x false a (2 ^ low binary64) → to_bits binary64 x ≡ (size a - 53) * 2 ^ 52 + a / 2 ^ (size a - 53)
unfolding to_bits
to_bits_of nan a h = absurd h
to_bits_of (inf t) a h = absurd h
to_bits_of (fin true m e) a h = absurd (true≢false h.0)
to_bits_of (fin false m e) a h =
    ap (λ (n : ℕ). 0 + (size n - 53) * 2 ^ 52 + n / 2 ^ (size n - 53)) (ap (λ (n : ℕ). n / down e) h.1 ∙ mul-div_cancel a (down_pos e))
    ∙ ap (λ (n : ℕ). n + a / 2 ^ (size a - 53)) (zero-add ((size a - 53) * 2 ^ 52))

-- ---- what a pattern's fields count

-- the digits with the leading one, which an exponent's field above 0 adds, and the power of two
-- beside them
abbrev pub digits : ℕ → ℕ → ℕ
digits zero t = t
digits (suc x) t = 2 ^ 52 + t

abbrev pub power : ℕ → ℕ
power zero = 0
power (suc x) = x

fields_value : (s : Bool) (x t : ℕ) → T (float_is_finite (of_fields binary64 s x t)) → HasValue (of_fields binary64 s x t) s (digits x t * 2 ^ power x) (2 ^ low binary64)
unfolding of_fields float_is_finite
fields_value s zero t h = odd_sign 53 s t 0 1074
fields_value s (suc x) t h = go (eqb (suc x) (ones binary64)) (eqb t 0) h
  where
    go : (a b : Bool) → T (float_is_finite (cond a (cond b (inf s) nan) (odd 53 s (2 ^ 52 + t) x 1074)))
        → HasValue (cond a (cond b (inf s) nan) (odd 53 s (2 ^ 52 + t) x 1074)) s ((2 ^ 52 + t) * 2 ^ x) (2 ^ 1074)
    go true true k = absurd k
    go true false k = absurd k
    go false b k = odd_sign 53 s (2 ^ 52 + t) x 1074

odd_finite : (d : ℕ) (s : Bool) (q k l : ℕ) → T (float_is_finite (odd d s q k l))
unfolding odd float_is_finite
odd_finite d s zero k l = tt
odd_finite d s (suc q) k l = tt

fields_finite : (s : Bool) (x t : ℕ) → x < ones binary64 → T (float_is_finite (of_fields binary64 s x t))
unfolding of_fields
fields_finite s zero t h = odd_finite 53 s t 0 1074
fields_finite s (suc x) t h =
    rw (ne_eqb (suc x) (ones binary64) (λ e. lt_irrefl (ones binary64) (subst (λ (y : ℕ). y < ones binary64) e h))) (odd_finite 53 s (2 ^ 52 + t) x 1074)

-- a pattern below +∞'s has the sign clear and its two fields
plain_fields : (b : ℕ) → b < 0x7ff0_0000_0000_0000 → of_bits binary64 b ≡ of_fields binary64 false (b / 2 ^ 52) (b % 2 ^ 52)
unfolding of_bits
plain_fields b h =
    ap (λ (s : Bool). of_fields binary64 s (b % 2 ^ 63 / 2 ^ 52) (b % 2 ^ 52)) (lt-leb (2 ^ 63) b (omega arith))
    ∙ ap (λ (r : ℕ). of_fields binary64 false (r / 2 ^ 52) (b % 2 ^ 52)) (mod-eq_of_lt (let k : b < 2 ^ 63 = omega arith in k))

pub plain_finite : (b : ℕ) → b < 0x7ff0_0000_0000_0000 → T (float_is_finite (of_bits binary64 b))
plain_finite b h = rw plain_fields (fields_finite false (b / 2 ^ 52) (b % 2 ^ 52) (omega arith))

pattern_value : (b : ℕ) → b < 0x7ff0_0000_0000_0000 → HasValue (of_bits binary64 b) false (digits (b / 2 ^ 52) (b % 2 ^ 52) * 2 ^ power (b / 2 ^ 52)) (2 ^ low binary64)
pattern_value b h = rw plain_fields (fields_value false (b / 2 ^ 52) (b % 2 ^ 52) (rw (← (plain_fields b h)) (plain_finite b h)))

-- below 2 ^ 52 a pattern counts its units
pub low_value : (b : ℕ) → b < 2 ^ 52 → HasValue (of_bits binary64 b) false b (2 ^ low binary64)
low_value b h =
    let z : b / 2 ^ 52 ≡ 0 = omega arith in
    subst (λ (n : ℕ). HasValue (of_bits binary64 b) false n (2 ^ low binary64))
    (ap (λ (x : ℕ). digits x (b % 2 ^ 52) * 2 ^ power x) z ∙ mul-one (b % 2 ^ 52) ∙ mod-eq_of_lt h)
    (pattern_value b (omega arith))

-- from there on it has a leading digit and a power of two
pub normal_value : (b x : ℕ) → b < 0x7ff0_0000_0000_0000 → b / 2 ^ 52 ≡ suc x → HasValue (of_bits binary64 b) false ((2 ^ 52 + b % 2 ^ 52) * 2 ^ x) (2 ^ low binary64)
normal_value b x h e = subst (λ (y : ℕ). HasValue (of_bits binary64 b) false (digits y (b % 2 ^ 52) * 2 ^ power y) (2 ^ low binary64)) e (pattern_value b h)

-- ---- a finite binary64 is a whole number of less than 54 digits times a power of two, in units
pub record Grid (y : Float) : Type 0 where
  pub sign : Bool
  pub count : ℕ
  pub place : ℕ
  pub value : HasValue y sign (count * 2 ^ place) (2 ^ low binary64)
  pub count_lt : count < 2 ^ 53
  pub place_lt : place < 2047

digits_lt : (x t : ℕ) → t < 2 ^ 52 → digits x t < 2 ^ 53
digits_lt zero t h = omega arith
digits_lt (suc x) t h = omega arith

power_lt : (x : ℕ) → x < 2048 → power x < 2047
power_lt zero h = omega arith
power_lt (suc x) h = omega arith

fields_grid : (s : Bool) (x t : ℕ) → x < 2048 → t < 2 ^ 52 → T (float_is_finite (of_fields binary64 s x t)) → Grid (of_fields binary64 s x t)
fields_grid s x t X H f = record {
  sign = s;
  count = digits x t;
  place = power x;
  value = fields_value s x t f;
  count_lt = digits_lt x t H;
  place_lt = power_lt x X;
}

bits_grid : (b : ℕ) → T (float_is_finite (of_bits binary64 b)) → Grid (of_bits binary64 b)
unfolding of_bits
bits_grid b f = fields_grid (leb (2 ^ 63) b) (b % 2 ^ 63 / 2 ^ 52) (b % 2 ^ 52) (omega arith) (omega arith) f

pub grid : (y : Float) → T (fits binary64 y) → T (float_is_finite y) → Grid y
grid y h f = subst Grid (of_bits-to_bits binary64 y h) (bits_grid (to_bits binary64 y) (rw (of_bits-to_bits binary64 y h) f))
