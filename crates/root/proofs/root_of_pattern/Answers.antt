-- `root::root_of_pattern` meets its contract: a subnormal pattern's digits are moved up to 53 of
-- them, and the power of two beside them goes down as far. Assumes nothing.
use mathlib.Core.Path.{◌≡◌, sym, ap, ◌∙◌}
use Prim.Native.Nat.{ℕ, suc, ◌+◌, ◌-◌, ◌*◌, ◌%◌, ◌^◌, ◌≤◌, ◌<◌}
use native.Mathlib.Nat.{le_trans, le_of_eq, lt_of_lt_of_le, mul_assoc, mul-le-mul_right, mul-lt-mul_of_pos_right, mod-eq_of_lt, lt_of_not-le, lt_irrefl}
use native.Mathlib.Omega.{arith}
use lib.Count.{count_leading_zeros, leading_top}
use lib.Dec.{lit≤}
use lib.Pow.{pow-add, pow_pos, pow_mono}
use lib.Ieee.{binary64, of_bits, to_bits}
use Rattle.root.specs.Root.{nearest_root, sqrt}
use Rattle.root.proofs.Patterns.{low_value}
use Rattle.root.proofs.Rounded.{sqrt_of}
use Rattle.root.proofs.Read.{normal}
use Rattle.root.proofs.root_of_pattern.Goals as goal

-- what the count of leading zeros gives for a pattern below 2 ^ 52: moved up by z - 11 places,
-- it has 53 digits
record Moved (b z : ℕ) : Type 0 where
  enough : 11 ≤ z
  few : z ≤ 63
  low : 2 ^ 52 ≤ b * 2 ^ (z - 11)
  high : b * 2 ^ (z - 11) < 2 ^ 53

moved : (b : ℕ) → 0 < b → b < 2 ^ 52 → Moved b (count_leading_zeros 64 b)
moved b p h = go (count_leading_zeros 64 b) (leading_top 64 b p (omega arith))
  where
    go : (z : ℕ) → (j : ℕ) × (z + suc j ≡ 64) × (2 ^ j ≤ b) × (b < 2 ^ suc j) → Moved b z
    go z (j, e, lo, hi) =
        let j-lt : j < 52 = lt_of_not-le (λ (g : 52 ≤ j). lt_irrefl b (lt_of_lt_of_le h (le_trans (pow_mono {i = 52} {j = j} g) lo))) in
        let s = z - 11 in
        let up : 52 ≡ j + s = omega arith in
        let up' : 53 ≡ suc j + s = omega arith in
        record {
          enough = omega arith;
          few = omega arith;
          low = le_trans (le_of_eq (ap (λ (n : ℕ). 2 ^ n) up ∙ pow-add 2 j s)) (mul-le-mul_right (2 ^ s) lo);
          high = lt_of_lt_of_le (mul-lt-mul_of_pos_right hi (pow_pos s)) (le_of_eq (sym (ap (λ (n : ℕ). 2 ^ n) up' ∙ pow-add 2 (suc j) s)));
        }

-- nothing is moved out of a word
kept : {b z : ℕ} → Moved b z → b * 2 ^ (z - 11) % 2 ^ 64 ≡ b * 2 ^ (z - 11)
kept m = mod-eq_of_lt (lt_of_lt_of_le m.high (lit≤ tt))

-- below 2 ^ 52 the pattern counts units, and moving them up by s places is taken back by the power
subnormal : (b s : ℕ) → 0 < b → b < 2 ^ 52 → s ≤ 1022 → to_bits binary64 (nearest_root (b * 2 ^ s * 2 ^ (1022 - s + 52))) ≡ to_bits binary64 (sqrt (of_bits binary64 b))
subnormal b s p h k =
    ap (λ (n : ℕ). to_bits binary64 (nearest_root n)) (mul_assoc b (2 ^ s) (2 ^ (1022 - s + 52)) ∙ ap (λ (n : ℕ). b * n) (sym (pow-add 2 s (1022 - s + 52)) ∙ ap (λ (n : ℕ). 2 ^ n) (whole s k)))
    ∙ ap (to_bits binary64) (sym (sqrt_of (of_bits binary64 b) b (low_value b h) p))
  where
    whole : (s : ℕ) → s ≤ 1022 → s + (1022 - s + 52) ≡ 1074
    whole s k = omega arith

pub overflow_sub-shift : goal.overflow_sub-shift
overflow_sub-shift c = (moved c.args.b c.requires.0 c.if-b-lt-LEAD.true).enough

pub overflow_cast-shift : goal.overflow_cast-shift
overflow_cast-shift c = let m = moved c.args.b c.requires.0 c.if-b-lt-LEAD.true in omega arith

pub overflow_shl-b : goal.overflow_shl-b
overflow_shl-b c = let m = moved c.args.b c.requires.0 c.if-b-lt-LEAD.true in omega arith

pub overflow_cast-shift-then-b-lt-LEAD : goal.overflow_cast-shift-then-b-lt-LEAD
overflow_cast-shift-then-b-lt-LEAD c = let m = moved c.args.b c.requires.0 c.if-b-lt-LEAD.true in omega arith

pub overflow_sub-shift-then-b-lt-LEAD : goal.overflow_sub-shift-then-b-lt-LEAD
overflow_sub-shift-then-b-lt-LEAD c = let m = moved c.args.b c.requires.0 c.if-b-lt-LEAD.true in omega arith

pub root_of_digits-requires : goal.root_of_digits-requires
root_of_digits-requires c =
    let m = moved c.args.b c.requires.0 c.if-b-lt-LEAD.true in
    rw (kept m) (m.low, m.high, omega arith)

pub returns-then-b-lt-LEAD : goal.returns-then-b-lt-LEAD
returns-then-b-lt-LEAD c =
    let b = c.args.b in
    let m = moved b c.requires.0 c.if-b-lt-LEAD.true in
    c.root_of_digits.ensures
    ∙ ap (λ (n : ℕ). to_bits binary64 (nearest_root (n * 2 ^ (1022 - (count_leading_zeros 64 b - 11) + 52)))) (kept m)
    ∙ subnormal b (count_leading_zeros 64 b - 11) c.requires.0 c.if-b-lt-LEAD.true (omega arith)

pub returns-else-b-lt-LEAD : goal.returns-else-b-lt-LEAD
returns-else-b-lt-LEAD c = c.root_of_digits-else-b-lt-LEAD.ensures ∙ normal c.args.b c.if-b-lt-LEAD.false c.requires.1
