-- The definition of the root, at an n that is d * 2 ^ (2 * k) with a d of 105 or 106 digits: it
-- is r * 2 ^ k units, where r is the whole number nearest to the root of d. Assumes nothing.
use mathlib.Core.Path.{◌≡◌, refl, sym, ap, subst, ◌∙◌}
use mathlib.Core.Logic.{◌⊎◌, inl, inr}
use mathlib.Core.Bool.{Bool, true, false, cond, true≢false}
use Prim.Native.Nat.{ℕ, zero, suc, ◌+◌, ◌-◌, ◌*◌, ◌/◌, ◌^◌, ◌≤◌, ◌<◌, compare}
use native.Mathlib.Nat.{le_trans, le_of_eq, lt_irrefl, lt_of_lt_of_le, lt_of_le_of_lt, lt_of_not-le, mul-le-mul_right, mul-lt-mul_of_pos_right, mul-div_cancel, mul_assoc, mul-pos, zero-mul, eq-or-lt_of_le}
use native.Mathlib.Omega.{arith}
use lib.Dec.{T, ltb, lt→ltb, lit<, lit≤}
use lib.Pow.{pow-add, pow_pos, pow_mono, pow-lt}
use lib.Ieee.{Float, binary64, low, size, nearest, odd, units, fits, to_bits, nan, inf, fin, up}
use lib.Ieee.Digits.{size-lt, size-le}
use lib.Ieee.Exact.{HasValue, units_val}
use lib.Ieee.Fits.{odd-fits, down_pos}
use Rattle.root.specs.Whole.{IsNearestRoot}
use Rattle.root.specs.Root.{whole_root, rounded_root, nearest_root, sqrt}
use Rattle.root.proofs.Whole.{whole_root_is, nearest_is, nearest_unique, nearest_low, nearest_high}
use Rattle.root.proofs.Patterns.{magnitude_of, to_bits_of}

pub size_gt : (n j : ℕ) → 2 ^ j ≤ n → j < size n
size_gt n j h = lt_of_not-le (λ (g : size n ≤ j). lt_irrefl n (lt_of_lt_of_le (size-lt n) (le_trans (pow_mono g) h)))

-- the sizes that 2 * k + 105 and 2 * k + 106 digits leave k to drop
halved : (z k : ℕ) → 104 + 2 * k < z → z ≤ 106 + 2 * k → (z + 1) / 2 - 53 ≡ k
halved z k a b = omega arith

-- q * 2 ^ k is below the largest values
below_top : (q k : ℕ) → q ≤ 2 ^ 53 → k < 2000 → q * 2 ^ k < 2 ^ 2098
below_top q k h l = lt_of_le_of_lt (le_trans (mul-le-mul_right (2 ^ k) h) (le_of_eq (sym (pow-add 2 53 k)))) (pow-lt {i = 53 + k} {j = 2098} (omega arith))

units_fits : (q k : ℕ) → q ≤ 2 ^ 53 → k < 2000 → T (fits binary64 (units binary64 false q k))
unfolding units
units_fits q k h l = go (ltb (q * 2 ^ k) (2 ^ 2098)) (lt→ltb (q * 2 ^ k) (2 ^ 2098) (below_top q k h l))
  where
    go : (b : Bool) → T b → T (fits binary64 (cond b (odd 54 false q k 1074) (inf false)))
    go true t = odd-fits binary64 54 false q k (lt_of_le_of_lt h (lit< tt)) h (below_top q k h l)
    go false t = absurd t

-- the pattern of t * 2 ^ j units, where t has 53 digits
normal : (a t j : ℕ) → a ≡ t * 2 ^ j → 2 ^ 52 ≤ t → t < 2 ^ 53 → (size a - 53) * 2 ^ 52 + a / 2 ^ (size a - 53) ≡ j * 2 ^ 52 + t
normal a t j e lo hi =
    let g = size_gt a (52 + j) (le_trans (le_of_eq (pow-add 2 52 j)) (le_trans (mul-le-mul_right (2 ^ j) lo) (le_of_eq (sym e)))) in
    let l = size-le a (53 + j) (lt_of_le_of_lt (le_of_eq e) (lt_of_lt_of_le (mul-lt-mul_of_pos_right hi (pow_pos j)) (le_of_eq (sym (pow-add 2 53 j))))) in
    ap (λ (z : ℕ). z * 2 ^ 52 + a / 2 ^ z) (over (size a) j g l)
    ∙ ap (λ (q : ℕ). j * 2 ^ 52 + q) (ap (λ (x : ℕ). x / 2 ^ j) e ∙ mul-div_cancel t (pow_pos j))
  where
    over : (z j : ℕ) → 52 + j < z → z ≤ 53 + j → z - 53 ≡ j
    over z j g l = omega arith

packed : (q k : ℕ) → 2 ^ 52 ≤ q → q ≤ 2 ^ 53 → (size (q * 2 ^ k) - 53) * 2 ^ 52 + q * 2 ^ k / 2 ^ (size (q * 2 ^ k) - 53) ≡ k * 2 ^ 52 + q
packed q k lo hi = go (eq-or-lt_of_le hi)
  where
    go : (q ≡ 2 ^ 53) ⊎ (q < 2 ^ 53) → (size (q * 2 ^ k) - 53) * 2 ^ 52 + q * 2 ^ k / 2 ^ (size (q * 2 ^ k) - 53) ≡ k * 2 ^ 52 + q
    go (inl e) =
        normal (q * 2 ^ k) (2 ^ 52) (1 + k) (ap (λ (x : ℕ). x * 2 ^ k) e ∙ mul_assoc (2 ^ 52) 2 (2 ^ k) ∙ ap (λ (x : ℕ). 2 ^ 52 * x) (sym (pow-add 2 1 k))) (lit≤ tt) (lit< tt)
        ∙ omega arith
    go (inr l) = normal (q * 2 ^ k) q k refl lo l

module _ (n d k r : ℕ) (e : n ≡ d * 2 ^ (2 * k)) (lo : 2 ^ 104 ≤ d) (hi : d < 2 ^ 106) (near : IsNearestRoot d r) where
  dropped : (size n + 1) / 2 - 53 ≡ k
  dropped =
      halved (size n) k
      (size_gt n (104 + 2 * k) (le_trans (le_of_eq (pow-add 2 104 (2 * k))) (le_trans (mul-le-mul_right (2 ^ (2 * k)) lo) (le_of_eq (sym e)))))
      (size-le n (106 + 2 * k) (lt_of_le_of_lt (le_of_eq e) (lt_of_lt_of_le (mul-lt-mul_of_pos_right hi (pow_pos (2 * k))) (le_of_eq (sym (pow-add 2 106 (2 * k)))))))

  -- 53 digits are kept, and they are d's root to the nearest
  kept : nearest (whole_root 53 d) (compare (4 * (d * 2 ^ (2 * k))) ((2 * whole_root 53 d + 1) * (2 * whole_root 53 d + 1) * 2 ^ (2 * k))) ≡ r
  kept =
      nearest_unique d _ r
      (nearest_is d (whole_root 53 d) (2 ^ (2 * k)) (lt_of_lt_of_le (lit< tt) lo) (pow_pos (2 * k)) (whole_root_is 53 d hi))
      near

  root_is : nearest_root n ≡ units binary64 false r k
  unfolding nearest_root
  root_is =
      ap (rounded_root n) dropped
      ∙ ap (λ (m : ℕ). rounded_root m k) e
      ∙ ap
      (λ (m : ℕ). units binary64 false (nearest (whole_root 53 m) (compare (4 * (d * 2 ^ (2 * k))) ((2 * whole_root 53 m + 1) * (2 * whole_root 53 m + 1) * 2 ^ (2 * k)))) k)
      (mul-div_cancel d (pow_pos (2 * k)))
      ∙ ap (λ (q : ℕ). units binary64 false q k) kept

  pub root_low : 2 ^ 52 ≤ r
  root_low = nearest_low d r (2 ^ 52) lo near

  root_high : r ≤ 2 ^ 53
  root_high = nearest_high d r (2 ^ 53) hi near

  module _ (small : k < 2000) where
    pub root_fits : T (fits binary64 (nearest_root n))
    root_fits = rw root_is (units_fits r k root_high small)

    pub root_value : HasValue (nearest_root n) false (r * 2 ^ k) (2 ^ low binary64)
    root_value = rw root_is (units_val binary64 false r k (below_top r k root_high small))

    -- the carry of an r of 2 ^ 53 goes into the exponent's field
    pub root_pattern : to_bits binary64 (nearest_root n) ≡ k * 2 ^ 52 + r
    root_pattern = to_bits_of (nearest_root n) (r * 2 ^ k) root_value ∙ packed r k root_low root_high

-- ---- the root of a value above zero
zeros : (a b : ℕ) → 0 * a * b ≡ 0
zeros a b = ap (λ (n : ℕ). n * b) (zero-mul a) ∙ zero-mul b

pub sqrt_of : (x : Float) (a : ℕ) → HasValue x false a (2 ^ low binary64) → 0 < a → sqrt x ≡ nearest_root (a * 2 ^ 1074)
unfolding sqrt
sqrt_of nan a h p = absurd h
sqrt_of (inf t) a h p = absurd h
sqrt_of (fin true m e) a h p = absurd (true≢false h.0)
sqrt_of (fin false zero e) a h p = absurd (lt_irrefl 0 (subst (λ (n : ℕ). 0 < n) (sym h.1 ∙ zeros (up e) (2 ^ low binary64)) (mul-pos p (down_pos e))))
sqrt_of (fin false (suc m) e) a h p = ap (λ (n : ℕ). nearest_root (n * 2 ^ 1074)) (magnitude_of (fin false (suc m) e) false a h)
