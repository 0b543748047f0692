-- The root's definition is IEEE 754's: for every finite binary64 above zero it gives a binary64,
-- and no other lies as near to the exact root (`sqrt_correct`). Assumes nothing.
use mathlib.Core.Path.{◌≡◌, sym, ap, subst, ◌∙◌}
use mathlib.Core.Bool.{Bool, true, false, not}
use Prim.Native.Nat.{ℕ, suc, ◌+◌, ◌-◌, ◌*◌, ◌/◌, ◌^◌, ◌≤◌, ◌<◌, zero-le}
use native.Mathlib.Nat.{le_trans, le_of_eq, lt_of_lt_of_le, lt_of_le_of_lt, mul_assoc, mul-mul-mul_comm, mul-le-mul, mul-le-mul_left, mul-le-mul_right, mul-lt-mul_of_pos_right, lt_of_mul-lt-mul_right, le_of_mul-le-mul_right, mul-pos, two-mul, add-mul, one-mul, mul-one, le-add_left, le_of_lt, le_refl, lt_irrefl, lt_trans, le_of_suc-le-suc, add_comm, add-le-add, add-lt-add_of_lt_of_le, pow-zero, pow-suc, pow-succ', sub-add_cancel}
use native.Mathlib.Omega.{arith}
use lib.Dec.{T, leb, ltb, leb→le, nleb→lt, ltb→lt, lit<}
use lib.Pow.{pow-add, pow_pos, pow_mono}
use lib.Ieee.{Float, nan, inf, fin, binary64, low, size, fits, lt, of_bits, up, down}
use lib.Ieee.Bits.{is_true}
use lib.Ieee.Digits.{size-lt, size-le, size_reaches}
use lib.Ieee.Exact.{HasValue}
use lib.Ieee.Positive.{first_pos}
use Rattle.numerics.specs.Binary64 as Binary64
use Rattle.std.specs.Bool.{passes}
use Rattle.std.specs.Float.{float_is_finite}
use Rattle.numerics.specs.Classify.{is_nonnegative, magnitude}
use Rattle.root.specs.Whole.{IsNearestRoot}
use Rattle.root.specs.Root.{whole_root, nearest_root, sqrt, IsCorrectlyRounded}
use native.Mathlib.Numerals.{add-one}
use Rattle.root.proofs.Whole.{whole_root_is, nearest_is, square_lt, next_square, twice_square, middle_square}
use Rattle.root.proofs.Patterns.{Grid, grid, magnitude_of}
use Rattle.root.proofs.Rounded.{size_gt, root_low, root_fits, root_value, sqrt_of}

-- ---- n as d * 2 ^ (2 * k), with a d of 105 or 106 digits
record Scaled (n : ℕ) : Type 0 where
  d : ℕ
  k : ℕ
  same : n ≡ d * 2 ^ (2 * k)
  low_d : 2 ^ 104 ≤ d
  high_d : d < 2 ^ 106
  small : k < 2000

-- how k, half of the digits beyond 106, lies to the digits z and the power p
record Halved (z p k : ℕ) : Type 0 where
  within : p - 2 * k + 2 * k ≡ p
  under : z ≤ 106 + 2 * k
  over : 104 + 2 * k < z
  small : k < 2000

halved : (z p : ℕ) → p < z → z ≤ 53 + p → 1074 ≤ p → p < 3200 → Halved z p ((z + 1) / 2 - 53)
halved z p a b c d = record { within = omega arith; under = omega arith; over = omega arith; small = omega arith }

scaled : (t p : ℕ) → 0 < t → t < 2 ^ 53 → 1074 ≤ p → p < 3200 → Scaled (t * 2 ^ p)
scaled t p some few lo hi =
    go (size (t * 2 ^ p)) _
    (halved (size (t * 2 ^ p)) p
    (size_gt (t * 2 ^ p) p (le_trans (le_of_eq (sym (one-mul (2 ^ p)))) (mul-le-mul_right (2 ^ p) some)))
    (size-le (t * 2 ^ p) (53 + p) (lt_of_lt_of_le (mul-lt-mul_of_pos_right few (pow_pos p)) (le_of_eq (sym (pow-add 2 53 p)))))
    lo
    hi)
    (size-lt (t * 2 ^ p))
    (size_reaches (t * 2 ^ p))
  where
    go : (z k : ℕ) → Halved z p k → t * 2 ^ p < 2 ^ z → ((j : ℕ) → j < z → 2 ^ j ≤ t * 2 ^ p) → Scaled (t * 2 ^ p)
    go z k h under reaches =
        let d = t * 2 ^ (p - 2 * k) in
        let e : t * 2 ^ p ≡ d * 2 ^ (2 * k) =
        ap (λ (n : ℕ). t * n) (ap (λ (n : ℕ). 2 ^ n) (sym h.within) ∙ pow-add 2 (p - 2 * k) (2 * k)) ∙ sym (mul_assoc t (2 ^ (p - 2 * k)) (2 ^ (2 * k))) in
        record {
          d = d;
          k = k;
          same = e;
          low_d = le_of_mul-le-mul_right (le_trans (le_of_eq (sym (pow-add 2 104 (2 * k)))) (le_trans (reaches (104 + 2 * k) h.over) (le_of_eq e))) (pow_pos (2 * k));
          high_d = lt_of_mul-lt-mul_right (2 ^ (2 * k)) (lt_of_le_of_lt (le_of_eq (sym e)) (lt_of_lt_of_le under (le_trans (pow_mono h.under) (le_of_eq (pow-add 2 106 (2 * k))))));
          small = h.small;
        }

-- ---- among the multiples of 2 ^ k and the finer values below them

squared : (a : ℕ) → a ^ 2 ≡ a * a
squared a = simp (pow-suc a 1, pow-suc a 0, pow-zero a, one-mul)

square_of : (a c : ℕ) → (a * c) * (a * c) ≡ a * a * (c * c)
square_of a c = mul-mul-mul_comm a c a c

square_mono : {a b : ℕ} → a < b → a * a < b * b
square_mono {a} {b} h = lt_of_le_of_lt (mul-le-mul_left a (le_of_lt h)) (mul-lt-mul_of_pos_right h (lt_of_le_of_lt zero-le h))

square_le : {a b : ℕ} → a ≤ b → a * a ≤ b * b
square_le h = mul-le-mul h h

-- r * 2 ^ k is where the root of d * 2 ^ (2 * k) was rounded to, and t * 2 ^ j is any other value
module _ (d k r t j : ℕ) (low_d : 2 ^ 104 ≤ d) (low_r : 2 ^ 52 ≤ r) (near : IsNearestRoot d r) (few : t < 2 ^ 53) where
  abbrev K : ℕ
  K = 2 ^ k

  -- a value with a finer place than 2 ^ k lies below 2 ^ 52 of those
  finer : j < k → t * 2 ^ j < 2 ^ 52 * K
  finer h =
      lt_of_lt_of_le (mul-lt-mul_of_pos_right few (pow_pos j))
      (le_trans (le_of_eq (mul_assoc (2 ^ 52) 2 (2 ^ j) ∙ ap (λ (n : ℕ). 2 ^ 52 * n) (sym (pow-succ' 2 j)))) (mul-le-mul_left (2 ^ 52) (pow_mono h)))

  -- any other is a multiple of it
  coarser : k ≤ j → t * 2 ^ j ≡ t * 2 ^ (j - k) * K
  coarser h = ap (λ (n : ℕ). t * n) (ap (λ (n : ℕ). 2 ^ n) (sym (sub-add_cancel h)) ∙ pow-add 2 (j - k) k) ∙ sym (mul_assoc t (2 ^ (j - k)) K)

  -- the next multiple lies at least as near as any value above, and the last one as near as
  -- any below
  next : r * K < t * 2 ^ j → suc r * K ≤ t * 2 ^ j
  next l = go (leb k j) (leb→le k j) (nleb→lt k j)
    where
      go : (b : Bool) → (T b → k ≤ j) → (T (not b) → j < k) → suc r * K ≤ t * 2 ^ j
      go true c f =
          let e = coarser (c tt) in
          le_trans (mul-le-mul_right K (lt_of_mul-lt-mul_right K (lt_of_lt_of_le l (le_of_eq e)))) (le_of_eq (sym e))
      go false c f = absurd (lt_irrefl (r * K) (lt_trans l (lt_of_lt_of_le (finer (f tt)) (mul-le-mul_right K low_r))))

  last : (q : ℕ) → r ≡ suc q → 2 ^ 52 ≤ q → t * 2 ^ j < r * K → t * 2 ^ j ≤ q * K
  last q e h l = go (leb k j) (leb→le k j) (nleb→lt k j)
    where
      go : (b : Bool) → (T b → k ≤ j) → (T (not b) → j < k) → t * 2 ^ j ≤ q * K
      go true c f =
          let m = coarser (c tt) in
          le_trans (le_of_eq m)
          (mul-le-mul_right K
          (le_of_suc-le-suc (lt_of_lt_of_le (lt_of_mul-lt-mul_right K (lt_of_le_of_lt (le_of_eq (sym m)) l)) (le_of_eq e))))
      go false c f = le_trans (le_of_lt (finer (f tt))) (mul-le-mul_right K h)

  -- q and q + 1 times 2 ^ k, added and squared
  middle : (q : ℕ) → (q * K + suc q * K) * (q * K + suc q * K) ≡ (4 * (q * q) + 4 * q + 1) * (K * K)
  middle q =
      ap (λ (n : ℕ). n * n) (sym (add-mul q (suc q) K) ∙ ap (λ (n : ℕ). n * K) (twice q))
      ∙ square_of (2 * q + 1) K
      ∙ ap (λ (n : ℕ). n * (K * K)) (middle_square q)
    where
      twice : (q : ℕ) → q + suc q ≡ 2 * q + 1
      twice q = omega arith

  above : r * K < t * 2 ^ j → 4 * (d * (K * K)) < (t * 2 ^ j + r * K) * (t * 2 ^ j + r * K)
  above l =
      lt_of_le_of_lt (le_of_eq (sym (mul_assoc 4 d (K * K))))
      (lt_of_lt_of_le (mul-lt-mul_of_pos_right (let h = near.below_upper_middle in omega arith) (mul-pos (pow_pos k) (pow_pos k)))
      (le_trans (le_of_eq (sym (middle r)))
      (square_le (le_trans (le_of_eq (add_comm (r * K) (suc r * K))) (add-le-add (next l) (le_refl (r * K)))))))

  below : t * 2 ^ j < r * K → (t * 2 ^ j + r * K) * (t * 2 ^ j + r * K) < 4 * (d * (K * K))
  below l = go (leb (r * r) d) (leb→le (r * r) d) (nleb→lt (r * r) d)
    where
      -- the exact root is not below r
      reached : r * r ≤ d → (t * 2 ^ j + r * K) * (t * 2 ^ j + r * K) < 4 * (d * (K * K))
      reached h =
          lt_of_lt_of_le (square_mono (add-lt-add_of_lt_of_le l (le_refl (r * K))))
          (le_trans (le_of_eq (ap (λ (n : ℕ). n * n) (sym (two-mul (r * K))) ∙ twice_square (r * K) ∙ ap (λ (n : ℕ). 4 * n) (square_of r K)))
          (mul-le-mul_left 4 (mul-le-mul_right (K * K) h)))

      -- it is below r, and r is no power of two
      passed : (q : ℕ) → r ≡ suc q → 2 ^ 52 ≤ q → (t * 2 ^ j + r * K) * (t * 2 ^ j + r * K) < 4 * (d * (K * K))
      passed q e h =
          lt_of_le_of_lt (square_le (add-le-add (last q e h l) (le_of_eq (ap (λ (n : ℕ). n * K) e))))
          (lt_of_le_of_lt (le_of_eq (middle q))
          (lt_of_lt_of_le (mul-lt-mul_of_pos_right (short q e) (mul-pos (pow_pos k) (pow_pos k))) (le_of_eq (mul_assoc 4 d (K * K)))))
        where
          short : (q : ℕ) → r ≡ suc q → 4 * (q * q) + 4 * q + 1 < 4 * d
          short q e =
              let n : suc q * suc q < d + suc q = subst (λ (x : ℕ). x * x < d + x) e near.above_lower_middle in
              let s = rw add-one at (next_square q) in
              omega arith

      go : (b : Bool) → (T b → r * r ≤ d) → (T (not b) → d < r * r) → (t * 2 ^ j + r * K) * (t * 2 ^ j + r * K) < 4 * (d * (K * K))
      go true c f = reached (c tt)
      go false c f =
          let m : 2 ^ 52 < r = square_lt (2 ^ 52) r (lt_of_le_of_lt low_d (f tt)) in
          passed (r - 1) (omega arith) (omega arith)

-- ---- the theorem

value_finite : (x : Float) (a c : ℕ) → HasValue x false a c → T (float_is_finite x)
unfolding float_is_finite
value_finite nan a c h = h
value_finite (inf s) a c h = h
value_finite (fin s m e) a c h = tt

value_nonneg : (x : Float) (a c : ℕ) → HasValue x false a c → T (is_nonnegative x)
unfolding is_nonnegative
value_nonneg nan a c h = h
value_nonneg (inf s) a c h = absurd h
value_nonneg (fin s m e) a c h = rw h.0 tt

-- a finite value above zero has the sign clear and a count of units above 0
above_zero : (x : Float) (s : Bool) (a : ℕ) → T (lt Binary64.zero x) → HasValue x s a (2 ^ low binary64) → (s ≡ false) × (0 < a)
unfolding lt of_bits
above_zero nan s a l h = absurd l
above_zero (inf t) s a l h = absurd h
above_zero (fin true m e) s a l h = absurd l
above_zero (fin false m e) s a l h = (sym h.0, first_pos a (down e) (subst (λ (n : ℕ). 0 < n) h.1 (mul-pos (some (m * up e) (0 * down e) l) (pow_pos 1074))))
  where
    some : (n z : ℕ) → T (ltb z (n * 1)) → 0 < n
    some n z q = lt_of_le_of_lt zero-le (lt_of_lt_of_le (ltb→lt z (n * 1) q) (le_of_eq (mul-one n)))

module _ (x : Float) (n d k r : ℕ) (is : sqrt x ≡ nearest_root n) (counts : magnitude x * 2 ^ 1074 ≡ n) (e : n ≡ d * 2 ^ (2 * k)) (lo : 2 ^ 104 ≤ d) (hi : d < 2 ^ 106)
    (near : IsNearestRoot d r) (small : k < 2000) where
  low_r : 2 ^ 52 ≤ r
  low_r = root_low n d k r e lo hi near

  value : HasValue (sqrt x) false (r * 2 ^ k) (2 ^ low binary64)
  value = rw is (root_value n d k r e lo hi near small)

  exact : magnitude x * 2 ^ 1074 ≡ d * (2 ^ k * 2 ^ k)
  exact = counts ∙ e ∙ ap (λ (m : ℕ). d * m) (ap (λ (m : ℕ). 2 ^ m) (two-mul k) ∙ pow-add 2 k k)

  rounded : magnitude (sqrt x) ≡ r * 2 ^ k
  rounded = magnitude_of (sqrt x) false (r * 2 ^ k) value

  correct : IsCorrectlyRounded x (sqrt x)
  correct = record {
    is_binary64 = is_true _ (rw is (root_fits n d k r e lo hi near small));
    is_finite = is_true _ (value_finite (sqrt x) (r * 2 ^ k) (2 ^ low binary64) value);
    has_sign_clear = is_true _ (value_nonneg (sqrt x) (r * 2 ^ k) (2 ^ low binary64) value);
    lower_are_further = λ y fy oy l.
        let h = grid y (passes _ fy) (passes _ oy) in
        let m = magnitude_of y h.sign (h.count * 2 ^ h.place) h.value in
        rw (squared, m, rounded, exact) (below d k r h.count h.place lo low_r near h.count_lt (rw (m, rounded) at l));
    higher_are_further = λ y fy oy l.
        let h = grid y (passes _ fy) (passes _ oy) in
        let m = magnitude_of y h.sign (h.count * 2 ^ h.place) h.value in
        rw (squared, m, rounded, exact) (above d k r h.count h.place lo low_r near h.count_lt (rw (rounded, m) at l));
  }

-- The square root of every finite binary64 above zero is IEEE 754's.
pub sqrt_correct : (x : Float) → T (fits binary64 x) → T (float_is_finite x) → T (lt Binary64.zero x) → IsCorrectlyRounded x (sqrt x)
sqrt_correct x held finite positive = go (grid x held finite)
  where
    go : Grid x → IsCorrectlyRounded x (sqrt x)
    go g =
        let t = g.count in
        let j = g.place in
        let z = above_zero x g.sign (t * 2 ^ j) positive g.value in
        let v : HasValue x false (t * 2 ^ j) (2 ^ low binary64) = subst (λ (s : Bool). HasValue x s (t * 2 ^ j) (2 ^ low binary64)) z.0 g.value in
        let joined : t * 2 ^ j * 2 ^ 1074 ≡ t * 2 ^ (j + 1074) = mul_assoc t (2 ^ j) (2 ^ 1074) ∙ ap (λ (m : ℕ). t * m) (sym (pow-add 2 j 1074)) in
        let s = scaled t (j + 1074) (first_pos t (2 ^ j) z.1) g.count_lt (le-add_left 1074 j) (room j g.place_lt) in
        correct x (t * 2 ^ (j + 1074)) s.d s.k _
        (sqrt_of x (t * 2 ^ j) v z.1 ∙ ap nearest_root joined)
        (ap (λ (m : ℕ). m * 2 ^ 1074) (magnitude_of x false (t * 2 ^ j) v) ∙ joined)
        s.same
        s.low_d
        s.high_d
        (nearest_is s.d (whole_root 53 s.d) 1 (lt_of_lt_of_le (lit< tt) s.low_d) (lit< tt) (whole_root_is 53 s.d s.high_d))
        s.small
      where
        room : (j : ℕ) → j < 2047 → j + 1074 < 3200
        room j h = omega arith
