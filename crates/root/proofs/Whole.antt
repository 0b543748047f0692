-- Roots of whole numbers: the whole part of a root, and the nearest whole number to one. Assumes
-- nothing.
use mathlib.Core.Path.{◌≡◌, sym, ◌∙◌}
use mathlib.Core.Bool.{Bool, true, false, not, cond}
use Prim.Native.Nat.{ℕ, zero, suc, ◌+◌, ◌*◌, ◌/◌, ◌^◌, ◌≤◌, ◌<◌, compare, Ordering}
use native.Mathlib.Nat.{mul-le-mul_left, mul-le-mul_right, mul-le-mul, mul-add, add-mul, mul_comm, mul_assoc, mul_left_comm, add_assoc, add_comm, add_left_comm, div-lt_iff_lt-mul, le_antisymm, one-mul, mul-one, mul-suc, suc-mul, pow-suc, le_of_mul-le-mul_right, eq_of_mul-eq-mul_right, lt_of_mul-lt-mul_right}
use native.Mathlib.Numerals.{add-one}
use native.Mathlib.Omega.{arith}
use lib.Dec.{T, is_le, compare_is_eq, leb, leb→le, nleb→lt, eqb→eq, lit<}
use lib.Ieee.{nearest}
use Rattle.root.specs.Whole.{IsNearestRoot}
use Rattle.root.specs.Root.{whole_root}

ruleset sorted = (mul-add, add-mul, mul_comm, mul_assoc, mul_left_comm, add_assoc, add_comm, add_left_comm)

-- ---- squares

pub square_lt : (a b : ℕ) → a * a < b * b → a < b
square_lt a b h = go (leb b a) (leb→le b a) (nleb→lt b a)
  where
    go : (t : Bool) → (T t → b ≤ a) → (T (not t) → a < b) → a < b
    go true l g = let m : b * b ≤ a * a = mul-le-mul (l tt) (l tt) in absurd (omega arith)
    go false l g = g tt

pub next_square : (r : ℕ) → (r + 1) * (r + 1) ≡ r * r + 2 * r + 1
next_square r = simp sorted (let e : r * r + (r + (r + 1)) ≡ r * r + (1 + 2 * r) = omega arith in omega arith)

-- ---- the nearest root is one number

same_nearest : (n r s : ℕ) → IsNearestRoot n r → IsNearestRoot n s → r ≤ s
same_nearest n r s p q = go (leb r s) (leb→le r s) (nleb→lt r s)
  where
    go : (t : Bool) → (T t → r ≤ s) → (T (not t) → s < r) → r ≤ s
    go true l g = l tt
    go false l g =
        let k = g tt in
        let m : (s + 1) * r ≤ r * r = mul-le-mul_right r (omega arith) in
        let m' : s * (s + 1) ≤ s * r = mul-le-mul_left s (omega arith) in
        let e : (s + 1) * r ≡ s * r + r = simp (add-mul, one-mul) in
        let e' : s * (s + 1) ≡ s * s + s = simp (mul-add, mul-one) in
        let a = p.above_lower_middle in
        let b = q.below_upper_middle in
        absurd (omega arith)

pub nearest_unique : (n r s : ℕ) → IsNearestRoot n r → IsNearestRoot n s → r ≡ s
nearest_unique n r s p q = le_antisymm (same_nearest n r s p q) (same_nearest n s r q p)

-- ---- the definition, digit by digit

-- r is ⌊√n⌋
pub record IsWholeRoot (n r : ℕ) : Type 0 where
  pub reached : r * r ≤ n
  pub next : n < (r + 1) * (r + 1)

pub twice_square : (q : ℕ) → 2 * q * (2 * q) ≡ 4 * (q * q)
twice_square q = simp (mul_assoc, mul_left_comm) (sym (mul_assoc 2 2 (q * q)))

pub whole_root_is : (d n : ℕ) → n < 4 ^ d → IsWholeRoot n (whole_root d n)
unfolding whole_root
whole_root_is zero n h = record { reached = omega arith; next = omega arith }
whole_root_is (suc d) n h = go (whole_root d (n / 4)) (whole_root_is d (n / 4) ((div-lt_iff_lt-mul (lit< tt)).1 (rw (pow-suc 4 d) at h)))
  where
    go : (q : ℕ) → IsWholeRoot (n / 4) q → IsWholeRoot n (cond (leb (suc (2 * q) * suc (2 * q)) n) (suc (2 * q)) (2 * q))
    go q w = by (leb (suc (2 * q) * suc (2 * q)) n) (leb→le (suc (2 * q) * suc (2 * q)) n) (nleb→lt (suc (2 * q) * suc (2 * q)) n)
      where
        by : (t : Bool) → (T t → suc (2 * q) * suc (2 * q) ≤ n) → (T (not t) → n < suc (2 * q) * suc (2 * q)) → IsWholeRoot n (cond t (suc (2 * q)) (2 * q))
        by true l g =
            let e = next_square (suc (2 * q)) in
            let e' = rw add-one at (next_square (2 * q)) in
            let f = next_square q in
            let r = w.next in
            record { reached = l tt; next = let k = twice_square q in omega arith }
        by false l g =
            let r = w.reached in
            record { reached = let k = twice_square q in omega arith; next = rw add-one (g tt) }

-- the square of twice the middle between q and q + 1
pub middle_square : (q : ℕ) → (2 * q + 1) * (2 * q + 1) ≡ 4 * (q * q) + 4 * q + 1
middle_square q = next_square (2 * q) ∙ (let e = twice_square q in omega arith)

-- ---- the definition's rounding: q, or the next number, by how the middle of the two compares with
-- the root
pub nearest_is : (n q c : ℕ) → 0 < n → 0 < c → IsWholeRoot n q → IsNearestRoot n (nearest q (compare (4 * (n * c)) ((2 * q + 1) * (2 * q + 1) * c)))
nearest_is n q c N C w =
    let L = 4 * (n * c) in
    let R = (2 * q + 1) * (2 * q + 1) * c in
    go (compare L R) (leb→le L R) (nleb→lt L R) (eqb→eq L R)
  where
    scaled : 4 * (n * c) ≡ 4 * n * c
    scaled = sym (mul_assoc 4 n c)

    go : (o : Ordering) → (T (is_le o) → 4 * (n * c) ≤ (2 * q + 1) * (2 * q + 1) * c) → (T (not (is_le o)) → (2 * q + 1) * (2 * q + 1) * c < 4 * (n * c))
        → (T (compare_is_eq o) → 4 * (n * c) ≡ (2 * q + 1) * (2 * q + 1) * c) → IsNearestRoot n (nearest q o)
    go Ordering.lt h k i =
        let m : 4 * n ≤ (2 * q + 1) * (2 * q + 1) = le_of_mul-le-mul_right (rw scaled at (h tt)) C in
        let e = middle_square q in
        let f = next_square q in
        let a = w.reached in
        let b = w.next in
        let p : 1 < q + 1 = square_lt 1 (q + 1) (omega arith) in
        record { above_lower_middle = omega arith; below_upper_middle = omega arith }
    go Ordering.eq h k i =
        let m : 4 * n ≡ (2 * q + 1) * (2 * q + 1) = eq_of_mul-eq-mul_right c C (4 * n) ((2 * q + 1) * (2 * q + 1)) (sym scaled ∙ i tt) in
        let e = middle_square q in
        absurd (omega arith)
    go Ordering.gt h k i =
        let m : (2 * q + 1) * (2 * q + 1) < 4 * n = lt_of_mul-lt-mul_right c (rw scaled at (k tt)) in
        let e = middle_square q in
        let f = rw add-one at (next_square q) in
        let b = rw add-one at w.next in
        record { above_lower_middle = omega arith; below_upper_middle = omega arith }

-- ---- the nearest root of what lies between two squares
pub nearest_low : (n r p : ℕ) → p * p ≤ n → IsNearestRoot n r → p ≤ r
nearest_low n r p h w = go (leb p r) (leb→le p r) (nleb→lt p r)
  where
    go : (t : Bool) → (T t → p ≤ r) → (T (not t) → r < p) → p ≤ r
    go true l g = l tt
    go false l g =
        let k = g tt in
        let m : r * suc r ≤ r * p = mul-le-mul_left r (g tt) in
        let m' : suc r * p ≤ p * p = mul-le-mul_right p (g tt) in
        let e = mul-suc r r in
        let e' = suc-mul r p in
        let b = w.below_upper_middle in
        absurd (omega arith)

pub nearest_high : (n r p : ℕ) → n < p * p → IsNearestRoot n r → r ≤ p
nearest_high n r p h w = go (leb r p) (leb→le r p) (nleb→lt r p)
  where
    go : (t : Bool) → (T t → r ≤ p) → (T (not t) → p < r) → r ≤ p
    go true l g = l tt
    go false l g =
        let m : suc p * r ≤ r * r = mul-le-mul_right r (g tt) in
        let m' : p * suc p ≤ p * r = mul-le-mul_left p (g tt) in
        let e = suc-mul p r in
        let e' = mul-suc p p in
        let b = w.above_lower_middle in
        absurd (omega arith)
