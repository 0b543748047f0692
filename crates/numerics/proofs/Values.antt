-- Values by their fractions. Of the values that a format holds one alone has a given sign and
-- size (`same_value`).
-- So a fraction of that size is rounded to it (`round_value`). Assumes nothing.
use mathlib.Core.Path.{◌≡◌, refl, sym, ap, ap₂, ◌∙◌, subst₂}
use mathlib.Core.Bool.{Bool, false, cond}
use Prim.Native.Nat.{ℕ, zero, suc, ◌+◌, ◌-◌, ◌*◌, ◌/◌, ◌^◌, ◌≤◌, ◌<◌}
use native.Mathlib.Omega.{arith}
use Rattle.std.proofs.lemmas.Bool.Decides.{nat_tests}
use native.Mathlib.Nat.{le_trans, le_of_eq, le_of_suc-le-suc, lt_of_not-le, not-le_of_lt, mul_assoc, mul_comm, mul_right_comm, zero-mul, mul-one, one-mul, mul-pos, mul-le-mul_right, mul-lt-mul_of_pos_right, lt_of_mul-lt-mul_right, eq_of_mul-eq-mul_right}
use lib.IntN.{ℤ, pos, negsuc}
use lib.Dec.{T, eqb→eq}
use lib.Pow.{pow-add, pow_pos, pow-lt}
use lib.Ieee.{Float, fin, Format, binary32, binary64, prec, emax, low, up, down, size, round, fits, hid, top, of_bits, to_bits}
use lib.Ieee.Bits.{of_bits-to_bits}
use lib.Ieee.Digits.{back}
use lib.Ieee.Exact.{HasValue, round_exact}
use lib.Ieee.Fits.{up_pos, down_pos, round-fits}
use lib.Ieee.Nearest.{div_same}

-- ---- of the values that a format holds, one has a given sign and size

-- two fractions that equal a third are equal
cross : (m n d e a c : ℕ) → 0 < c → m * c ≡ a * e → n * c ≡ a * d → m * d ≡ n * e
cross m n d e a c C v w =
    eq_of_mul-eq-mul_right c C (m * d) (n * e)
    (mul_right_comm m d c ∙ ap (λ (x : ℕ). x * d) v ∙ mul_right_comm a e d ∙ ap (λ (x : ℕ). x * e) (sym w) ∙ mul_right_comm n c e)

-- the bits of a value depend on its sign and its size alone
same_bits : (f : Format) (x y : Float) (s : Bool) (a c : ℕ) → 0 < c → HasValue x s a c → HasValue y s a c → to_bits f x ≡ to_bits f y
unfolding to_bits
same_bits f (fin t m e) (fin u n d) s a c C v w =
    let l = 2 ^ low f in
    let x = m * up e in
    let y = n * up d in
    let k : x * down d ≡ y * down e = cross x y (down d) (down e) a c C v.1 w.1 in
    let q : x * l * down d ≡ y * l * down e = mul_right_comm x l (down d) ∙ ap (λ (z : ℕ). z * l) k ∙ mul_right_comm y (down e) l in
    ap₂ (λ (b : Bool) (z : ℕ). cond b (top f) 0 + (size z - prec f) * hid f + z / 2 ^ (size z - prec f)) (v.0 ∙ sym w.0)
    (div_same (x * l) (down e) (y * l) (down d) (down_pos e) (down_pos d) q)
same_bits f x y s a c C v w = grind arith

pub same_value : (f : Format) (x y : Float) (s : Bool) (a c : ℕ) → 0 < c → T (fits f x) → T (fits f y) → HasValue x s a c → HasValue y s a c → x ≡ y
same_value f x y s a c C p q v w = sym (of_bits-to_bits f x p) ∙ ap (of_bits f) (same_bits f x y s a c C v w) ∙ of_bits-to_bits f y q

-- ---- a fraction whose size a value has is rounded to that value

pow_le_back : (a l : ℕ) → 2 ^ a ≤ 2 ^ l → a ≤ l
pow_le_back a l h = le_of_suc-le-suc (lt_of_not-le (λ (g : suc l ≤ a). not-le_of_lt (pow-lt g) h))

-- 2 ^ e is a power of two in units of 2 ^ -l
in_units : (l : ℕ) (e : ℤ) → down e ≤ 2 ^ l → (j : ℕ) × (up e * 2 ^ l ≡ 2 ^ j * down e)
in_units l (pos a) h = (a + l, sym (pow-add 2 a l) ∙ sym (mul-one (2 ^ (a + l))))
in_units l (negsuc a) h =
    let k = pow_le_back (suc a) l h in
    (l - suc a, one-mul (2 ^ l) ∙ ap (λ (x : ℕ). 2 ^ x) (sym (back l (suc a) k)) ∙ pow-add 2 (l - suc a) (suc a))

-- what fits is within the format's bounds
in_bounds : (f : Format) (s : Bool) (m : ℕ) (e : ℤ) → T (fits f (fin s m e))
    → (m < 2 ^ prec f) × (down e ≤ 2 ^ low f) × (m * up e < 2 ^ suc (emax f) * down e)
unfolding fits
in_bounds f s zero e h = (
  pow_pos (prec f),
  le_trans (le_of_eq (sym (one-mul (down e))))
      (le_trans (mul-le-mul_right (down e) (up_pos e)) (le_trans (le_of_eq (eqb→eq (up e * down e) 1 h)) (pow_pos (low f)))),
  rw (zero-mul (up e)) (mul-pos (pow_pos (suc (emax f))) (down_pos e)),
)
in_bounds f s (suc m) e h = grind (arith, nat_tests)

round_has : (f : Format) (x : Float) (s : Bool) (a c : ℕ) → 0 < c → T (fits f x) → HasValue x s a c → HasValue (round f s a c) s a c
round_has f (fin t m e) s a c C p v =
    let h = in_bounds f t m e p in
    let k = in_units (low f) e h.1 in
    let j = k.0 in
    let l = 2 ^ low f in
    let b = 2 ^ suc (emax f) in
    let q : m * up e * l ≡ m * 2 ^ j * down e = mul_assoc m (up e) l ∙ ap (λ (z : ℕ). m * z) k.1 ∙ sym (mul_assoc m (2 ^ j) (down e)) in
    let r : b * down e * l ≡ 2 ^ (low f + suc (emax f)) * down e =
    mul_right_comm b (down e) l ∙ ap (λ (z : ℕ). z * down e) (mul_comm b l ∙ sym (pow-add 2 (low f) (suc (emax f)))) in
    round_exact f s a c m j C h.0
    (lt_of_mul-lt-mul_right (down e) (subst₂ ◌<◌ q r (mul-lt-mul_of_pos_right h.2 (pow_pos (low f)))))
    (eq_of_mul-eq-mul_right (down e) (down_pos e) (a * l) (m * 2 ^ j * c)
    (mul_right_comm a l (down e) ∙ ap (λ (z : ℕ). z * l) (sym v.1) ∙ mul_right_comm (m * up e) c l ∙ ap (λ (z : ℕ). z * c) q
    ∙ mul_right_comm (m * 2 ^ j) (down e) c))
round_has f x s a c C p v = grind arith

pub round_value : (f : Format) (x : Float) (s : Bool) (a c : ℕ) → 0 < c → T (fits f x) → HasValue x s a c → round f s a c ≡ x
round_value f x s a c C p v = same_value f (round f s a c) x s a c C (round-fits f s a c) p (round_has f x s a c C p v) v

-- +0, and what a fraction of 0 is rounded to
pub zero_is : (f : Format) → of_bits f 0 ≡ fin false 0 (pos 0)
unfolding of_bits
zero_is binary32 = refl
zero_is binary64 = refl

pub round_zero : (f : Format) (s : Bool) (c : ℕ) → 0 < c → round f s 0 c ≡ fin s 0 (pos 0)
round_zero f s c C = round_value f (fin s 0 (pos 0)) s 0 c C (unfold fits in tt) (refl, zero-mul c)
