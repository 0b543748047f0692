-- The ten digits of a number, without the zeros before it, are std's `decimal`. Assumes nothing.
use mathlib.Core.Path.{◌≡◌, refl, sym, ap, ◌∙◌}
use mathlib.Core.Bool.{Bool, true, false}
use mathlib.Core.List.{List, [], ◌∷◌, ◌++◌}
use Prim.Native.Nat.{ℕ, zero, suc, ◌+◌, ◌/◌, ◌%◌, ◌^◌, ◌≤◌, ◌<◌}
use native.Mathlib.Nat.{div-eq_of_lt, div-div-eq-div-mul, div-lt_iff_lt-mul, le-div_iff_mul-le, one-le-pow, pow-suc, pow-succ'}
use native.Mathlib.Numerals.{one-add}
use native.Mathlib.Omega.{arith}
use borrow.Author.Tests.{ltb-true, ltb-false, ne_eqb}
use lib.Dec.{eqb, ltb}
use lib.ListN.{length, take, drop}
use Rattle.std.specs.Fmt.{decimal, digits, digits_onto, digit_glyph}
use Rattle.std.specs.List.{prefix_len}
use Rattle.std.proofs.lemmas.Fmt.{decimal_digit, decimal_step}
use Rattle.text.specs.Text.{digit, ten_digits}

-- the last k + 1 digits of n
abbrev last_digits : ℕ → ℕ → List ℕ
last_digits zero n = digit n ∷ []
last_digits (suc k) n = digit (n / 10 ^ suc k) ∷ last_digits k n

power : (k : ℕ) → 0 < 10 ^ k
power k = one-le-pow k 10 (omega arith)

-- the last of them apart
but_one : (k n : ℕ) → last_digits (suc k) n ≡ last_digits k (n / 10) ++ digit n ∷ []
but_one zero n = refl
but_one (suc k) n = rw (but_one k n, div-div-eq-div-mul n 10 (10 ^ suc k), ← (pow-succ' 10 (suc k))) refl

-- a number of one digit
one_digit : (n : ℕ) → n < 10 → digit n ∷ [] ≡ decimal n
one_digit n h = grind (arith, decimal_digit n h)

-- where the first of them is no zero
all_digits : (k n : ℕ) → 10 ^ k ≤ n → n < 10 ^ suc k → n < 2 ^ 64 → last_digits k n ≡ decimal n
all_digits zero n low high small = one_digit n high
all_digits (suc k) n low high small =
    let l = rw pow-suc at low in
    let h = rw pow-suc at high in
    let p = power k in
    but_one k n ∙ ap (λ (ds : List ℕ). ds ++ digit n ∷ []) (all_digits k (n / 10) (omega arith) (omega arith) (omega arith)) ∙ sym (decimal_step n (omega arith) small)

-- behind the zeros that they begin with, the last digit apart
behind_zeros : (k n : ℕ) → n < 10 ^ suc k → n < 2 ^ 64 → drop (prefix_len (λ d. eqb d 48) (take k (last_digits k n))) (last_digits k n) ≡ decimal n
behind_zeros zero n high small = one_digit n high
behind_zeros (suc k) n high small = by (ltb n (10 ^ suc k)) refl (λ h. behind_zeros k n h small)
  where
    by : (t : Bool) → ltb n (10 ^ suc k) ≡ t → (n < 10 ^ suc k → drop (prefix_len (λ d. eqb d 48) (take k (last_digits k n))) (last_digits k n) ≡ decimal n)
        → drop (prefix_len (λ d. eqb d 48) (take (suc k) (last_digits (suc k) n))) (last_digits (suc k) n) ≡ decimal n
    by true e less = let h = ltb-true n (10 ^ suc k) e in rw (div-eq_of_lt h, one-add) (less h)
    by false e less =
        let l = ltb-false n (10 ^ suc k) e in
        let some : 1 ≤ n / 10 ^ suc k = (le-div_iff_mul-le (power (suc k))).1 (omega arith) in
        let few : n / 10 ^ suc k < 10 = (div-lt_iff_lt-mul (power (suc k))).1 (omega (arith, rw pow-succ' at high)) in
        rw (ne_eqb (digit (n / 10 ^ suc k)) 48 (λ z. omega arith)) (all_digits (suc k) n l high small)

pub behind_zeros_of_ten : (n : ℕ) → n < 2 ^ 32 → drop (prefix_len (λ d. eqb d 48) (take 9 (ten_digits n))) (ten_digits n) ≡ decimal n
behind_zeros_of_ten n h = behind_zeros 9 n (omega arith) (omega arith)

-- no decimal is longer than 64 digits, whatever the number
onto_length : (k n : ℕ) (acc : List ℕ) → length (digits_onto k 10 false n acc) ≤ k + length acc
onto_length zero n acc = omega arith
onto_length (suc k) n acc = grind (arith, onto_length k (n / 10) (digit_glyph false (n % 10) ∷ acc))

pub decimal_length : (n : ℕ) → length (decimal n) ≤ 64
unfolding digits
decimal_length n = onto_length 64 n []
