-- `root::sqrt_by_search` meets its contract: what lies above zero and is finite goes by its
-- pattern, and every other value by cases. Assumes nothing.
use mathlib.Core.Path.{◌≡◌, refl, sym, ap, subst, ◌∙◌}
use mathlib.Core.Bool.{Bool, true, false, not, cond, false≢true}
use Prim.Native.Nat.{ℕ, zero, suc, ◌+◌, ◌*◌, ◌/◌, ◌%◌, ◌^◌, ◌≤◌, ◌<◌, zero-le}
use native.Mathlib.Nat.{zero-lt-suc, mul-pos, mul-one, zero-mul, add-zero}
use native.Mathlib.Omega.{arith}
use borrow.Author.Tests.{lt-ltb, le-ltb}
use lib.Dec.{T, leb, ltb, eqb, nleb→lt}
use lib.Ieee.{Float, nan, inf, fin, binary64, fits, lt, odd, of_bits, of_fields, to_bits, up, down}
use lib.Ieee.Bits.{of_bits-to_bits}
use lib.Ieee.Fits.{up_pos}
use Rattle.numerics.specs.Binary64 as Binary64
use Rattle.numerics.proofs.Specials.{nan_of_pattern}
use Rattle.root.specs.Root.{sqrt}
use Rattle.root.proofs.Read.{held, root, no_nan}
use Rattle.root.proofs.sqrt_by_search.Goals as goal

-- ---- above zero
some_bits : (x : Float) → T (fits binary64 x) → lt Binary64.zero x ≡ true → 0 < to_bits binary64 x
unfolding lt of_bits
some_bits x f l = go (to_bits binary64 x) (of_bits-to_bits binary64 x f)
  where
    none : lt Binary64.zero Binary64.zero ≡ false
    none = refl

    go : (b : ℕ) → of_bits binary64 b ≡ x → 0 < b
    go zero e = absurd (false≢true (sym none ∙ ap (lt Binary64.zero) e ∙ l))
    go (suc b) e = zero-lt-suc b

-- ---- a pattern from +∞'s on is +∞'s, a NaN's or a negative value's
odd_below : (q x : ℕ) → lt Binary64.zero (odd 53 true q x 1074) ≡ false
unfolding lt of_bits odd
odd_below zero x = refl
odd_below (suc q) x = refl

below_zero : (x t : ℕ) → lt Binary64.zero (of_fields binary64 true x t) ≡ false
unfolding lt of_bits of_fields
below_zero zero t = odd_below t 0
below_zero (suc x) t = go (eqb (suc x) 2047) (eqb t 0)
  where
    go : (a b : Bool) → lt Binary64.zero (cond a (cond b (inf true) nan) (odd 53 true (2 ^ 52 + t) x 1074)) ≡ false
    go true true = refl
    go true false = refl
    go false b = odd_below (2 ^ 52 + t) x

own_root : (s : Bool) (x t : ℕ) → (T (not s) → x ≡ 2047) → lt Binary64.zero (of_fields binary64 s x t) ≡ true → of_fields binary64 s x t ≡ sqrt (of_fields binary64 s x t)
unfolding of_fields sqrt
own_root true x t h l = absurd (false≢true (sym (below_zero x t) ∙ l))
own_root false x t h l = subst (λ (y : ℕ). of_fields binary64 false y t ≡ sqrt (of_fields binary64 false y t)) (sym (h tt)) (go (eqb t 0))
  where
    go : (b : Bool) → cond b (inf false) nan ≡ sqrt (cond b (inf false) nan)
    go true = refl
    go false = refl

at_infinity : (b : ℕ) → 0x7ff0_0000_0000_0000 ≤ b → lt Binary64.zero (of_bits binary64 b) ≡ true → of_bits binary64 b ≡ sqrt (of_bits binary64 b)
unfolding of_bits
at_infinity b h l = own_root (leb (2 ^ 63) b) (b % 2 ^ 63 / 2 ^ 52) (b % 2 ^ 52) (λ n. let k = nleb→lt (2 ^ 63) b n in omega arith) l

infinite : (x : Float) → T (fits binary64 x) → 0x7ff0_0000_0000_0000 ≤ to_bits binary64 x → lt Binary64.zero x ≡ true → x ≡ sqrt x
infinite x f h l =
    subst (λ (y : Float). y ≡ sqrt y) (of_bits-to_bits binary64 x f)
    (at_infinity (to_bits binary64 x) h (ap (lt Binary64.zero) (of_bits-to_bits binary64 x f) ∙ l))

-- ---- not above zero
nothing_below : (a d : ℕ) → ltb a (0 * d) ≡ false
nothing_below a d = rw zero-mul (le-ltb a 0 zero-le)

some_above : (m a d : ℕ) → 0 < a → ltb (0 * d) (suc m * a * 1) ≡ true
some_above m a d p = rw (zero-mul, mul-one) (lt-ltb 0 (suc m * a) (mul-pos (zero-lt-suc m) p))

no_sum : (a d : ℕ) → ltb 0 (0 * a * 1 + 0 * d) ≡ false
no_sum a d = simp zero-mul

some_sum : (m a d : ℕ) → 0 < a → ltb 0 (suc m * a * 1 + 0 * d) ≡ true
some_sum m a d p = rw (mul-one, zero-mul, add-zero) (lt-ltb 0 (suc m * a) (mul-pos (zero-lt-suc m) p))

negative_root : (x : Float) → lt x Binary64.zero ≡ true → nan ≡ sqrt x
unfolding lt of_bits sqrt
negative_root nan l = refl
negative_root (inf true) l = refl
negative_root (inf false) l = absurd (false≢true l)
negative_root (fin true zero e) l = absurd (false≢true (sym (no_sum (up e) (down e)) ∙ l))
negative_root (fin true (suc m) e) l = refl
negative_root (fin false zero e) l = absurd (false≢true (sym (nothing_below (0 * up e * 1) (down e)) ∙ l))
negative_root (fin false (suc m) e) l = absurd (false≢true (sym (nothing_below (suc m * up e * 1) (down e)) ∙ l))

zero_root : (x : Float) → lt Binary64.zero x ≡ false → lt x Binary64.zero ≡ false → x ≡ sqrt x
unfolding lt of_bits sqrt
zero_root nan l g = refl
zero_root (inf true) l g = absurd (false≢true (sym g))
zero_root (inf false) l g = refl
zero_root (fin s zero e) l g = refl
zero_root (fin true (suc m) e) l g = absurd (false≢true (sym g ∙ some_sum m (up e) (down e) (up_pos e)))
zero_root (fin false (suc m) e) l g = absurd (false≢true (sym l ∙ some_above m (up e) (down e) (up_pos e)))

-- ---- the goals

pub root_of_pattern-requires : goal.root_of_pattern-requires
root_of_pattern-requires c = (some_bits c.args.x (held _ c.well_formed.0.1) c.if-x.true, c.if-b-lt-INFINITY.true)

pub float_from_bits-result : goal.float_from_bits-result
float_from_bits-result c = no_nan c.args.x (held _ c.well_formed.0.1) c.if-x.true c.if-b-lt-INFINITY.true _ c.root_of_pattern.ensures

pub returns-then-b-lt-INFINITY : goal.returns-then-b-lt-INFINITY
returns-then-b-lt-INFINITY c = root c.args.x (held _ c.well_formed.0.1) c.if-x.true c.if-b-lt-INFINITY.true _ c.root_of_pattern.ensures

pub returns-then-x : goal.returns-then-x
returns-then-x c = infinite c.args.x (held _ c.well_formed.0.1) c.if-b-lt-INFINITY.false c.if-x.true

pub returns-then-x-2 : goal.returns-then-x-2
returns-then-x-2 c = nan_of_pattern ∙ negative_root c.args.x c.if-x-2.true

pub returns-else-x-2 : goal.returns-else-x-2
returns-else-x-2 c = zero_root c.args.x c.if-x.false c.if-x-2.false
