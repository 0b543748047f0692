-- Texts put into a buffer, one after the other. Assumes nothing.
use mathlib.Core.Path.{◌≡◌, refl, sym, ap, ◌∙◌, subst}
use mathlib.Core.Bool.{Bool, true, false}
use mathlib.Core.List.{List, [], ◌∷◌, ◌++◌, append_assoc}
use Prim.Native.Nat.{ℕ, zero, suc, ◌+◌, ◌-◌, ◌≤◌, ◌<◌, min}
use native.Mathlib.Nat.{add_assoc, add-zero, zero-sub, sub-zero}
use native.Mathlib.Omega.{arith}
use borrow.Author.Tests.{leb-true, leb-false}
use borrow.Rule.Slice.PartMut.{put_mid}
use lib.Dec.{leb}
use lib.ListN.{length, take, drop, length-append, length-take, length-drop}
use lib.Seq.{take_all, take-nil, take-take, take_at, paste-zero, drop-append-add, drop-drop, length-take-le}
use Rattle.text.specs.Text.{with_text, text_that_fits, PutsText}

-- ---- one text

-- what a call leaves that has written the whole of x
abbrev Left : ℕ → List ℕ → ℕ → List ℕ → List ℕ → Type 0
Left at out next after x = (next ≡ at + length x) × (after ≡ with_text out at x)

-- as many bytes of t as fit, written where they belong: r is what the part holds now
pub put_of : (t : List ℕ) (at : ℕ) (out : List ℕ) (n k : ℕ) (r : List ℕ) → n ≡ min (length t) (length out - at) → k ≡ n → r ≡ take n t → PutsText t at out (at + n) (put_mid at k out r)
unfolding PutsText
put_of t at out n k r e g h =
    let l = length-take (length out - at) t in
    let m : length (take n t) ≡ n = length-take-le n t (omega arith) in
    let f : take n t ≡ text_that_fits out at t = sym (take-take n (length out - at) t (omega arith)) ∙ take_all n (text_that_fits out at t) (omega arith) in
    let p : put_mid at k out r ≡ with_text out at (take n t) = rw (g, h, m) (ap (λ (d : List ℕ). take at out ++ (take n t ++ d)) (drop-drop n at out) ∙ sym (append_assoc (take at out) (take n t) (drop (at + n) out))) in
    subst (Left at out (at + n) (put_mid at k out r)) f (ap (λ (j : ℕ). at + j) (sym m), p)

pasted_length : (out : List ℕ) (at : ℕ) (t : List ℕ) → length (with_text out at (text_that_fits out at t)) ≡ length out
pasted_length out at t = omega (arith, length-append {A = ℕ}, length-take {A = ℕ}, length-drop {A = ℕ})

pub put_length : (t : List ℕ) (at : ℕ) (out : List ℕ) (next : ℕ) (after : List ℕ) → PutsText t at out next after → length after ≡ length out
unfolding PutsText
put_length t at out next after p = ap length p.1 ∙ pasted_length out at t

-- a text that fits is put whole
pub put_fits : (t : List ℕ) (at : ℕ) (out : List ℕ) (next : ℕ) (after : List ℕ) → PutsText t at out next after → at + length t ≤ length out → (next ≡ at + length t) × (after ≡ with_text out at t)
unfolding PutsText
put_fits t at out next after p h = subst (Left at out next after) (take_all (length out - at) t (omega arith)) p

-- ---- one after the other

pub put_none : (at : ℕ) (out : List ℕ) → PutsText [] at out at out
unfolding PutsText
put_none at out = subst (Left at out at out) (sym (take-nil (length out - at))) (sym (add-zero at), paste-zero out at [])

pub put_beyond : (t : List ℕ) (at : ℕ) (out : List ℕ) → length out < at → PutsText t at out at out
unfolding PutsText
put_beyond t at out h =
    let e : length out - at ≡ 0 = omega arith in
    let none : [] ≡ text_that_fits out at t = ap (λ (k : ℕ). take k t) (sym e) in
    subst (Left at out at out) none (sym (add-zero at), paste-zero out at [])

take_append : (n : ℕ) (s t : List ℕ) → take n (s ++ t) ≡ take n s ++ take (n - length s) t
take_append zero s t = simp zero-sub
take_append (suc n) [] t = simp sub-zero
take_append (suc n) (x ∷ s) t =
    let e : n - length s ≡ suc n - suc (length s) = omega arith in
    cc (take_append n s t)

both_pasted : (s t : List ℕ) (at : ℕ) (out : List ℕ) → at + length s ≤ length out → with_text (with_text out at s) (at + length s) t ≡ with_text out at (s ++ t)
both_pasted s t at out h =
    let front = take at out ++ s in
    let rest = drop (at + length s) out in
    let n : length front ≡ at + length s = omega (arith, length-append {A = ℕ}, length-take {A = ℕ}) in
    let l : at + length s + length t ≡ at + length (s ++ t) = omega (arith, length-append {A = ℕ}) in
    let behind : drop (at + length s + length t) (front ++ rest) ≡ drop (at + length (s ++ t)) out =
    ap (λ (k : ℕ). drop (k + length t) (front ++ rest)) (sym n) ∙ drop-append-add front rest (length t) ∙ drop-drop (length t) (at + length s) out ∙ ap (λ (k : ℕ). drop k out) l in
    rw (take_at front rest (at + length s) n, behind, append_assoc (take at out) s t) refl

module _ (s t : List ℕ) (at : ℕ) (out : List ℕ) (middle : ℕ) (between : List ℕ) (next : ℕ) (after : List ℕ) (p : PutsText s at out middle between) (q : PutsText t middle between next after) where
  from : (x : List ℕ) → text_that_fits out at s ≡ x → PutsText t (at + length x) (with_text out at x) next after
  unfolding PutsText
  from x e = let l = subst (Left at out middle between) e p in subst (λ (b : List ℕ). PutsText t (at + length x) b next after) l.1 (subst (λ (k : ℕ). PutsText t k between next after) l.0 q)

  inside : at ≤ length out → PutsText (s ++ t) at out next after
  unfolding PutsText
  inside h =
      let f = text_that_fits out at s in
      let g = text_that_fits (with_text out at f) (at + length f) t in
      let l = length-take (length out - at) s in
      let n = pasted_length out at s in
      let k : length out - at - length s ≡ length (with_text out at f) - (at + length f) = omega arith in
      let r = from f refl in
      let a = length-append f g in
      subst (Left at out next after) (sym (take_append (length out - at) s t ∙ ap (λ (j : ℕ). f ++ take j t) k))
      (r.0 ∙ add_assoc at (length f) (length g) ∙ ap (λ (j : ℕ). at + j) (sym a), r.1 ∙ both_pasted f g at out (omega arith))

  -- behind the end nothing is put
  behind : length out < at → PutsText (s ++ t) at out next after
  unfolding PutsText
  behind h =
      let k : length out - at ≡ 0 = omega arith in
      let r = subst (λ (b : List ℕ). PutsText t at b next after) (sym (paste-zero out at [])) (subst (λ (j : ℕ). PutsText t j (with_text out at []) next after) (add-zero at) (from [] (ap (λ (j : ℕ). take j s) k))) in
      subst (Left at out next after) (ap (λ (j : ℕ). take j t) k ∙ sym (ap (λ (j : ℕ). take j (s ++ t)) k)) r

  pub put_put : PutsText (s ++ t) at out next after
  put_put = by (leb at (length out)) refl
    where
      by : (b : Bool) → leb at (length out) ≡ b → PutsText (s ++ t) at out next after
      by true e = inside (leb-true at (length out) e)
      by false e = behind (leb-false at (length out) e)

-- the last digits of ten
pub tail : (l : List ℕ) (i : ℕ) → length l ≡ 10 → take (10 - i) (drop i l) ≡ drop i l
tail l i e = let k = length-drop i l in take_all (10 - i) (drop i l) (omega arith)
