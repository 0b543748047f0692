-- Numbers read from a list.
use mathlib.Core.Path.{◌≡◌, refl, sym, ap, ◌∙◌}
use mathlib.Core.List.{List, [], ◌∷◌, ◌++◌}
use Prim.Native.Nat.{ℕ, ◌+◌}
use native.Mathlib.Nat.{zero-add, add_assoc}
use lib.ListN.{length}
use lib.Seq.{get_or-append-add}
use lib.Ieee.{Float, nan}
use Rattle.numerics.specs.Vectors.{◌!◌, tabulate}
use Rattle.c_calls.specs.Slices.{part}

-- the numbers of a list that another stands behind
tabulate_front : (x y : List Float) → tabulate (length x) (λ i. (x ++ y) ! i) ≡ x
tabulate_front [] y = refl
tabulate_front (a ∷ x) y = ap (λ (l : List Float). a ∷ l) (tabulate_front x y)

-- from k on, x reads as y
abbrev pub From : List Float → ℕ → List Float → Type 0
From x k y = (m : ℕ) → x ! (k + m) ≡ y ! m

pub from_start : (x y : List Float) → x ≡ y → From x 0 y
from_start x y e m = rw (zero-add m, e) refl

pub from_next : (x a y : List Float) (k n : ℕ) → From x k (a ++ y) → length a ≡ n → From x (k + n) y
from_next x a y k n h e m = rw (add_assoc k n m, h (n + m), ← e) (get_or-append-add a y m nan)

-- the n numbers of a, read where x reads as a and then y
pub part_from : (x a y : List Float) (k n : ℕ) → From x k (a ++ y) → length a ≡ n → part k n x ≡ a
unfolding part
part_from x a y k n h e =
    (λ j. tabulate n (λ i. h i j)) ∙ ap (λ (m : ℕ). tabulate m (λ i. (a ++ y) ! i)) (sym e) ∙ tabulate_front a y
