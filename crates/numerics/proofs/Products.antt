-- A sum of products, entry by entry. Assumes nothing.
use Rattle.std.proofs.Common.{◌≡◌, ℕ, zero, suc, ◌+◌, List, refl}
use native.Mathlib.Numerals.{add-one}
use lib.Ieee.{Float}
use Rattle.numerics.specs.Binary64.{◌⊕◌, ◌⊗◌, neg_zero}
use Rattle.std.specs.Prelude.{fold}
use Rattle.numerics.specs.Vectors.{◌!◌, tabulate, dot}

sum_snoc : (n : ℕ) (f : ℕ → Float) (s : Float) → fold ◌⊕◌ s (tabulate n f) ⊕ f n ≡ fold ◌⊕◌ s (tabulate (suc n) f)
sum_snoc zero f s = refl
sum_snoc (suc n) f s = sum_snoc n (λ i. f (suc i)) (s ⊕ f 0)

pub dot_next : (i : ℕ) (x y : List Float) (s : Float) → s ≡ dot i x y → s ⊕ x ! i ⊗ y ! i ≡ dot (i + 1) x y
dot_next i x y s e = rw (add-one i, e) (sum_snoc i (λ j. x ! j ⊗ y ! j) neg_zero)
