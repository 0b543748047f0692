-- Vectors and matrices: flat lists of numbers, row by row; and their sums as the Rust's iterators
-- work them out. docs/SPECIFICATION.md, "Numbers" and "Rig and correspondence".
use Rattle.std.specs.Prelude.{ℕ, zero as zero·, suc, Bool, List, [], ◌∷◌, fold, get_or, Float}
use Rattle.std.specs.Float.{nan, float_is_finite}
use Rattle.std.specs.Float.Ieee.{eq}
use Rattle.std.specs.List.{list_all}
use Rattle.numerics.specs.Binary64.{◌⊕◌, ◌⊗◌, zero, neg_zero}

-- x ! i is entry i of x, from 0
infixl 90 ◌!◌
abbrev pub ◌!◌ : List Float → ℕ → Float
x ! i = get_or x i nan

-- ((−0 + x₀) + x₁) + .. + xₙ₋₁, `.sum()`: one by one from −0
abbrev pub sum : List Float → Float
sum x = fold ◌⊕◌ neg_zero x

-- every entry is finite
unfoldable pub all_finite : List Float → Bool
all_finite x = list_all float_is_finite x

-- every entry is a zero, of either sign
unfoldable pub all_zero : List Float → Bool
all_zero x = list_all (λ a. eq a zero) x

-- (f 0, f 1, .., f (n − 1))
abbrev pub tabulate : ℕ → (ℕ → Float) → List Float
tabulate zero· f = []
tabulate (suc n) f = f 0 ∷ tabulate n (λ i. f (suc i))

-- n entries of +0
abbrev pub zeros : ℕ → List Float
zeros n = tabulate n (λ i. zero)

-- x · y = ((−0 + x₀·y₀) + x₁·y₁) + .. + xₙ₋₁·yₙ₋₁, `.sum()` of the products of n entries
abbrev pub dot : ℕ → List Float → List Float → Float
dot n x y = sum (tabulate n (λ i. x ! i ⊗ y ! i))
