-- Five equations A x = b by Cholesky's method, A = L Lᵀ: `solve_positive_definite` of solver.rs, at
-- 5 unknowns (docs/SPECIFICATION.md, "Solve"). A matrix is 25 numbers, row by row: the entry of
-- row i and column j stands at 5 i + j, and that on the diagonal at 6 i.
use Rattle.std.specs.Prelude.{ℕ, ◌+◌, ◌-◌, ◌*◌, ◌==◌, fold, set, Bool, not, ◌&&◌, if◌then◌else◌}
use Rattle.std.specs.Prelude.{List, Float, Result, Ok, Err}
use Rattle.std.specs.List.{range_with_len}
use Rattle.std.specs.Float.Ieee.{le}
use Rattle.numerics.specs.Binary64.{◌⊕◌, ◌⊖◌, ◌⊗◌, ◌⊘◌, zero, neg_zero}
use Rattle.root.specs.Root.{sqrt}
use Rattle.numerics.specs.Vectors.{◌!◌, zeros, all_finite}
use Rattle.refusal.specs.declared.Refusal.{Refusal}
use Rattle.refusal.specs.declared.Refusal.TheVariants.{NotSolved}
use Rattle.solver.specs.declared.Lower.{Lower}

-- Σ lᵢₖ lⱼₖ over k < j, summed from −0, an empty sum too: a − (−0) turns −0 into +0
unfoldable pub products : List Float → ℕ → ℕ → Float
products l i j = fold (λ s k. s ⊕ l ! (5 * i + k) ⊗ l ! (5 * j + k)) neg_zero (range_with_len 0 j)

-- sᵢⱼ = aᵢⱼ − Σ lᵢₖ lⱼₖ over k < j,  lᵢⱼ = sᵢⱼ ÷ lⱼⱼ left of the diagonal,  lᵢᵢ = √sᵢᵢ
unfoldable pub with_entry : List Float → ℕ → Lower → ℕ → Lower
with_entry a i l j =
    let s = a ! (5 * i + j) ⊖ products l.entries i j in
    record {
      sums = set l.sums (5 * i + j) s;
      entries = set l.entries (5 * i + j) (if i == j then sqrt s else s ⊘ l.entries ! (6 * j));
    }

-- row i, its entries 0 to i one after the other
unfoldable pub with_row : List Float → Lower → ℕ → Lower
with_row a l i = fold (with_entry a i) l (range_with_len 0 (i + 1))

-- the lower triangle row by row; what lies right of the diagonal is +0
unfoldable pub lower_of : List Float → Lower
lower_of a = fold (with_row a) (record { sums = zeros 25; entries = zeros 25 }) (range_with_len 0 5)

-- every sum is finite, and no pivot sᵢᵢ is at or below 0
unfoldable pub has_valid_sums : List Float → Bool
has_valid_sums s =
    all_finite s
    && not (le (s ! 0) zero)
    && not (le (s ! 6) zero)
    && not (le (s ! 12) zero)
    && not (le (s ! 18) zero)
    && not (le (s ! 24) zero)

-- bᵢ − lᵢ₀ y₀ − .. − lᵢ,ᵢ₋₁ yᵢ₋₁
unfoldable pub forward_sum : List Float → List Float → List Float → ℕ → Float
forward_sum l b y i = fold (λ s j. s ⊖ l ! (5 * i + j) ⊗ y ! j) (b ! i) (range_with_len 0 i)

-- y with yᵢ = (bᵢ − lᵢ₀ y₀ − .. − lᵢ,ᵢ₋₁ yᵢ₋₁) ÷ lᵢᵢ
unfoldable pub with_forward_entry : List Float → List Float → List Float → ℕ → List Float
with_forward_entry l b y i = set y i (forward_sum l b y i ⊘ l ! (6 * i))

-- the solution y of L y = b, from y₀ on
unfoldable pub forward : List Float → List Float → List Float
forward l b = fold (with_forward_entry l b) (zeros 5) (range_with_len 0 5)

-- yᵢ − lᵢ₊₁,ᵢ xᵢ₊₁ − .. − l₄ᵢ x₄
unfoldable pub backward_sum : List Float → List Float → List Float → ℕ → Float
backward_sum l y x i =
    fold (λ s j. s ⊖ l ! (5 * j + i) ⊗ x ! j) (y ! i) (range_with_len (i + 1) (4 - i))

-- x with xᵢ = (yᵢ − lᵢ₊₁,ᵢ xᵢ₊₁ − .. − l₄ᵢ x₄) ÷ lᵢᵢ
unfoldable pub with_backward_entry : List Float → List Float → List Float → ℕ → List Float
with_backward_entry l y x i = set x i (backward_sum l y x i ⊘ l ! (6 * i))

-- the solution x of Lᵀ x = y, from x₄ down
unfoldable pub backward : List Float → List Float → List Float
backward l y = fold (λ x k. with_backward_entry l y x (4 - k)) (zeros 5) (range_with_len 0 5)

-- L y = b, then Lᵀ x = y
unfoldable pub solution : List Float → List Float → List Float
solution l b = backward l (forward l b)

-- five times +0: what stands beside a refusal
abbrev pub zero_solution : List Float
zero_solution = zeros 5

-- Row 11 where an entry of a, of b or of x or a sum is not finite, or a pivot is at or below 0. The
-- Rust leaves at the first of these; what it would work out afterwards decides nothing.
unfoldable pub solve_positive_definite : List Float → List Float → Result (List Float) Refusal
solve_positive_definite a b =
    let l = lower_of a in
    let x = solution l.entries b in
    if all_finite a && all_finite b && has_valid_sums l.sums && all_finite x
    then Ok x
    else Err NotSolved
