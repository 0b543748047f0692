-- The loss of a view's residual r, plain squares: `Loss::L2` in `linearize_point` of schur.rs
-- (docs/SPECIFICATION.md, "Linearization").
use Rattle.std.specs.Prelude.{List, [], ◌∷◌, Float}
use Rattle.numerics.specs.Binary64.{◌⊗◌, half, one}
use Rattle.root.specs.Root.{sqrt}
use Rattle.numerics.specs.Vectors.{◌!◌, sum}

-- |r| = √(r₀² + r₁²)
abbrev pub norm : List Float → Float
norm residual = sqrt (sum (residual ! 0 ⊗ residual ! 0 ∷ residual ! 1 ⊗ residual ! 1 ∷ []))

-- the root of the loss's weight at a weighted residual length x: 1 whatever it is
abbrev pub sqrt_weight : Float → Float
sqrt_weight x = one

-- the cost of a weighted residual length x: ½ x²
abbrev pub loss_cost : Float → Float
loss_cost x = half ⊗ x ⊗ x

-- w, which each row of a view is multiplied by: the inverse standard deviation times that root
abbrev pub row_weight : List Float → Float → Float
row_weight residual inverse_standard_deviation =
    inverse_standard_deviation ⊗ sqrt_weight (norm residual ⊗ inverse_standard_deviation)
