-- The reciprocal condition number of a 3 by 3 block m in the infinity norm, and when a block is
-- weak: `reciprocal_condition_number` of point_block.rs (docs/SPECIFICATION.md, "Point block").
use Rattle.std.specs.Prelude.{Bool, if◌then◌else◌, List, [], ◌∷◌, Float}
use Rattle.std.specs.Float.Ieee.{le}
use Rattle.numerics.specs.Binary64.{◌⊗◌, zero, one, point_block_rcond_threshold, recip}
use Rattle.numerics.specs.Classify.{abs, is_positive_finite}
use Rattle.numerics.specs.Vectors.{◌!◌, sum}
use Rattle.numerics.specs.Extrema.{fold_max}
use Rattle.point_block.specs.Factor.{solve}

-- |x| + |y| + |z|: the sum of a row's absolute values
abbrev pub row_norm : Float → Float → Float → Float
row_norm x y z = sum (abs x ∷ abs y ∷ abs z ∷ [])

-- ‖m‖: the largest of the three rows' sums; a sum that is a NaN is passed over
unfoldable pub infinity_norm : List Float → Float
infinity_norm m =
    fold_max (
    row_norm (m ! 0) (m ! 1) (m ! 2)
    ∷ row_norm (m ! 3) (m ! 4) (m ! 5)
    ∷ row_norm (m ! 6) (m ! 7) (m ! 8)
    ∷ [])

-- The inverse as nine numbers, from the packed i. Each column is a solve with a unit vector: not a
-- copy of the six stored numbers, since ∞ × 0 has to show.
unfoldable pub inverse_matrix : List Float → List Float
inverse_matrix i =
    let x = solve i (one ∷ zero ∷ zero ∷ []) in
    let y = solve i (zero ∷ one ∷ zero ∷ []) in
    let z = solve i (zero ∷ zero ∷ one ∷ []) in
    x ! 0 ∷ y ! 0 ∷ z ! 0
    ∷ x ! 1 ∷ y ! 1 ∷ z ! 1
    ∷ x ! 2 ∷ y ! 2 ∷ z ! 2 ∷ []

-- rcond = 1 ÷ (‖m‖ ‖inverse‖), or +0 where that product is not positive and finite
unfoldable pub reciprocal_condition_number : List Float → List Float → Float
reciprocal_condition_number i m =
    let denominator = infinity_norm m ⊗ infinity_norm (inverse_matrix i) in
    if is_positive_finite denominator then recip denominator else zero

-- a block that factors at damping zero is weak where its rcond is 192ε or below
abbrev pub is_weak : Float → Bool
is_weak rcond = le rcond point_block_rcond_threshold
