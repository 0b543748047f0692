-- The factor of a damped 3 by 3 block: `factor_damped` and `solve` of point_block.rs
-- (docs/SPECIFICATION.md, "Point block"). What is kept is the block's inverse, packed as its
-- entries 00, 10, 11, 20, 21, 22.
use Rattle.std.specs.Prelude.{List, [], ◌∷◌, Float, Result, ok_or}
use Rattle.numerics.specs.Binary64.{◌⊕◌, ◌⊗◌}
use Rattle.numerics.specs.Vectors.{◌!◌, zeros}
use Rattle.refusal.specs.Chain.{map_ok}
use Rattle.refusal.specs.declared.Refusal.{Refusal}
use Rattle.refusal.specs.declared.Refusal.TheVariants.{NotFactored}
use Rattle.point_block.specs.Cholesky.{invert}
use Rattle.point_block.specs.Damping.{damping_diagonal_of}
use Rattle.point_block.specs.declared.PointBlockFactor.{PointBlockFactor}

-- +0 everywhere: what stands beside a refusal
abbrev pub zero_factor : PointBlockFactor
zero_factor = record { inverse = zeros 6 }

-- The inverse by the Cholesky factor of m at the scale √d, with d the diagonal entries of m, none
-- below 64ε of the largest; or row 10 where a pivot is not valid.
unfoldable pub factor_damped : List Float → Result PointBlockFactor Refusal
factor_damped m =
    map_ok (λ i. record { inverse = i }) (ok_or (invert m (damping_diagonal_of m)) NotFactored)

-- the symmetric inverse, packed as i, times the vector x
abbrev pub solve : List Float → List Float → List Float
solve i x =
    i ! 0 ⊗ x ! 0 ⊕ i ! 1 ⊗ x ! 1 ⊕ i ! 3 ⊗ x ! 2
    ∷ i ! 1 ⊗ x ! 0 ⊕ i ! 2 ⊗ x ! 1 ⊕ i ! 4 ⊗ x ! 2
    ∷ i ! 3 ⊗ x ! 0 ⊕ i ! 4 ⊗ x ! 1 ⊕ i ! 5 ⊗ x ! 2
    ∷ []
