-- The damping of a 3 by 3 point block m: `damping_diagonal` and `damped_matrix` of point_block.rs
-- (docs/SPECIFICATION.md, "Point block"). A matrix is nine numbers, row by row.
use Rattle.std.specs.Prelude.{Bool, not, ◌&&◌, if◌then◌else◌, List, [], ◌∷◌, Float, Result, Ok, Err}
use Rattle.std.specs.Float.Ieee.{lt, eq}
use Rattle.numerics.specs.Binary64.{◌⊕◌, ◌⊗◌, zero, relative_tolerance}
use Rattle.std.specs.Float.{float_is_finite}
use Rattle.numerics.specs.Classify.{is_positive_finite}
use Rattle.numerics.specs.Vectors.{◌!◌}
use Rattle.numerics.specs.Extrema.{max, fold_max}
use Rattle.refusal.specs.Chain.{map_ok}
use Rattle.refusal.specs.declared.Refusal.{Refusal}
use Rattle.refusal.specs.declared.Refusal.TheVariants.{Damping, NotFactored}

-- finite and not below 0: what row 3 lets through
unfoldable pub is_valid_damping : Float → Bool
is_valid_damping damping = float_is_finite damping && not (lt damping zero)

-- the damping, or row 3
abbrev pub valid_damping : Float → Result Float Refusal
valid_damping damping = if is_valid_damping damping then Ok damping else Err Damping

-- damping zero, of either sign
abbrev pub is_zero : Float → Bool
is_zero damping = eq damping zero

-- the largest of +0 and the diagonal; a NaN is passed over
unfoldable pub largest_diagonal : List Float → Float
largest_diagonal m = fold_max (m ! 0 ∷ m ! 4 ∷ m ! 8 ∷ [])

-- dᵢ = max (mᵢᵢ, 64ε · largest diagonal entry); a NaN gives way to that floor
unfoldable pub damping_diagonal_of : List Float → List Float
damping_diagonal_of m =
    let floor = relative_tolerance ⊗ largest_diagonal m in
    max (m ! 0) floor ∷ max (m ! 4) floor ∷ max (m ! 8) floor ∷ []

-- d, or row 10 where the largest diagonal entry is not positive and finite
unfoldable pub damping_diagonal : List Float → Result (List Float) Refusal
damping_diagonal m =
    if is_positive_finite (largest_diagonal m)
    then Ok (damping_diagonal_of m)
    else Err NotFactored

-- m with damping · dᵢ added to the entry at (i, i)
unfoldable pub with_added_diagonal : List Float → Float → List Float → List Float
with_added_diagonal m damping d =
    m ! 0 ⊕ damping ⊗ d ! 0 ∷ m ! 1 ∷ m ! 2
    ∷ m ! 3 ∷ m ! 4 ⊕ damping ⊗ d ! 1 ∷ m ! 5
    ∷ m ! 6 ∷ m ! 7 ∷ m ! 8 ⊕ damping ⊗ d ! 2 ∷ []

-- m with the damping of its own damping diagonal added, or row 10 where it has none
unfoldable pub damped_matrix : List Float → Float → Result (List Float) Refusal
damped_matrix m damping = map_ok (with_added_diagonal m damping) (damping_diagonal m)
