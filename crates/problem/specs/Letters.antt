-- The letter that a list gives a point, by how its block factors at the problem's damping: met
-- by src/letters.rt. docs/SPECIFICATION.md, "List" and "Reciprocal condition number".
use Rattle.std.specs.Prelude.{ℕ, if◌then◌else◌, Float, Ok, Err, codes, slice_index}
use Rattle.point_block.specs.Damping.{is_zero}
use Rattle.point_block.specs.Condition.{reciprocal_condition_number, is_weak}
use Rattle.point_block.specs.FactorWithRcond.{factor}
use Rattle.linearization.specs.declared.linearize.LocalLinearization.{LocalLinearization}
use Rattle.problem.specs.declared.letters.BlockQuality.{BlockQuality}
use Rattle.problem.specs.declared.letters.BlockQuality.TheVariants.{NotFactored, Weak}
use Rattle.problem.specs.declared.letters.BlockQuality.TheVariants.{Good, Factored}

-- A block that factors, by its reciprocal condition number: at damping zero it is weak at or below
-- 192ε and good above that; at any other damping it is factored, and no more is told.
abbrev pub quality_by_rcond : Float → Float → BlockQuality
quality_by_rcond damping rcond =
    if is_zero damping then (if is_weak rcond then Weak else Good) else Factored

-- how the point Hessian of a block factors at a damping
unfoldable pub quality_of : LocalLinearization → Float → BlockQuality
quality_of b damping =
    elim (factor b.point_hessian damping) [
      | Ok f ↦ quality_by_rcond damping (reciprocal_condition_number f.inverse b.point_hessian)
      | Err r ↦ NotFactored
    ]

-- the letter of a quality, in ASCII
abbrev pub letter_byte : BlockQuality → ℕ
letter_byte NotFactored = slice_index (codes "n") 0
letter_byte Weak = slice_index (codes "w") 0
letter_byte Good = slice_index (codes "g") 0
letter_byte Factored = slice_index (codes "f") 0

-- the letter of a block at a damping
unfoldable pub letter_of : LocalLinearization → Float → ℕ
letter_of b damping = letter_byte (quality_of b damping)
