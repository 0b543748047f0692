-- What `add` of schur.rs makes of the equations of the pose once a block's point is eliminated, and
-- what the block shows of itself. docs/SPECIFICATION.md, "Reduced system".
use Rattle.std.specs.Prelude.{ℕ, suc, Bool, true, false, ◌&&◌, if◌then◌else◌, List, Float, Ok, Err}
use Rattle.numerics.specs.Extrema.{min}
use Rattle.numerics.specs.Binary64.{zero}
use Rattle.point_block.specs.Damping.{is_zero}
use Rattle.point_block.specs.Condition.{reciprocal_condition_number, is_weak}
use Rattle.point_block.specs.FactorWithRcond.{factor}
use Rattle.linearization.specs.declared.linearize.LocalLinearization.{LocalLinearization}
use Rattle.schur.specs.SchurComplement.{reduced_hessian, reduced_gradient, point_reduction}
use Rattle.schur.specs.declared.reduced_system.ReducedSystem.{ReducedSystem}

-- one more than n where b is true
abbrev pub count_if : Bool → ℕ → ℕ
count_if b n = if b then suc n else n

-- The equations and the smallest rcond after a block; whether the block factors at the damping, and
-- whether it counts as weak.
pub record Elimination : Type 0 where
  pub hessian : List Float
  pub gradient : List Float
  pub point_model_reduction : Float
  pub minimum_point_rcond : Float
  pub factored : Bool
  pub weak : Bool

-- A block that does not factor leaves the equations as they are. At damping zero, and there only,
-- it is weak and the smallest rcond becomes +0.
unfoldable pub elimination_without_factor : ReducedSystem → Bool → Elimination
elimination_without_factor s at_zero = record {
  hessian = s.hessian;
  gradient = s.gradient;
  point_model_reduction = s.point_model_reduction;
  minimum_point_rcond = if at_zero then zero else s.minimum_point_rcond;
  factored = false;
  weak = at_zero;
}

-- A block that factors, with its packed inverse: the Schur complement of its point enters the
-- equations. At damping zero, and there only, the smallest rcond becomes the smaller of it and the
-- block's, and the block is weak where its rcond ≤ 192ε.
unfoldable pub elimination_by_inverse :
    ReducedSystem → LocalLinearization → Float → List Float → Elimination
elimination_by_inverse s b damping inverse =
    let rcond = reciprocal_condition_number inverse b.point_hessian in record {
      hessian = reduced_hessian s.hessian inverse b;
      gradient = reduced_gradient s.gradient inverse b;
      point_model_reduction = point_reduction s.point_model_reduction inverse b;
      minimum_point_rcond =
          if is_zero damping then min s.minimum_point_rcond rcond else s.minimum_point_rcond;
      factored = true;
      weak = is_zero damping && is_weak rcond;
    }

-- of a block at a damping, by the factor of its point Hessian
unfoldable pub elimination_of : ReducedSystem → LocalLinearization → Float → Elimination
elimination_of s b damping = elim (factor b.point_hessian damping) [
  | Ok f ↦ elimination_by_inverse s b damping f.inverse
  | Err r ↦ elimination_without_factor s (is_zero damping)
]
