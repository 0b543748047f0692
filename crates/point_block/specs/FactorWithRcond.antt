-- The factor of a block m at a damping, `PointBlockFactor::new` of point_block.rs, and the factor
-- with its rcond (docs/SPECIFICATION.md, "Point block").
use Rattle.std.specs.Prelude.{List, Float, Result}
use Rattle.numerics.specs.Binary64.{zero}
use Rattle.refusal.specs.declared.Refusal.{Refusal}
use Rattle.refusal.specs.Chain.{◌>>=◌, map_ok}
use Rattle.point_block.specs.Damping.{valid_damping, damping_diagonal_of, with_added_diagonal}
use Rattle.point_block.specs.Damping.{damped_matrix}
use Rattle.point_block.specs.declared.PointBlockFactor.{PointBlockFactor}
use Rattle.point_block.specs.declared.ConditionedFactor.{ConditionedFactor}
use Rattle.point_block.specs.Cholesky.{inverse_by}
use Rattle.point_block.specs.Factor.{zero_factor, factor_damped}
use Rattle.point_block.specs.Condition.{reciprocal_condition_number}

-- the factor of the damped matrix, or row 10 where there is none
unfoldable pub factor : List Float → Float → Result PointBlockFactor Refusal
factor m damping = damped_matrix m damping >>= factor_damped

-- the packed inverse of the damped matrix by the formulas alone: that of the factor, where there is
-- one
abbrev pub inverse_at : List Float → Float → List Float
inverse_at m damping =
    let damped = with_added_diagonal m damping (damping_diagonal_of m) in
    inverse_by damped (damping_diagonal_of damped)

-- +0 everywhere: what stands beside a refusal
abbrev pub zero_conditioned_factor : ConditionedFactor
zero_conditioned_factor = record { factor = zero_factor; rcond = zero }

-- Row 3, then row 10, then the factor with its rcond, which is that of the damped matrix's inverse
-- and of m as it is, undamped.
unfoldable pub factor_with_rcond : List Float → Float → Result ConditionedFactor Refusal
factor_with_rcond m damping =
    let with_rcond : PointBlockFactor → ConditionedFactor = λ f. record {
      factor = f;
      rcond = reciprocal_condition_number f.inverse m;
    } in
    valid_damping damping >>= (λ d. map_ok with_rcond (factor m d))
