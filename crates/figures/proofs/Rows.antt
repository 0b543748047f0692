-- Every figure of the table is what the definitions give: antt computes each row.
use mathlib.Core.Path.{refl}
use lib.Ieee.{neg, add, sub, mul, div, lt, eq, le, is_nan, of_bits, size, units}
use Rattle.std.specs.Float.{float_is_finite, is_sign_negative, float_with_sign}
use Rattle.numerics.specs.Classify.{magnitude}
use Rattle.numerics.specs.Extrema.{max}
use Rattle.root.specs.Root.{sqrt}
use Rattle.projection.specs.PixelProjection.{is_in_front, residual_and_jacobian, all_finite, pixel_projection}
use Rattle.point_block.specs.Cholesky.{scale_of, cholesky_of, has_valid_pivots, inverse_of, inverse_by, invert}
use Rattle.point_block.specs.Damping.{is_valid_damping, largest_diagonal, damping_diagonal_of, damping_diagonal, with_added_diagonal, damped_matrix}
use Rattle.point_block.specs.Factor.{factor_damped}
use Rattle.point_block.specs.Condition.{infinity_norm, inverse_matrix, reciprocal_condition_number}
use Rattle.point_block.specs.FactorWithRcond as FactorWithRcond
use Rattle.optimizer.specs.PoseStep.{limit_pose_step}
use Rattle.figures.specs.Table.{done, ◌and◌, EveryFigureHolds}

pub every_figure_holds : EveryFigureHolds
unfolding neg add sub mul div lt eq le is_nan of_bits size units is_sign_negative float_is_finite float_with_sign magnitude max sqrt is_in_front residual_and_jacobian all_finite pixel_projection largest_diagonal damping_diagonal_of damping_diagonal with_added_diagonal damped_matrix scale_of cholesky_of has_valid_pivots inverse_of inverse_by invert factor_damped infinity_norm inverse_matrix reciprocal_condition_number FactorWithRcond.factor is_valid_damping FactorWithRcond.factor_with_rcond limit_pose_step
every_figure_holds =
    refl and refl and refl and refl and refl and refl and refl and refl and refl and refl and refl and refl and refl and refl and refl and refl and refl and refl and done
