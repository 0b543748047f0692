-- What holds of every factor. Assumes nothing.
use Rattle.std.proofs.Common.{◌≡◌, refl, Bool, true, false, ◌&&◌, cond, List}
use Rattle.std.specs.Prelude.{is_ok, ok_or, Result, Ok, Err, Some, None}
use lib.Dec.{T}
use lib.Ieee.{Float, binary64, lt}
use lib.Ieee.Fits.{and_l, and_r}
use Rattle.numerics.specs.Binary64.{◌⊗◌, zero, recip}
use Rattle.std.specs.Float.{float_is_finite}
use Rattle.numerics.specs.Classify.{is_nonnegative, is_positive_finite}
use Rattle.numerics.proofs.Order.{nonneg_above, nonneg_recip}
use Rattle.numerics.proofs.Monotone.{nonneg_zero}
use Rattle.refusal.specs.Chain.{◌>>=◌, map_ok}
use Rattle.refusal.specs.declared.Refusal.{Refusal}
use Rattle.refusal.specs.declared.Refusal.TheVariants.{NotFactored}
use Rattle.point_block.specs.Cholesky.{has_valid_pivots, factor_of, inverse_by, invert}
use Rattle.point_block.specs.Damping.{is_valid_damping, largest_diagonal, damping_diagonal_of, damping_diagonal, with_added_diagonal, damped_matrix}
use Rattle.point_block.specs.Factor.{factor_damped}
use Rattle.point_block.specs.declared.PointBlockFactor.{PointBlockFactor}
use Rattle.point_block.specs.declared.ConditionedFactor.{ConditionedFactor}
use Rattle.point_block.specs.Condition.{infinity_norm, inverse_matrix, reciprocal_condition_number}
use Rattle.point_block.specs.FactorWithRcond.{factor, factor_with_rcond, inverse_at}

-- the factor with its rcond is given wherever there is a factor: nothing but the matrix and the
-- damping decides whether there is
pub factors_with_rcond : (m : List Float) (damping : Float) → is_valid_damping damping ≡ true
    → is_ok (factor_with_rcond m damping) ≡ is_ok (factor m damping)
unfolding factor_with_rcond
factors_with_rcond m damping g = rw g (by _ (factor m damping))
  where
    by : (k : PointBlockFactor → ConditionedFactor) (f : Result PointBlockFactor Refusal)
        → is_ok (map_ok k f) ≡ is_ok f
    by k (Ok f) = refl
    by k (Err r) = refl

-- the factor of a damped matrix is the inverse by the formulas alone
damped_factor_is : (h : List Float) (f : PointBlockFactor) → factor_damped h ≡ Ok f
    → f.inverse ≡ inverse_by h (damping_diagonal_of h)
unfolding factor_damped invert
damped_factor_is h f = by (has_valid_pivots (factor_of h (damping_diagonal_of h)))
  where
    factor_by : Bool → Result PointBlockFactor Refusal
    factor_by valid = map_ok (λ i. record { inverse = i })
        (ok_or (cond valid (Some (inverse_by h (damping_diagonal_of h))) None) NotFactored)

    by : (valid : Bool) → factor_by valid ≡ Ok f
        → f.inverse ≡ inverse_by h (damping_diagonal_of h)
    by true e = cc
    by false e = cc

-- so is that of a matrix at a damping
pub factor_is : (m : List Float) (damping : Float) (f : PointBlockFactor) → factor m damping ≡ Ok f
    → f.inverse ≡ inverse_at m damping
unfolding factor damped_matrix damping_diagonal
factor_is m damping f = by (is_positive_finite (largest_diagonal m))
  where
    factor_by : Bool → Result PointBlockFactor Refusal
    factor_by positive =
        map_ok (with_added_diagonal m damping)
        (cond positive (Ok (damping_diagonal_of m)) (Err NotFactored))
        >>= factor_damped

    by : (positive : Bool) → factor_by positive ≡ Ok f → f.inverse ≡ inverse_at m damping
    by true e = damped_factor_is _ f e
    by false e = cc

-- rcond is a number and never below zero
pub rcond_nonneg : (i m : List Float) → T (is_nonnegative (reciprocal_condition_number i m))
unfolding reciprocal_condition_number
rcond_nonneg i m = by (is_positive_finite d) refl
  where
    d : Float
    d = infinity_norm m ⊗ infinity_norm (inverse_matrix i)

    by : (b : Bool) → is_positive_finite d ≡ b → T (is_nonnegative (cond b (recip d) zero))
    by true e =
        let h : T (float_is_finite d && lt zero d) = rw e tt in
        nonneg_recip d (and_l _ _ h) (nonneg_above zero d (nonneg_zero binary64) (and_r _ _ h))
    by false e = nonneg_zero binary64
