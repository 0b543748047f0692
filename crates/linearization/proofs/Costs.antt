-- The cost and the squared residual of every block, and of the one that is +0 everywhere, are
-- numbers not below zero. Assumes nothing.
use Rattle.std.proofs.Common.{◌≡◌, refl, not, T, List}
use lib.Ieee.{Float, binary64, lt, le}
use lib.Ieee.Bits.{is_true}
use lib.Ieee.Fits.{and_l, and_r}
use Rattle.numerics.specs.Binary64.{◌⊕◌, ◌⊗◌, zero}
use Rattle.std.specs.Float.{float_is_finite}
use Rattle.numerics.specs.Classify.{is_nonnegative}
use Rattle.numerics.specs.Vectors.{◌!◌}
use Rattle.std.proofs.lemmas.Float.{lt_of_not-le}
use Rattle.numerics.proofs.Order.{nonneg_add, nonneg_not_nan, nonneg_square}
use Rattle.numerics.proofs.Monotone.{nonneg_zero, finite_not_nan, nonneg_mul_weight, nonneg_half_square}
use Rattle.root.proofs.Signs.{nonneg_sum_squares}
use Rattle.std.specs.Prelude.{Ok, Err}
use Rattle.std.specs.Result.{result_and}
use Rattle.refusal.specs.FirstRefusal.{CheckResult}
use Rattle.projection.specs.CameraFrame.{rotate}
use Rattle.projection.specs.PixelProjection.{all_finite}
use Rattle.projection.specs.declared.Projection.{Projection}
use Rattle.projection.proofs.Laws.{residual_finite, figures_finite}
use Rattle.linearization.specs.declared.linearize.LocalLinearization.{LocalLinearization}
use Rattle.linearization.specs.declared.views.RelativePose.{RelativePose}
use Rattle.linearization.specs.declared.views.Rig.{Rig}
use Rattle.linearization.specs.declared.views.Correspondence.{Correspondence}
use Rattle.linearization.specs.Loss.{norm, loss_cost}
use Rattle.linearization.specs.Views.{is_valid_inverse_standard_deviation, weighted_views, views_of, check_views}
use Rattle.linearization.proofs.Tested.{tests, accepted_is}
use Rattle.linearization.specs.Linearize.{zero_linearization, block_or_zeros, sums, block, block_of, linearize_point}

-- both figures of a block are numbers not below zero
abbrev pub Costs : LocalLinearization → Type 0
Costs b = T (is_nonnegative b.cost) × T (is_nonnegative b.squared_residual)

-- what row 4 lets through is finite and above 0
deviation : (w : Float) → T (is_valid_inverse_standard_deviation w)
    → T (float_is_finite w) × T (lt zero w)
unfolding is_valid_inverse_standard_deviation
deviation w h =
    let finite = and_l (float_is_finite w) (not (le w zero)) h in
    let above = and_r (float_is_finite w) (not (le w zero)) h in
    let number = nonneg_not_nan zero (nonneg_zero binary64) in
    (finite, lt_of_not-le w zero (finite_not_nan w finite) number above)

-- the length of a finite residual is a number not below zero
norm_nonneg : (p : Projection) → T (all_finite p) → T (is_nonnegative (norm p.residual))
norm_nonneg p h =
    let k = residual_finite p h in
    nonneg_sum_squares (p.residual ! 0) (p.residual ! 1) k.0 k.1

-- and its square
square_nonneg : (m : Float) → T (is_nonnegative m) → T (is_nonnegative (m ⊗ m))
square_nonneg m n = nonneg_square binary64 m (nonneg_not_nan m n)

-- and its cost, weighted
cost_nonneg : (m w : Float) → T (is_nonnegative m) → T (is_valid_inverse_standard_deviation w)
    → T (is_nonnegative (loss_cost (m ⊗ w)))
cost_nonneg m w n h =
    let k = deviation w h in
    nonneg_half_square (m ⊗ w) (nonneg_mul_weight binary64 m w n k.0 k.1)

-- and a sum over both views
sum_nonneg : (x y : Float) → T (is_nonnegative x) → T (is_nonnegative y)
    → T (is_nonnegative (zero ⊕ x ⊕ y))
sum_nonneg x y p q =
    nonneg_add binary64 (zero ⊕ x) y (nonneg_add binary64 zero x (nonneg_zero binary64) p) q

-- the block of two projections that are finite
block_costs : (first second : Projection) (rotated : List Float) (pose : RelativePose) (w : Float)
    → T (is_valid_inverse_standard_deviation w) → T (all_finite first) → T (all_finite second)
    → Costs (block (weighted_views first second rotated pose w) w)
unfolding weighted_views block sums
block_costs first second rotated pose w h f g =
    let a = norm_nonneg first f in
    let b = norm_nonneg second g in (
      sum_nonneg _ _ (cost_nonneg _ w a h) (cost_nonneg _ w b h),
      sum_nonneg _ _ (square_nonneg _ a) (square_nonneg _ b),
    )

-- +0 everywhere
no_block_costs : Costs zero_linearization
unfolding zero_linearization
no_block_costs = (nonneg_zero binary64, nonneg_zero binary64)

-- what `linearize_point` gives, beside a refusal too
pub made_costs : (rig : Rig) (c : Correspondence) → Costs (block_or_zeros (linearize_point rig c))
unfolding linearize_point block_of views_of
made_costs rig c = by (check_views rig c) refl
  where
    by : (r : CheckResult) → check_views rig c ≡ r
        → Costs (block_or_zeros (result_and r (Ok (block_of rig c))))
    by (Ok u) e =
        let passed : T (tests rig c) = rw (accepted_is rig c, e) tt in
        let both = and_l _ _ passed in
        block_costs _ _ (rotate rig.pose.rotation c.point) rig.pose c.inverse_standard_deviation
        (and_l _ _ both)
        (figures_finite _ _ _ (is_true _ (and_r _ _ both)))
        (figures_finite _ _ _ (is_true _ (and_r _ _ passed)))
    by (Err r) e = no_block_costs
