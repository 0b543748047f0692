-- The block of a point, what it adds to the normal equations: `linearize_point` of schur.rs with
-- `Loss::L2` (docs/SPECIFICATION.md, "Linearization").
use Rattle.std.specs.Prelude.{List, Float, Result, Ok, is_ok}
use Rattle.std.specs.Result.{result_and}
use Rattle.numerics.specs.Binary64.{◌⊕◌, ◌⊗◌, zero}
use Rattle.numerics.specs.Vectors.{tabulate, zeros}
use Rattle.refusal.specs.Outcome.{outcome}
use Rattle.refusal.specs.declared.Refusal.{Refusal}
use Rattle.linearization.specs.declared.linearize.LocalLinearization.{LocalLinearization}
use Rattle.linearization.specs.declared.linearize.TestedBlock.{TestedBlock}
use Rattle.linearization.specs.declared.terms.PointTerms.{PointTerms}
use Rattle.linearization.specs.declared.views.Rig.{Rig}
use Rattle.linearization.specs.declared.views.Correspondence.{Correspondence}
use Rattle.linearization.specs.declared.views.View1.{View1}
use Rattle.linearization.specs.declared.views.View2.{View2}
use Rattle.linearization.specs.declared.views.LinearizedViews.{LinearizedViews}
use Rattle.linearization.specs.Loss.{norm, loss_cost}
use Rattle.linearization.specs.Views.{views_of, check_views}
use Rattle.linearization.specs.Accumulate.{pose_hessian, cross_hessian, point_hessian}
use Rattle.linearization.specs.Accumulate.{pose_gradient, point_gradient}

-- +0 everywhere: what stands beside a refusal
unfoldable pub zero_linearization : LocalLinearization
zero_linearization = record {
  pose_hessian = zeros 25;
  cross_hessian = zeros 15;
  point_hessian = zeros 9;
  pose_gradient = zeros 5;
  point_gradient = zeros 3;
  cost = zero;
  squared_residual = zero;
}

-- the block, or +0 everywhere beside a refusal
abbrev pub block_or_zeros : Result LocalLinearization Refusal → LocalLinearization
block_or_zeros r = (outcome zero_linearization r).values

-- the two rows of view 1's pose Jacobian
abbrev pub pose_rows : View1 → List Float
pose_rows a = tabulate 10 (λ i. a.pose_zero)

-- what the step of a point needs of its block, H_px, H_xx and g_x, from both views
unfoldable pub terms : View1 → View2 → PointTerms
terms a b = record {
  cross_hessian = cross_hessian (pose_rows a) a.point b.pose b.point;
  point_hessian = point_hessian a.point b.point;
  point_gradient = point_gradient a.point a.residual b.point b.residual;
}

-- the block of both views, with its cost and its squared residual
unfoldable pub sums : LinearizedViews → Float → Float → LocalLinearization
sums v cost squared =
    let a = v.first in
    let b = v.second in
    let t = terms a b in
    record {
      pose_hessian = pose_hessian (pose_rows a) b.pose;
      cross_hessian = t.cross_hessian;
      point_hessian = t.point_hessian;
      pose_gradient = pose_gradient (pose_rows a) a.residual b.pose b.residual;
      point_gradient = t.point_gradient;
      cost = cost;
      squared_residual = squared;
    }

-- That block, where both are summed from +0 over the views: the loss's cost of |r| · isd, with isd
-- the inverse standard deviation, and |r|², which no weight is in.
unfoldable pub block : LinearizedViews → Float → LocalLinearization
block v isd =
    let m = norm v.residual1 in
    let n = norm v.residual2 in
    sums v (zero ⊕ loss_cost (m ⊗ isd) ⊕ loss_cost (n ⊗ isd)) (zero ⊕ m ⊗ m ⊕ n ⊗ n)

-- the block of a correspondence by the formulas alone, whether rows 4 and 9 let it through or not
unfoldable pub block_of : Rig → Correspondence → LocalLinearization
block_of rig correspondence =
    block (views_of rig correspondence) correspondence.inverse_standard_deviation

-- row 4, then row 9 with view 1 or 2, then the block
unfoldable pub linearize_point : Rig → Correspondence → Result LocalLinearization Refusal
linearize_point rig correspondence =
    result_and (check_views rig correspondence) (Ok (block_of rig correspondence))

-- the block by the formulas alone, and whether it is let through
abbrev pub tested_block : Rig → Correspondence → TestedBlock
tested_block rig correspondence = record {
  block = block_of rig correspondence;
  accepted = is_ok (check_views rig correspondence);
}

-- the same terms, of the block itself
unfoldable pub point_terms : LocalLinearization → PointTerms
point_terms b = record {
  cross_hessian = b.cross_hessian;
  point_hessian = b.point_hessian;
  point_gradient = b.point_gradient;
}
