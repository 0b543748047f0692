-- The two views of a point in `linearize_point` of schur.rs: their weighted residuals and
-- Jacobians, and the tests of rows 4 and 9 (docs/SPECIFICATION.md, "Linearization").
use Rattle.std.specs.Prelude.{ℕ, Bool, not, ◌&&◌, List, [], ◌∷◌, Float, is_ok}
use Rattle.std.specs.Float.Ieee.{le}
use Rattle.numerics.specs.Binary64.{◌⊗◌, zero}
use Rattle.std.specs.Float.{float_is_finite}
use Rattle.numerics.specs.Vectors.{◌!◌, tabulate}
use Rattle.refusal.specs.FirstRefusal.{CheckResult, refuse_unless, first_refusal}
use Rattle.refusal.specs.declared.View.TheVariants.{First, Second}
use Rattle.refusal.specs.declared.Refusal.TheVariants.{InverseStandardDeviation}
use Rattle.refusal.specs.declared.Refusal.TheVariants.{PointNotProjectable}
use Rattle.projection.specs.CameraFrame.{rotate, camera_point}
use Rattle.projection.specs.PixelProjection.{residual_and_jacobian, pixel_projection}
use Rattle.projection.specs.declared.Projection.{Projection}
use Rattle.linearization.specs.declared.views.RelativePose.{RelativePose}
use Rattle.linearization.specs.declared.views.Rig.{Rig}
use Rattle.linearization.specs.declared.views.Correspondence.{Correspondence}
use Rattle.linearization.specs.declared.views.View1.{View1}
use Rattle.linearization.specs.declared.views.View2.{View2}
use Rattle.linearization.specs.declared.views.LinearizedViews.{LinearizedViews}
use Rattle.linearization.specs.declared.views.TestedViews.{TestedViews}
use Rattle.linearization.specs.Loss.{row_weight}
use Rattle.linearization.specs.Jacobians.{pose_motion_jacobian, pose_jacobian, point_jacobian}

-- finite and above 0: what row 4 lets through
unfoldable pub is_valid_inverse_standard_deviation : Float → Bool
is_valid_inverse_standard_deviation x = float_is_finite x && not (le x zero)

-- the first n entries, each times the weight
abbrev pub weighted_entries : ℕ → Float → List Float → List Float
weighted_entries n weight l = tabulate n (λ i. weight ⊗ l ! i)

-- View 1, with w the weight and h the baseline: the residual w r, the point Jacobian w (J h), and a
-- pose Jacobian whose ten entries are w · (+0), since no pose moves the point there.
unfoldable pub weighted_view1 : Projection → RelativePose → Float → View1
weighted_view1 projection pose weight = record {
  residual = weighted_entries 2 weight projection.residual;
  pose_zero = weight ⊗ zero;
  point = tabulate 6 (λ i. weight ⊗ (projection.jacobian ! i ⊗ pose.baseline));
}

-- View 2, with M how the rotated point moves with the pose: the residual w r, the pose Jacobian
-- w (J M), and the point Jacobian w ((J R) h).
unfoldable pub weighted_view2 : Projection → List Float → RelativePose → Float → View2
weighted_view2 projection rotated pose weight =
    let motion = pose_motion_jacobian rotated pose.translation_basis pose.baseline in
    let by_pose = pose_jacobian projection.jacobian motion in
    let by_point = point_jacobian projection.jacobian pose.rotation pose.baseline in
    record {
      residual = weighted_entries 2 weight projection.residual;
      pose = weighted_entries 10 weight by_pose;
      point = weighted_entries 6 weight by_point;
    }

-- both views from their projections, each with the row weight of its own residual; isd is the
-- inverse standard deviation
unfoldable pub weighted_views
    : Projection → Projection → List Float → RelativePose → Float → LinearizedViews
weighted_views first second rotated pose isd = record {
  first = weighted_view1 first pose (row_weight first.residual isd);
  second = weighted_view2 second rotated pose (row_weight second.residual isd);
  residual1 = first.residual;
  residual2 = second.residual;
}

-- the point in the second camera's frame, R p + t
abbrev pub point_in_camera2 : Rig → Correspondence → List Float
point_in_camera2 rig correspondence =
    camera_point (rotate rig.pose.rotation correspondence.point) rig.pose.translation

-- both views by the formulas alone, whether rows 4 and 9 let them through or not
unfoldable pub views_of : Rig → Correspondence → LinearizedViews
views_of rig c =
    let first = residual_and_jacobian rig.camera1 c.view1 c.point in
    let second = residual_and_jacobian rig.camera2 c.view2 (point_in_camera2 rig c) in
    let rotated = rotate rig.pose.rotation c.point in
    weighted_views first second rotated rig.pose c.inverse_standard_deviation

-- row 4, then row 9 with view 1, then with view 2
unfoldable pub check_views : Rig → Correspondence → CheckResult
check_views rig c =
    let first = pixel_projection rig.camera1 c.view1 c.point in
    let second = pixel_projection rig.camera2 c.view2 (point_in_camera2 rig c) in
    let valid = is_valid_inverse_standard_deviation c.inverse_standard_deviation in
    first_refusal (
    refuse_unless valid (InverseStandardDeviation 0)
    ∷ refuse_unless (is_ok first) (PointNotProjectable First 0)
    ∷ refuse_unless (is_ok second) (PointNotProjectable Second 0)
    ∷ [])

-- the views by the formulas alone, and whether they are let through
abbrev pub tested_views : Rig → Correspondence → TestedViews
tested_views rig correspondence = record {
  views = views_of rig correspondence;
  accepted = is_ok (check_views rig correspondence);
}
