-- The tests of a point's views, all at once. Assumes nothing.
use Rattle.std.proofs.Common.{◌≡◌, refl, Bool, true, false, ◌&&◌, [], ◌∷◌, is_ok}
use Rattle.refusal.specs.FirstRefusal.{refuse_unless, first_refusal}
use Rattle.refusal.specs.declared.Refusal.{Refusal}
use Rattle.refusal.specs.declared.View.TheVariants.{First, Second}
use Rattle.refusal.specs.declared.Refusal.TheVariants.{InverseStandardDeviation, PointNotProjectable}
use Rattle.projection.specs.PixelProjection.{pixel_projection}
use Rattle.linearization.specs.declared.views.Rig.{Rig}
use Rattle.linearization.specs.declared.views.Correspondence.{Correspondence}
use Rattle.linearization.specs.Views.{is_valid_inverse_standard_deviation, point_in_camera2, check_views}

-- three checks let through what all three tests do
all_pass : (a b c : Bool) (x y z : Refusal) → (a && b && c)
    ≡ is_ok (first_refusal (refuse_unless a x ∷ refuse_unless b y ∷ refuse_unless c z ∷ []))
all_pass true true true x y z = refl
all_pass true true false x y z = refl
all_pass true false c x y z = refl
all_pass false b c x y z = refl

-- the three tests of a correspondence
abbrev pub tests : Rig → Correspondence → Bool
tests rig c =
    is_valid_inverse_standard_deviation c.inverse_standard_deviation
    && is_ok (pixel_projection rig.camera1 c.view1 c.point)
    && is_ok (pixel_projection rig.camera2 c.view2 (point_in_camera2 rig c))

-- rows 4 and 9 let through what passes them
pub accepted_is : (rig : Rig) (c : Correspondence) → tests rig c ≡ is_ok (check_views rig c)
unfolding check_views
accepted_is rig c = all_pass _ _ _ (InverseStandardDeviation 0) (PointNotProjectable First 0) (PointNotProjectable Second 0)
