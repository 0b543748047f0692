-- A two-view problem: the observations of n points in two cameras, as `refine_impl` of
-- kernel/two_view/optimizer.rs takes them, and what residual.rs does with one point.
-- docs/SPECIFICATION.md, "Rig and correspondence" and "Whole step".
use Rattle.std.specs.Prelude.{ℕ, ◌+◌, ◌*◌, List, [], ◌∷◌, length, Float, Result}
use Rattle.numerics.specs.Vectors.{◌!◌}
use Rattle.refusal.specs.declared.View.{View}
use Rattle.refusal.specs.declared.View.TheVariants.{First, Second}
use Rattle.refusal.specs.declared.Refusal.{Refusal}
use Rattle.projection.specs.CameraFrame.{rotate, camera_point}
use Rattle.projection.specs.PixelProjection.{pixel_projection}
use Rattle.projection.specs.declared.Projection.{Projection}
use Rattle.linearization.specs.declared.views.Correspondence.{Correspondence}
use Rattle.linearization.specs.declared.views.Rig.{Rig}

-- Flat lists: for n points 3n coordinates, 2n pixel coordinates in each view and n inverse standard
-- deviations; the rig, and the damping.
pub record Problem : Type 0 where
  pub points : List Float
  pub view1 : List Float
  pub view2 : List Float
  pub inverse_standard_deviations : List Float
  pub rig : Rig
  pub damping : Float

-- the problem of given lists
abbrev pub problem : List Float → List Float → List Float → List Float → Rig → Float → Problem
problem points view1 view2 inverse_standard_deviations rig damping = record {
  points = points;
  view1 = view1;
  view2 = view2;
  inverse_standard_deviations = inverse_standard_deviations;
  rig = rig;
  damping = damping;
}

-- n, the number of points, where the lengths fit it
abbrev pub count : Problem → ℕ
count p = length p.inverse_standard_deviations

-- (l₃ᵢ, l₃ᵢ₊₁, l₃ᵢ₊₂): the coordinates of point i
abbrev pub triple : List Float → ℕ → List Float
triple l i = l ! (3 * i) ∷ l ! (3 * i + 1) ∷ l ! (3 * i + 2) ∷ []

-- (l₂ᵢ, l₂ᵢ₊₁): what a view saw of point i
abbrev pub pair : List Float → ℕ → List Float
pair l i = l ! (2 * i) ∷ l ! (2 * i + 1) ∷ []

-- what either view saw of point i
abbrev pub observation : List Float → List Float → View → ℕ → List Float
observation view1 view2 First i = pair view1 i
observation view1 view2 Second i = pair view2 i

-- point i with both observations and its inverse standard deviation
abbrev pub correspondence_at : Problem → ℕ → Correspondence
correspondence_at p i = record {
  point = triple p.points i;
  view1 = pair p.view1 i;
  view2 = pair p.view2 i;
  inverse_standard_deviation = p.inverse_standard_deviations ! i;
}

-- The projection of a point x by a view, with residual and Jacobian: by camera 1 of x, and by
-- camera 2 of R x + t, after `transform` and `project` of residual.rs.
unfoldable pub project : Rig → View → List Float → List Float → Result Projection Refusal
project rig First seen x = pixel_projection rig.camera1 seen x
project rig Second seen x =
    let rotated = rotate rig.pose.rotation x in
    pixel_projection rig.camera2 seen (camera_point rotated rig.pose.translation)
