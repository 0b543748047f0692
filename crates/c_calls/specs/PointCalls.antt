-- The outcomes of the calls on a point, c_calls/src/block_calls.rt: row 1 unless every array has
-- its length, then what the call of the same name gives (docs/SPECIFICATION.md, "Projection",
-- "Linearization" and "Point step").
use Rattle.std.specs.Prelude.{◌&&◌, List, [], ◌∷◌, Float}
use Rattle.numerics.specs.Vectors.{◌!◌}
use Rattle.refusal.specs.Outcome.{Outcome, outcome}
use Rattle.refusal.specs.Chain.{map_ok}
use Rattle.projection.specs.PixelProjection as PixelProjection
use Rattle.linearization.specs.Linearize as Linearize
use Rattle.schur.specs.PointStep as PointStep
use Rattle.projection.specs.declared.Projection.{Projection}
use Rattle.schur.specs.declared.point_step.PointStep.{PointStep as PointStep·}
use Rattle.c_calls.specs.Layout.{camera, rig, correspondence, block}
use Rattle.c_calls.specs.LayoutNumbers.{block_numbers}
use Rattle.c_calls.specs.Outcomes.{if_lengths_fit, has_length}

-- the residual, then the Jacobian by rows
abbrev pub projection_numbers : Projection → List Float
projection_numbers p =
    let r = p.residual in
    let j = p.jacobian in
    r ! 0 ∷ r ! 1 ∷ j ! 0 ∷ j ! 1 ∷ j ! 2 ∷ j ! 3 ∷ j ! 4 ∷ j ! 5 ∷ []

-- the step, then its damping norm
abbrev pub point_step_numbers : PointStep· → List Float
point_step_numbers p = p.step ! 0 ∷ p.step ! 1 ∷ p.step ! 2 ∷ p.damping_norm ∷ []

-- the residual of a point in the camera's frame and the Jacobian by the point
unfoldable pub pixel_projection : List Float → List Float → List Float → List Float
    → Outcome (List Float)
pixel_projection c seen point out =
    let fits = has_length c 5 && has_length seen 2 && has_length point 3 && has_length out 8 in
    let projection = PixelProjection.pixel_projection (camera c) seen point in
    outcome out (if_lengths_fit fits (map_ok projection_numbers projection))

-- the block of a correspondence c before a rig r
unfoldable pub linearize_point : List Float → List Float → List Float → Outcome (List Float)
linearize_point r c out =
    let fits = has_length r 29 && has_length c 8 && has_length out 59 in
    let local = Linearize.linearize_point (rig r) (correspondence c) in
    outcome out (if_lengths_fit fits (map_ok block_numbers local))

-- the step of the point of a block b with a step of the pose
unfoldable pub point_step : List Float → Float → List Float → List Float → Outcome (List Float)
point_step b damping pose_step out =
    let fits = has_length b 59 && has_length pose_step 5 && has_length out 4 in
    let step = PointStep.point_step (block b) damping pose_step in
    outcome out (if_lengths_fit fits (map_ok point_step_numbers step))
