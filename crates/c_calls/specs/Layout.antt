-- The layouts of docs/SPECIFICATION.md, "C interface", as c_calls/src/layout.rt reads them: flat
-- numbers from place 0 on, in the order in which each record has its fields here. `LayoutNumbers`
-- writes blocks and systems in the same order.
use Rattle.std.specs.Prelude.{ℕ, not, List, ◌==◌, slice_index, Float}
use Rattle.numerics.specs.Vectors.{◌!◌}
use Rattle.c_calls.specs.Slices.{part}
use Rattle.projection.specs.declared.PinholeCamera.{PinholeCamera}
use Rattle.linearization.specs.declared.views.Correspondence.{Correspondence}
use Rattle.linearization.specs.declared.linearize.LocalLinearization.{LocalLinearization}
use Rattle.linearization.specs.declared.views.Rig.{Rig}
use Rattle.schur.specs.declared.reduced_system.ReducedSystem.{ReducedSystem}

-- camera (5): fx, fy, cx, cy, skew
abbrev pub camera : List Float → PinholeCamera
camera x = record { fx = x ! 0; fy = x ! 1; cx = x ! 2; cy = x ! 3; skew = x ! 4 }

-- rig (29): camera 1 (5), camera 2 (5), rotation by rows (9), translation (3), the two vectors of
-- the translation basis (6), baseline
unfoldable pub rig : List Float → Rig
rig x = record {
  camera1 = camera (part 0 5 x);
  camera2 = camera (part 5 5 x);
  pose = record {
    rotation = part 10 9 x;
    translation = part 19 3 x;
    translation_basis = part 22 6 x;
    baseline = x ! 28;
  };
}

-- correspondence (8): point (3), view 1 (2), view 2 (2), inverse standard deviation
unfoldable pub correspondence : List Float → Correspondence
correspondence x = record {
  point = part 0 3 x;
  view1 = part 3 2 x;
  view2 = part 5 2 x;
  inverse_standard_deviation = x ! 7;
}

-- block (59): the two Hessians of pose and point and the cross Hessian between them, by rows; the
-- two gradients; cost and squared residual
unfoldable pub block : List Float → LocalLinearization
block x = record {
  pose_hessian = part 0 25 x;
  cross_hessian = part 25 15 x;
  point_hessian = part 40 9 x;
  pose_gradient = part 49 5 x;
  point_gradient = part 54 3 x;
  cost = x ! 57;
  squared_residual = x ! 58;
}

-- system (45), and counts (3): weak point count, block count, and the flag, which is false where it
-- is 0 and true at any other number
unfoldable pub system : List Float → List ℕ → ReducedSystem
system x counts = record {
  hessian = part 0 25 x;
  gradient = part 25 5 x;
  cost = x ! 30;
  squared_residual = x ! 31;
  full_pose_gradient = part 32 5 x;
  pose_diagonal = part 37 5 x;
  point_model_reduction = x ! 42;
  scaled_point_gradient_inf_norm = x ! 43;
  minimum_point_rcond = x ! 44;
  weak_point_count = slice_index counts 0;
  block_count = slice_index counts 1;
  valid = not (slice_index counts 2 == 0);
}
