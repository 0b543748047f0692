-- The run that a record of the right form holds, as the two-view problem that it is: met
-- by src/payload.rt and src/run.rt. docs/SPECIFICATION.md, "Run record".
use Rattle.std.specs.Prelude.{ℕ, ◌+◌, ◌*◌, ◌/◌, ◌%◌, List, [], ◌∷◌, ◌++◌, Float}
use Rattle.std.specs.Float.{binary64}
use Rattle.std.specs.Float.Ieee.{of_bits}
use Rattle.numerics.specs.Vectors.{tabulate}
use Rattle.projection.specs.declared.PinholeCamera.{PinholeCamera}
use Rattle.linearization.specs.declared.views.RelativePose.{RelativePose}
use Rattle.linearization.specs.declared.views.Correspondence.{Correspondence}
use Rattle.problem.specs.declared.correspondences.Rig.{Rig}
use Rattle.problem.specs.Problem.{Problem, problem}
use Rattle.run_record.specs.declared.fields.Field.TheVariants.{Camera1, Camera2, Pose, Basis}
use Rattle.run_record.specs.declared.fields.Field.TheVariants.{Damping, Point}
use Rattle.run_record.specs.Fields.{byte, payload, point_at, point_fields}
use Rattle.run_record.specs.Fields.{camera1_at, camera2_at, pose_at, translation_basis_at}
use Rattle.run_record.specs.Fields.{damping_at}

-- ---- numbers of a payload

-- p₀ + 2⁸ p₁ + 2¹⁶ p₂ + 2²⁴ p₃, of the four bytes from an offset on
abbrev pub u32_at : List ℕ → ℕ → ℕ
u32_at p at =
    byte p at + 256 * byte p (at + 1) + 65536 * byte p (at + 2) + 16777216 * byte p (at + 3)

-- eight bytes, low byte first: the four low ones, and 2³² times the four high ones
unfoldable pub u64_at : List ℕ → ℕ → ℕ
u64_at p at = u32_at p at + 4294967296 * u32_at p (at + 4)

-- the binary64 number of these bits
unfoldable pub number_at : List ℕ → ℕ → Float
number_at p at = of_bits binary64 (u64_at p at)

-- n numbers, one after the other
abbrev pub numbers_at : List ℕ → ℕ → ℕ → List Float
numbers_at p at n = tabulate n (λ j. number_at p (at + 8 * j))

-- ---- what the payloads are

-- fx, fy, cx, cy, skew
unfoldable pub camera : List ℕ → PinholeCamera
camera p = record {
  fx = number_at p 0;
  fy = number_at p 8;
  cx = number_at p 16;
  cy = number_at p 24;
  skew = number_at p 32;
}

-- of the pose's payload: rotation (9), translation (3); of the basis's: two vectors (6), baseline
abbrev pub pose : List ℕ → List ℕ → RelativePose
pose p b = record {
  rotation = numbers_at p 0 9;
  translation = numbers_at p 72 3;
  translation_basis = numbers_at b 0 6;
  baseline = number_at b 48;
}

-- the point (3), what each view saw of it (2 and 2), the inverse standard deviation
abbrev pub correspondence : List ℕ → Correspondence
correspondence p = record {
  point = numbers_at p 0 3;
  view1 = numbers_at p 24 2;
  view2 = numbers_at p 40 2;
  inverse_standard_deviation = number_at p 56;
}

-- ---- the run of a record

-- the rig of fields 1 to 4
unfoldable pub rig : List ℕ → Rig
rig r = record {
  camera1 = camera (payload r Camera1 camera1_at);
  camera2 = camera (payload r Camera2 camera2_at);
  pose = pose (payload r Pose pose_at) (payload r Basis translation_basis_at);
}

-- the damping of field 5
abbrev pub damping : List ℕ → Float
damping r = number_at (payload r Damping damping_at) 0

-- Entry j of a flat list over the points, `each` numbers a point: number j % each of point
-- j / each, counted from byte `first` of its payload.
unfoldable pub column : List ℕ → ℕ → ℕ → ℕ → Float
column r first each j = number_at (payload r Point (point_at (j / each))) (first + 8 * (j % each))

-- the run with no more than its first n points
unfoldable pub first_points : List ℕ → ℕ → Problem
first_points r n =
    problem (tabulate (3 * n) (column r 0 3))
    (tabulate (2 * n) (column r 24 2))
    (tabulate (2 * n) (column r 40 2))
    (tabulate n (column r 56 1))
    (rig r)
    (damping r)

-- the run with all of its points
abbrev pub run : List ℕ → Problem
run r = first_points r (point_fields r)

-- ---- a run, point by point

-- a problem with one more point, whose numbers stand behind those of the others
unfoldable pub with_point : Problem → Correspondence → Problem
with_point p c = record p {
  points = p.points ++ c.point;
  view1 = p.view1 ++ c.view1;
  view2 = p.view2 ++ c.view2;
  inverse_standard_deviations =
      p.inverse_standard_deviations ++ c.inverse_standard_deviation ∷ [];
}
