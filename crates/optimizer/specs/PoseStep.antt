-- The step of the pose, limited in length: `limit_pose_step` of kernel/two_view/optimizer.rs.
-- docs/SPECIFICATION.md, "Whole step".
use Rattle.std.specs.Prelude.{if◌then◌else◌, List, [], ◌∷◌, Float}
use Rattle.std.specs.Float.Ieee.{neg, lt}
use Rattle.numerics.specs.Binary64.{◌⊗◌, ◌⊘◌, half}
use Rattle.root.specs.Root.{sqrt}
use Rattle.numerics.specs.Vectors.{◌!◌, sum, tabulate}
use Rattle.numerics.specs.Extrema.{max}

-- x²
abbrev pub square : Float → Float
square x = x ⊗ x

-- the longer of the two parts: max(√(x₀² + x₁² + x₂²), √(x₃² + x₄²)), rotation and translation
abbrev pub step_length : List Float → Float
step_length x =
    max (sqrt (sum (square (x ! 0) ∷ square (x ! 1) ∷ square (x ! 2) ∷ [])))
    (sqrt (sum (square (x ! 3) ∷ square (x ! 4) ∷ [])))

-- by · x
abbrev pub scaled_step : List Float → Float → List Float
scaled_step x by = tabulate 5 (λ i. x ! i ⊗ by)

-- (½ ÷ length) · x where the length is above ½, else x. A NaN is not above ½, so that a vector
-- whose length is NaN stays.
unfoldable pub limit_pose_step : List Float → List Float
limit_pose_step x =
    if lt half (step_length x) then scaled_step x (half ⊘ step_length x) else x

-- the pose step of a solution x of the reduced system: −x, limited
unfoldable pub negated_limited_step : List Float → List Float
negated_limited_step x = limit_pose_step (tabulate 5 (λ i. neg (x ! i)))
