-- The steps of all points for a step of the pose, and their sums as `candidate_cost` of
-- kernel/two_view/optimizer.rs has them. docs/SPECIFICATION.md, "Point step" and "Whole step".
use Rattle.std.specs.Prelude.{ℕ, zero, suc, List, [], ◌∷◌, ◌++◌, Float, Result}
use Rattle.refusal.specs.declared.Refusal.{Refusal}
use Rattle.numerics.specs.Binary64.{◌⊕◌, zero as zero·}
use Rattle.numerics.specs.Vectors.{◌!◌, sum}
use Rattle.linearization.specs.Linearize.{point_terms}
use Rattle.problem.specs.Problem.{Problem}
use Rattle.schur.specs.PointStep as Point
use Rattle.schur.specs.declared.point_step.PointStep.{PointStep}
use Rattle.optimizer.specs.Assembly.{block_at}
use Rattle.optimizer.specs.PoseStep.{square}
use Rattle.optimizer.specs.declared.point_steps.StepSums.{StepSums}

-- what the call for one point answers: the step of point i for the pose step s, or a refusal
abbrev pub answer_at : Problem → List Float → ℕ → Result PointStep Refusal
answer_at p s i = Point.point_step (block_at p i) p.damping s

-- the step of point i by the formulas alone, which is that answer where the system is valid
abbrev pub step_at : Problem → List Float → ℕ → PointStep
step_at p s i = Point.step_at (point_terms (block_at p i)) p.damping s

-- the steps of points 0 to n − 1 as one list, three numbers each
unfoldable pub steps_to : Problem → List Float → ℕ → List Float
steps_to p s zero = []
steps_to p s (suc n) = steps_to p s n ++ (step_at p s n).step

-- x₀² + x₁² + x₂²
abbrev pub squared_norm : List Float → Float
squared_norm x = sum (square (x ! 0) ∷ square (x ! 1) ∷ square (x ! 2) ∷ [])

-- over points 0 to n − 1, from +0: the sum of the squared lengths of the point steps, and the sum
-- of their damping norms
unfoldable pub sums_to : Problem → List Float → ℕ → StepSums
sums_to p s zero = record { squared = zero·; damping_norm = zero· }
sums_to p s (suc n) = record {
  squared = (sums_to p s n).squared ⊕ squared_norm (step_at p s n).step;
  damping_norm = (sums_to p s n).damping_norm ⊕ (step_at p s n).damping_norm;
}
