use Rattle.std.proofs.Common.{◌≡◌}
use Rattle.problem.specs.Problem.{count}
use Rattle.optimizer.specs.PointSteps.{sums_to}
use Rattle.optimizer.proofs.Passes.{Filled}
use Rattle.optimizer.proofs.point_steps.write_steps.Given as goal

abbrev pub invariant-loop-index : goal.invariant-loop-index
invariant-loop-index l =
    record {
      within : l.index-end ≡ count l.problem;
      filled : Filled l.problem l.pose_step l.index l.point_steps;
      squares : l.squared ≡ (sums_to l.problem l.pose_step l.index).squared;
      norms : l.damping_norm ≡ (sums_to l.problem l.pose_step l.index).damping_norm;
    }
