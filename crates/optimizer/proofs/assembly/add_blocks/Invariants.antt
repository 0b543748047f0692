use Rattle.std.proofs.Common.{◌≡◌, true}
use Rattle.problem.specs.Problem.{count}
use Rattle.problem.specs.Checks.{AcceptsFirst}
use Rattle.optimizer.specs.Assembly.{system_to}
use Rattle.optimizer.proofs.assembly.add_blocks.Given as goal

abbrev pub invariant-loop-index : goal.invariant-loop-index
invariant-loop-index l =
    record {
      within : l.index-end ≡ count l.problem;
      system : l.system ≡ system_to l.problem l.index;
      accepted : l.accepted ≡ true → AcceptsFirst l.problem l.index;
      each : AcceptsFirst l.problem l.index → l.accepted ≡ true;
    }
