use Rattle.std.proofs.Common.{◌≡◌}
use Rattle.refusal.specs.FirstRefusal.{first_refusal_from}
use Rattle.refusal.proofs.Scans.{Scanned}
use Rattle.problem.specs.Problem.{count}
use Rattle.problem.specs.Checks.{check_observation}
use Rattle.problem.proofs.checks.check_observations.Given as goal

abbrev pub invariant-loop-index : goal.invariant-loop-index
invariant-loop-index l =
    let p = l.fitting in
    (l.index-end ≡ count p) × Scanned (first_refusal_from (check_observation p l.fn.view) 0 (count p)) (check_observation p l.fn.view) (count p) l.index
