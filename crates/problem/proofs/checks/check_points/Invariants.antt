use Rattle.std.proofs.Common.{◌≡◌}
use Rattle.refusal.specs.FirstRefusal.{first_refusal_from}
use Rattle.refusal.proofs.Scans.{Scanned}
use Rattle.problem.specs.Problem.{count}
use Rattle.problem.specs.Checks.{check_point}
use Rattle.problem.proofs.checks.check_points.Given as goal

abbrev pub invariant-loop-index : goal.invariant-loop-index
invariant-loop-index l =
    let p = l.fitting in
    (l.index-end ≡ count p) × Scanned (first_refusal_from (check_point p.points) 0 (count p)) (check_point p.points) (count p) l.index
