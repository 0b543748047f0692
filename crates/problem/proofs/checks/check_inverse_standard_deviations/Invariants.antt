use Rattle.refusal.specs.FirstRefusal.{first_refusal_from}
use Rattle.refusal.proofs.Scans.{Scanned}
use Rattle.problem.specs.Problem.{count}
use Rattle.problem.specs.Checks.{check_inverse_standard_deviation}
use Rattle.problem.proofs.checks.check_inverse_standard_deviations.Given as goal

abbrev pub invariant-loop-i : goal.invariant-loop-i
invariant-loop-i l =
    let p = l.fitting in
    Scanned (first_refusal_from (check_inverse_standard_deviation p.inverse_standard_deviations) 0 (count p)) (check_inverse_standard_deviation p.inverse_standard_deviations) (count p) l.i
