use Rattle.std.proofs.Common.{◌≡◌, Ok}
use Rattle.refusal.specs.FirstRefusal.{first_refusal_from}
use Rattle.refusal.proofs.Scans.{Scanned}
use Rattle.problem.specs.Problem.{count}
use Rattle.problem.specs.Checks.{check_projection}
use Rattle.problem.proofs.Parts.{check_at}
use Rattle.problem.proofs.checks.check_projections.Given as goal

abbrev pub invariant-views : goal.invariant-views
invariant-views l =
    let p = l.fitting in
    (l.checked ≡ Ok tt) × Scanned (check_projection p l.index) (check_at p l.index) 2 l.view-index

abbrev pub invariant-points : goal.invariant-points
invariant-points l =
    let p = l.fitting in
    (l.checked ≡ Ok tt) × (l.index-end ≡ count p) × Scanned (first_refusal_from (check_projection p) 0 (count p)) (check_projection p) (count p) l.index
