-- The run of a record of the right form never meets row 1 or 2. Assumes nothing.
use Rattle.std.proofs.Common.{◌≡◌, refl, List, ℕ, ◌*◌, arith, eq-eqb, le-leb, Ok}
use Rattle.numerics.proofs.Fill.{length_tabulate}
use Rattle.problem.specs.Checks.{max_points, check_values, check_problem}
use Rattle.run_record.specs.Fields.{point_fields}
use Rattle.run_record.specs.Form as Form
use Rattle.run_record.proofs.Forms.{formed, few_points}
use Rattle.run_record.specs.Run.{column, first_points, run}

pub from_row_3 : (r : List ℕ) → Form.check_form r ≡ Ok tt → check_problem (run r) ≡ check_values (run r)
unfolding check_problem first_points
from_row_3 r e =
    let n = point_fields r in
    let few = few_points r (formed r e) in
    rw (length_tabulate n (column r 56 1), length_tabulate (3 * n) (column r 0 3), length_tabulate (2 * n) (column r 24 2), length_tabulate (2 * n) (column r 40 2))
    (rw (eq-eqb (3 * n) (3 * n) refl, eq-eqb (2 * n) (2 * n) refl, le-leb n max_points (omega arith)) refl)
