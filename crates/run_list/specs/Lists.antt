-- The list of a run record: rows 14 and 15, then rows 3 to 9, then the lines. Met by
-- src/record/list.rt. docs/SPECIFICATION.md, "List".
use Rattle.std.specs.Prelude.{ℕ, zero, suc, ◌≤◌, ◌≡◌, Bool, false, if◌then◌else◌, nat_le}
use Rattle.std.specs.Prelude.{List, [], ◌++◌, length, Result, Ok, Err}
use Rattle.std.specs.Result.{result_and}
use Rattle.std.specs.Float.{NotNan}
use Rattle.refusal.specs.FirstRefusal.{CheckResult}
use Rattle.problem.specs.Problem.{Problem, count}
use Rattle.problem.specs.Checks as Checks
use Rattle.problem.specs.Letters.{letter_of}
use Rattle.schur.specs.declared.reduced_system.ReducedSystem.{ReducedSystem}
use Rattle.optimizer.specs.Assembly.{block_at, reduced_system}
use Rattle.run_record.specs.Form as Form
use Rattle.run_record.specs.Run.{run}
use Rattle.text.specs.Text.{with_text}
use Rattle.run_list.specs.Lines.{run_line, point_line, refused_line}
use Rattle.run_list.specs.SumLine.{sum_line}
use Rattle.run_list.specs.declared.record.list.TooSmall.{TooSmall}

-- the lines of points 0 to n − 1
unfoldable pub point_lines : Problem → ℕ → List ℕ
point_lines p zero = []
point_lines p (suc n) = point_lines p n ++ point_line n (letter_of (block_at p n) p.damping)

-- the lines of a run that is not refused: `run`, a `p` for each point, and the `sum` of its system
unfoldable pub lines_of : Problem → ReducedSystem → List ℕ
lines_of p s = run_line (count p) p.damping ++ point_lines p (count p) ++ sum_line s

-- the lines of a run by the result of its checks: its own, or the one of its refusal
abbrev pub lines_or_refusal : Problem → CheckResult → List ℕ
lines_or_refusal p (Ok x) = lines_of p (reduced_system p)
lines_or_refusal p (Err e) = refused_line e

-- rows 14 and 15, then rows 3 to 9 of the run: of its rows 1 and 2 neither can come up (`FromRow3`)
unfoldable pub check_record : List ℕ → CheckResult
check_record r = result_and (Form.check_form r) (Checks.check_problem (run r))

-- the list of a record
unfoldable pub list : List ℕ → List ℕ
list r = lines_or_refusal (run r) (check_record r)

-- no list has more bytes (`NoListIsLonger`), so that a buffer of so many always suffices
abbrev pub max_list : ℕ
max_list = 4057

-- neither number that the sum line of a record's run prints is NaN
pub record NeverNan (r : List ℕ) : Type 0 where
  pub cost : NotNan (reduced_system (run r)).cost
  pub squared : NotNan (reduced_system (run r)).squared_residual

-- whether the list of a record fits into a buffer
abbrev pub fits_in : List ℕ → List ℕ → Bool
fits_in r out = nat_le (length (list r)) (length out)

-- the length of the list if it fits, else how many bytes it needs
abbrev pub list_result : List ℕ → List ℕ → Result ℕ TooSmall
list_result r out =
    if fits_in r out then Ok (length (list r)) else Err (record { needed = length (list r) })

-- What `write_list` of a record r promises, which finds a buffer `out`, answers w and leaves
-- `after` in the buffer.
pub record WritesList (r out : List ℕ) (w : Result ℕ TooSmall) (after : List ℕ) : Type 0 where
  -- the list's length, or the bytes that it needs
  pub answer : w ≡ list_result r out
  -- of which there are never more than 4,057
  pub bound : length (list r) ≤ max_list
  -- the buffer begins with the list if it fits; else it stays as it was
  pub same_out : after ≡ (if fits_in r out then with_text out 0 (list r) else out)
