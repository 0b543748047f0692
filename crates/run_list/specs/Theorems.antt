-- The theorems about the list of every record, each cited by the function of its name in
-- src/theorems.rt. docs/SPECIFICATION.md, "List" and "Run record".
use Rattle.std.specs.Prelude.{ℕ, ◌+◌, ◌≤◌, ◌≡◌, List, length, take, Ok}
use Rattle.problem.specs.Checks as Checks
use Rattle.run_record.specs.Form as Form
use Rattle.run_record.specs.Run.{run}
use Rattle.run_list.specs.Lists.{check_record, list, max_list, NeverNan}

-- No list has more than 4,057 bytes: 25 for `run` with 512 points, 3,986 for their lines, 46 for
-- `sum`.
abbrev pub NoListIsLonger : Type 0
NoListIsLonger = (r : List ℕ) → length (list r) ≤ max_list

-- The cost and the squared residual that a list prints are never NaN: no row refuses the record.
abbrev pub SumsAreNeverNan : Type 0
SumsAreNeverNan = (r : List ℕ) → check_record r ≡ Ok tt → NeverNan r

-- The first 34,560 bytes of a record, one more than the longest record has, decide its list.
abbrev pub PrefixDecides : Type 0
PrefixDecides = (r : List ℕ) → list (take (Form.max_record + 1) r) ≡ list r

-- The run of a record that passes rows 14 and 15 never meets row 1 or 2: its lists have the lengths
-- that its points ask for, and it has 512 points at most.
abbrev pub FromRow3 : Type 0
FromRow3 =
    (r : List ℕ) → Form.check_form r ≡ Ok tt
    → Checks.check_problem (run r) ≡ Checks.check_values (run r)
