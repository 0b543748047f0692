-- What a call that can refuse gives, as one value: its row and the values beside it.
-- docs/SPECIFICATION.md, "Refusals". Number, view and index are 0 where nothing is refused. Beside
-- a refusal stands what is handed in as `refused`: +0 everywhere for a call that makes something,
-- the system as it was for one that changes a system, and what memory held for one that writes lent
-- memory.
use Rattle.std.specs.Prelude.{Result, Ok, Err}
use Rattle.refusal.specs.declared.Refusal.{Refusal}
use Rattle.refusal.specs.declared.Row.{Row}
use Rattle.refusal.specs.RefusalRow.{row_of, row}

-- a row, 0 where nothing is refused, and the values beside it
pub record Outcome (A : Type 0) : Type 0 where
  pub row : Row
  pub values : A

-- (0, x) of a result x, and (r's row, refused) of a refusal r
abbrev pub outcome : {A : Type 0} → A → Result A Refusal → Outcome A
outcome refused (Ok x) = record { row = row_of 0; values = x }
outcome refused (Err r) = record { row = row r; values = refused }
