-- A refusal by its numbers: row, view (1 or 2) and index (from 0). A part that says nothing of the
-- row at hand is 0. docs/SPECIFICATION.md, "Refusals". Mirrors `Refusal::row` of src/lib.rt.
use Rattle.std.specs.Prelude.{ℕ, List, ◌++◌, codes}
use Rattle.std.specs.Fmt.{decimal}
use Rattle.refusal.specs.RowNumbers as RowNumbers
use Rattle.refusal.specs.declared.Row.{Row}
use Rattle.refusal.specs.declared.View.{View}
use Rattle.refusal.specs.declared.View.TheVariants.{First, Second}
use Rattle.refusal.specs.declared.Refusal.{Refusal}
use Rattle.refusal.specs.declared.Refusal.TheVariants.{Lengths, TooManyPoints, Damping}
use Rattle.refusal.specs.declared.Refusal.TheVariants.{InverseStandardDeviation, Baseline, Point}
use Rattle.refusal.specs.declared.Refusal.TheVariants.{TooFewPoints, Observation, NotProjectable}
use Rattle.refusal.specs.declared.Refusal.TheVariants.{PointNotProjectable, NotFactored, NotSolved}
use Rattle.refusal.specs.declared.Refusal.TheVariants.{WeakCount, Full, RecordTooLong, RecordForm}

-- (number, view, index)
abbrev pub row_at : ℕ → ℕ → ℕ → Row
row_at number view index = record { number = number; view = view; index = index }

-- (number, 0, 0)
abbrev pub row_of : ℕ → Row
row_of number = row_at number 0 0

-- the number of a view
abbrev pub view_number : View → ℕ
view_number First = 1
view_number Second = 2

-- the row of each refusal, in the order of the rows' numbers; row 9 has a view, and none where a
-- point is projected in one camera alone
unfoldable pub row : Refusal → Row
row Lengths = row_of RowNumbers.lengths
row TooManyPoints = row_of RowNumbers.too_many_points
row Damping = row_of RowNumbers.damping
row (InverseStandardDeviation i) = row_at RowNumbers.inverse_standard_deviation 0 i
row Baseline = row_of RowNumbers.baseline
row (Point i) = row_at RowNumbers.point 0 i
row TooFewPoints = row_of RowNumbers.too_few_points
row (Observation v i) = row_at RowNumbers.observation (view_number v) i
row NotProjectable = row_of RowNumbers.projection
row (PointNotProjectable v i) = row_at RowNumbers.projection (view_number v) i
row NotFactored = row_of RowNumbers.not_factored
row NotSolved = row_of RowNumbers.not_solved
row WeakCount = row_of RowNumbers.weak_count
row Full = row_of RowNumbers.full
row RecordTooLong = row_of RowNumbers.record_too_long
row (RecordForm i) = row_at RowNumbers.record_form 0 i

-- the text `refused NUMBER VIEW INDEX`, its numbers in decimal
abbrev pub refusal_text : Refusal → List ℕ
refusal_text r =
    let numbers = row r in
    codes "refused " ++ decimal numbers.number ++ codes " " ++ decimal numbers.view ++ codes " "
    ++ decimal numbers.index
