-- The outcome of a call of the C interface, for c_calls/src/outcomes.rt: a refusal as one number,
-- and row 1 before all others (docs/SPECIFICATION.md, "C interface").
use Rattle.std.specs.Prelude.{ℕ, ◌+◌, ◌*◌, ◌≡◌, Bool, if◌then◌else◌, ◌==◌}
use Rattle.std.specs.Prelude.{List, length, Result, Err}
use Rattle.refusal.specs.Outcome.{Outcome}
use Rattle.refusal.specs.declared.Row.{Row}
use Rattle.refusal.specs.declared.Refusal.{Refusal}
use Rattle.refusal.specs.declared.Refusal.TheVariants.{Lengths}

-- code = number + 256 · view + 65,536 · index, which is 0 where nothing is refused
unfoldable pub code : Row → ℕ
code r = r.number + 256 * r.view + 65536 * r.index

-- A call meets an outcome: the number that it returns is the code of the outcome's row, and after
-- it `out` holds the outcome's values. Beside a refusal these are what `out` held before.
pub record HasOutcome {A : Type 0} (number : ℕ) (out : A) (a : Outcome A) : Type 0 where
  pub same_number : number ≡ code a.row
  pub same_out : out ≡ a.values

-- row 1 unless every length fits; else what the call gives by itself
abbrev pub if_lengths_fit : {A : Type 0} → Bool → Result A Refusal → Result A Refusal
if_lengths_fit fits r = if fits then r else Err Lengths

-- the list has n entries
abbrev pub has_length : {A : Type 0} → List A → ℕ → Bool
has_length l n = (length l) == n
