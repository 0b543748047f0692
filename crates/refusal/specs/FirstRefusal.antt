-- The first refusal of several checks: of all rows that apply, the first in the call's order, and
-- of all indexes the lowest. docs/SPECIFICATION.md, "Refusals".
use Rattle.std.specs.Prelude.{ℕ, zero, suc, Bool, if◌then◌else◌, List, [], ◌∷◌, Result, Ok, Err}
use Rattle.std.specs.Result.{result_and}
use Rattle.refusal.specs.declared.Refusal.{Refusal}

-- what a check gives: nothing, where it passes, or why it refuses
abbrev pub CheckResult : Type 0
CheckResult = Result (Unit {0}) Refusal

-- refuses with r unless a condition holds
abbrev pub refuse_unless : Bool → Refusal → CheckResult
refuse_unless valid r = if valid then Ok tt else Err r

-- the first refusal of a list of checks, r₀ and then r₁ and so on, where `result_and r s` is the
-- refusal of r, or s where r has none
abbrev pub first_refusal : List CheckResult → CheckResult
first_refusal [] = Ok tt
first_refusal (r ∷ []) = r
first_refusal (r ∷ s ∷ rs) = result_and r (first_refusal (s ∷ rs))

-- the first refusal of check i, check (i + 1), .., check (i + left − 1)
unfoldable pub first_refusal_from : (ℕ → CheckResult) → ℕ → ℕ → CheckResult
first_refusal_from check i zero = Ok tt
first_refusal_from check i (suc left) = result_and (check i) (first_refusal_from check (suc i) left)
