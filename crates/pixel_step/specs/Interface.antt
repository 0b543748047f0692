-- The outcome of the list's call of the C interface, pixel_step/src/records.rt
-- (docs/SPECIFICATION.md, "C interface" and "List"). Those of the other calls are in `c_calls`:
-- `PointCalls`, `MatrixCalls`, `SystemCalls` and `StepCalls`.
use Rattle.std.specs.Prelude.{ℕ, ◌≡◌, if◌then◌else◌, List, nat_le, length}
use Rattle.text.specs.Text.{with_text}
use Rattle.run_list.specs.Lists.{list}

-- The call on a record r and a buffer `out` returns the length of the list of r. Where the list
-- fits in `out` it stands at the front afterwards, with the rest of `out` as it was; else `out` is
-- as it was.
pub record HasListOutcome (r out : List ℕ) (number : ℕ) (after : List ℕ) : Type 0 where
  pub same_number : number ≡ length (list r)
  pub same_out : after
      ≡ (if nat_le (length (list r)) (length out) then with_text out 0 (list r) else out)
