-- What the reader of src/reader.rt hands out, field by field. docs/SPECIFICATION.md, "Run record".
use Rattle.std.specs.Prelude.{ℕ, List, Result, Ok}
use Rattle.std.specs.Result.{result_and}
use Rattle.std.specs.Borrow.{Bor}
use Rattle.refusal.specs.Chain.{map_ok}
use Rattle.refusal.specs.declared.Refusal.{Refusal}
use Rattle.run_record.specs.Fields.{payload}
use Rattle.run_record.specs.Form.{check_field}
use Rattle.run_record.specs.declared.fields.Field.{Field}

-- the payload of the field that is due at a byte; row 15 where that field is broken
abbrev pub field_at : List ℕ → Field → ℕ → Result (List ℕ) Refusal
field_at r field start = result_and (check_field r field start) (Ok (payload r field start))

-- the bytes of a payload that is handed out as a slice
abbrev pub bytes_of : Result (Bor (List ℕ)) Refusal → Result (List ℕ) Refusal
bytes_of handed = map_ok (λ slice. slice.now) handed
