-- How the reader of a record goes on in its bytes: met by src/reader.rt.
use Rattle.std.specs.Prelude.{ℕ, ◌+◌, ◌≡◌}
use Rattle.run_record.specs.Fields.{size}
use Rattle.run_record.specs.declared.fields.Field.{Field}
use Rattle.run_record.specs.declared.reader.Reader.{Reader}

-- the reader reads the same bytes as before, and stands at a place
abbrev pub MovesTo : Reader → Reader → ℕ → Type 0
MovesTo old new at = (new.bytes ≡ old.bytes) × (new.at ≡ at)

-- it stands behind the field at its place: three bytes and the payload
abbrev pub MovesPast : Reader → Reader → Field → Type 0
MovesPast old new field = MovesTo old new (old.at + 3 + size field)
