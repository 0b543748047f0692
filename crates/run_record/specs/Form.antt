-- The form of a run record, rows 14 and 15: fields 1 to 5 in order, once each, then a field for
-- each point to the end. Met by src/reader.rt and src/run.rt. docs/SPECIFICATION.md, "Run record".
use Rattle.std.specs.Prelude.{ℕ, ◌+◌, ◌*◌, Bool, ◌&&◌, List, [], ◌∷◌, ◌==◌, nat_le, length}
use Rattle.refusal.specs.FirstRefusal.{CheckResult, refuse_unless}
use Rattle.refusal.specs.FirstRefusal.{first_refusal, first_refusal_from}
use Rattle.refusal.specs.declared.Refusal.TheVariants.{RecordTooLong, RecordForm}
use Rattle.run_record.specs.declared.fields.Field.{Field}
use Rattle.run_record.specs.declared.fields.Field.TheVariants.{Camera1, Camera2, Pose, Basis}
use Rattle.run_record.specs.declared.fields.Field.TheVariants.{Damping, Point}
use Rattle.run_record.specs.Fields.{tag, size, byte, point_at, point_fields}
use Rattle.run_record.specs.Fields.{camera1_at, camera2_at, pose_at, translation_basis_at}
use Rattle.run_record.specs.Fields.{damping_at}

-- the most bytes of a record: 255 + 67 · 512, that is 512 points
abbrev pub max_record : ℕ
max_record = 34559

-- A field of a tag and a size is whole at a byte s if it ends within the record, byte s is the tag,
-- and bytes s + 1 and s + 2 are the size, low byte first. Otherwise it is broken.
unfoldable pub is_whole : List ℕ → ℕ → ℕ → ℕ → Bool
is_whole r tag size s =
    nat_le (s + 3 + size) (length r)
    && byte r s == tag
    && byte r (s + 1) + 256 * byte r (s + 2) == size

-- row 15: the field that is due at a byte is broken; the index is that byte, which is the record's
-- length where the record ends there
abbrev pub check_field : List ℕ → Field → ℕ → CheckResult
check_field r field start =
    refuse_unless (is_whole r (tag field) (size field) start) (RecordForm start)

-- row 15 for the five fields before the points: the first one that is broken
abbrev pub check_header : List ℕ → CheckResult
check_header r =
    first_refusal (
    check_field r Camera1 camera1_at
    ∷ check_field r Camera2 camera2_at
    ∷ check_field r Pose pose_at
    ∷ check_field r Basis translation_basis_at
    ∷ check_field r Damping damping_at
    ∷ [])

-- row 15 for the points' fields: the first one that is broken
abbrev pub check_points : List ℕ → CheckResult
check_points r = first_refusal_from (λ i. check_field r Point (point_at i)) 0 (point_fields r)

-- Row 14, then row 15. Row 14: more than 34,559 bytes.
unfoldable pub check_form : List ℕ → CheckResult
check_form r =
    first_refusal (
    refuse_unless (nat_le (length r) max_record) RecordTooLong
    ∷ check_header r
    ∷ check_points r
    ∷ [])
