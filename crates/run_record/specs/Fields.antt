-- The fields of a run record: one tag byte, the payload's length in two bytes, low byte first, and
-- the payload. Met by src/fields.rt. docs/SPECIFICATION.md, "Run record".
use Rattle.std.specs.Prelude.{ℕ, ◌+◌, ◌*◌, ◌-◌, ◌/◌, List, length, slice_index, take, drop}
use Rattle.run_record.specs.declared.fields.Field.{Field}
use Rattle.run_record.specs.declared.fields.Field.TheVariants.{Camera1, Camera2, Pose, Basis}
use Rattle.run_record.specs.declared.fields.Field.TheVariants.{Damping, Point}

-- the byte at an offset, or 0 behind the end
abbrev pub byte : List ℕ → ℕ → ℕ
byte r i = slice_index r i

-- the byte that a field begins with
abbrev pub tag : Field → ℕ
tag Camera1 = 1
tag Camera2 = 2
tag Pose = 3
tag Basis = 4
tag Damping = 5
tag Point = 6

-- the bytes of its payload, eight for each number
abbrev pub size : Field → ℕ
size Camera1 = 40
size Camera2 = 40
size Pose = 96
size Basis = 56
size Damping = 8
size Point = 64

-- the byte where each field begins: 3 + size behind the field before it
abbrev pub camera1_at : ℕ
camera1_at = 0

abbrev pub camera2_at : ℕ
camera2_at = 43

abbrev pub pose_at : ℕ
pose_at = 86

abbrev pub translation_basis_at : ℕ
translation_basis_at = 185

abbrev pub damping_at : ℕ
damping_at = 244

abbrev pub points_at : ℕ
points_at = 255

-- the byte where the field of point i begins
abbrev pub point_at : ℕ → ℕ
point_at i = points_at + 67 * i

-- n, the number of point fields that begin within the record: ⌈(length − 255) ÷ 67⌉, where `-` ends
-- at 0
abbrev pub point_fields : List ℕ → ℕ
point_fields r = (length r - points_at + 66) / 67

-- the payload of the field that begins at a byte: what stands behind its tag and its length
abbrev pub payload : List ℕ → Field → ℕ → List ℕ
payload r field start = take (size field) (drop (start + 3) r)
