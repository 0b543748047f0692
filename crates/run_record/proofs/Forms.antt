-- The form of a record: what the tests of its fields say. Assumes nothing.
use Rattle.std.proofs.Common.{◌≡◌, refl, true, List, ℕ, zero, suc, ◌+◌, ◌*◌, ◌≤◌, arith, leb-true, leb, length, Ok}
use Rattle.std.proofs.lemmas.Bool.{and_parts}
use Rattle.refusal.specs.FirstRefusal.{refuse_unless, first_refusal_from}
use Rattle.refusal.specs.declared.Refusal.TheVariants.{RecordTooLong}
use Rattle.refusal.proofs.Scans.{after_ok, held, all_ok}
use Rattle.run_record.specs.declared.fields.Field.{Field}
use Rattle.run_record.specs.declared.fields.Field.TheVariants.{Camera1, Camera2, Pose, Basis, Damping, Point}
use Rattle.run_record.specs.Fields.{tag, size, point_at, point_fields, camera1_at, camera2_at, pose_at, translation_basis_at, damping_at}
use Rattle.run_record.specs.Form.{max_record, is_whole, check_field, check_header, check_form}

-- a field that is whole ends within the record
pub whole_fits : (r : List ℕ) (tag size start : ℕ) → is_whole r tag size start ≡ true → start + 3 + size ≤ length r
unfolding is_whole
whole_fits r tag size start e = leb-true (start + 3 + size) (length r) (and_parts _ _ (and_parts _ _ e).0).0

-- a field without a refusal ends within the record
pub field_fits : (r : List ℕ) (field : Field) (start : ℕ) → check_field r field start ≡ Ok tt → start + 3 + size field ≤ length r
field_fits r field start e = whole_fits r (tag field) (size field) start (held _ _ e)

-- what rows 14 and 15 leave: whole point fields to the end, and not too many
abbrev pub Formed : List ℕ → Type 0
Formed r = (length r ≡ point_at (point_fields r)) × (length r ≤ max_record)

pub formed : (r : List ℕ) → check_form r ≡ Ok tt → Formed r
unfolding check_form
formed r e =
    let long = after_ok (refuse_unless (leb (length r) max_record) RecordTooLong) _ e in
    let head = after_ok (check_header r) _ long.1 in
    let c1 = after_ok (check_field r Camera1 camera1_at) _ head.0 in
    let c2 = after_ok (check_field r Camera2 camera2_at) _ c1.1 in
    let p = after_ok (check_field r Pose pose_at) _ c2.1 in
    let b = after_ok (check_field r Basis translation_basis_at) _ p.1 in
    let l : length r ≤ max_record = leb-true (length r) max_record (held (leb (length r) max_record) RecordTooLong long.0) in
    let h : 255 ≤ length r = field_fits r Damping damping_at b.1 in
    (by (point_fields r) refl h head.1, l)
  where
    by : (n : ℕ) → n ≡ point_fields r → 255 ≤ length r → first_refusal_from (λ i. check_field r Point (point_at i)) 0 n ≡ Ok tt → length r ≡ point_at n
    by zero q h f = omega (arith, q)
    by (suc n) q h f =
        let k : 255 + 67 * n + 3 + 64 ≤ length r = field_fits r Point (point_at n) (all_ok (λ i. check_field r Point (point_at i)) (suc n) n (omega arith) f) in
        omega (arith, q)

-- a record of the right form has 512 points at most
pub few_points : (r : List ℕ) → Formed r → point_fields r ≤ 512
few_points r f = let e = f.0 in let h = f.1 in omega arith
