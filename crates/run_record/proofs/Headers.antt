-- The fields before the points. Assumes nothing.
use Rattle.std.proofs.Common.{◌≡◌, refl, List, [], ℕ, Ok, Err}
use Rattle.std.specs.Result.{result_and}
use Rattle.refusal.specs.FirstRefusal.{CheckResult}
use Rattle.problem.specs.Problem.{Problem, problem}
use Rattle.run_record.specs.declared.fields.Field.{Field}
use Rattle.run_record.specs.declared.fields.Field.TheVariants.{Camera1, Camera2, Pose, Basis, Damping}
use Rattle.run_record.specs.Fields.{payload}
use Rattle.run_record.specs.Form.{check_field, check_header}
use Rattle.run_record.specs.Reads.{field_at}
use Rattle.run_record.specs.Run.{number_at, camera, pose, rig, first_points}

-- a payload is handed out of a field that is whole
pub handed_out : (r : List ℕ) (field : Field) (start : ℕ) (p : List ℕ) → field_at r field start ≡ Ok p → (check_field r field start ≡ Ok tt) × (payload r field start ≡ p)
handed_out r field start p = by (check_field r field start)
  where
    by : (x : CheckResult) → result_and x (Ok (payload r field start)) ≡ Ok p → (x ≡ Ok tt) × (payload r field start ≡ p)
    by (Ok tt) e = (refl, cc)
    by (Err f) e = absurd (cc)

pub header_read : (r c1 c2 p b d : List ℕ) (run : Problem)
    → field_at r Camera1 0 ≡ Ok c1 → field_at r Camera2 43 ≡ Ok c2 → field_at r Pose 86 ≡ Ok p → field_at r Basis 185 ≡ Ok b → field_at r Damping 244 ≡ Ok d
    → run ≡ problem [] [] [] [] (record { camera1 = camera c1; camera2 = camera c2; pose = pose p b }) (number_at d 0)
    → Ok run ≡ result_and (check_header r) (Ok (first_points r 0))
unfolding first_points rig
header_read r c1 c2 p b d run h1 h2 h3 h4 h5 e =
    let k1 = handed_out r Camera1 0 c1 h1 in
    let k2 = handed_out r Camera2 43 c2 h2 in
    let k3 = handed_out r Pose 86 p h3 in
    let k4 = handed_out r Basis 185 b h4 in
    let k5 = handed_out r Damping 244 d h5 in
    rw (k1.0, k2.0, k3.0, k4.0, k5.0, k1.1, k2.1, k3.1, k4.1, k5.1, e) refl
