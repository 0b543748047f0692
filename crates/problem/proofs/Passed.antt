-- What rows 1 to 9 leave. Assumes nothing.
use Rattle.std.proofs.Common.{◌≡◌, refl, ◌∙◌, true, ◌&&◌, ℕ, ◌*◌, ◌≤◌, ◌<◌, eqb-true, leb-true, eq-eqb, eqb, leb, le→leb, Ok, Err, is_ok}
use Rattle.std.specs.Result.{result_and}
use lib.Ieee.Bits.{is_true}
use Rattle.std.proofs.lemmas.Bool.{and_parts}
use Rattle.numerics.specs.Vectors.{◌!◌, all_finite}
use Rattle.refusal.specs.FirstRefusal.{CheckResult, refuse_unless, first_refusal_from}
use Rattle.refusal.specs.declared.Refusal.{Refusal}
use Rattle.projection.specs.PixelProjection.{pixel_projection}
use Rattle.projection.proofs.Laws.{point_finite, observation_finite}
use Rattle.refusal.specs.declared.View.TheVariants.{First, Second}
use Rattle.refusal.specs.declared.Refusal.TheVariants.{Lengths, TooManyPoints, Damping, InverseStandardDeviation, Baseline, TooFewPoints, PointNotProjectable}
use Rattle.point_block.specs.Damping.{is_valid_damping}
use Rattle.linearization.specs.Views.{is_valid_inverse_standard_deviation, point_in_camera2, check_views}
use Rattle.linearization.proofs.Tested.{accepted_is}
use Rattle.linearization.specs.Linearize.{block_of, linearize_point}
use Rattle.problem.specs.Problem.{Problem, count, triple, pair, correspondence_at, project}
use Rattle.problem.specs.Checks.{has_matching_lengths, min_points, max_points, HasMatchingLengths, AcceptsFirst, is_valid_baseline, check_inverse_standard_deviation, check_point, check_observation, check_view, check_projection, check_both_views, check_values, check_readable, check_problem}
use Rattle.refusal.proofs.Scans.{after_ok, held, all_ok, passes}

all_fit : (p v w n : ℕ) → (eqb p (3 * n) && eqb v (2 * n) && eqb w (2 * n)) ≡ true → leb n max_points ≡ true → (p ≡ 3 * n) × (v ≡ 2 * n) × (w ≡ 2 * n) × (n ≤ max_points)
all_fit p v w n t h =
    let one = and_parts (eqb p (3 * n) && eqb v (2 * n)) (eqb w (2 * n)) t in
    let two = and_parts (eqb p (3 * n)) (eqb v (2 * n)) one.0 in
    (eqb-true p (3 * n) two.0, eqb-true v (2 * n) two.1, eqb-true w (2 * n) one.1, leb-true n max_points h)

-- what a problem is that rows 1 to 9 let through
pub record Passed (p : Problem) : Type 0 where
  pub fits : HasMatchingLengths p
  pub damping : is_valid_damping p.damping ≡ true
  pub inverse_standard_deviations : first_refusal_from (check_inverse_standard_deviation p.inverse_standard_deviations) 0 (count p) ≡ Ok tt
  pub projections : first_refusal_from (check_projection p) 0 (count p) ≡ Ok tt

pub passed : (p : Problem) → check_problem p ≡ Ok tt → Passed p
unfolding check_problem check_values check_both_views
passed p e =
    let lengths = after_ok (refuse_unless (has_matching_lengths p) Lengths) _ e in
    let points = after_ok (refuse_unless (leb (count p) max_points) TooManyPoints) (check_values p) lengths.1 in
    let damping = after_ok (refuse_unless (is_valid_damping p.damping) Damping) _ points.1 in
    let inverse_standard_deviations = after_ok (first_refusal_from (check_inverse_standard_deviation p.inverse_standard_deviations) 0 (count p)) _ damping.1 in
    let baseline = after_ok (refuse_unless (is_valid_baseline p.rig.pose.baseline) Baseline) _ inverse_standard_deviations.1 in
    let coordinates = after_ok (first_refusal_from (check_point p.points) 0 (count p)) _ baseline.1 in
    let few = after_ok (refuse_unless (leb min_points (count p)) TooFewPoints) (check_both_views p) coordinates.1 in
    let view1 = after_ok (first_refusal_from (check_observation p First) 0 (count p)) _ few.1 in
    let view2 = after_ok (first_refusal_from (check_observation p Second) 0 (count p)) _ view1.1 in
    record {
      fits = let f = all_fit _ _ _ _ (held (has_matching_lengths p) Lengths lengths.0) (held (leb (count p) max_points) TooManyPoints points.0) in record { points = f.0; view1 = f.1; view2 = f.2; most = f.3 };
      damping = held (is_valid_damping p.damping) Damping damping.0;
      inverse_standard_deviations = inverse_standard_deviations.0;
      projections = view2.1;
    }

-- each of its points has a block
pub block_made : (p : Problem) → check_problem p ≡ Ok tt → (i : ℕ) → i < count p → linearize_point p.rig (correspondence_at p i) ≡ Ok (block_of p.rig (correspondence_at p i))
unfolding linearize_point check_views project
block_made p e i h =
    let k = passed p e in
    let deviation = held (is_valid_inverse_standard_deviation (p.inverse_standard_deviations ! i)) (InverseStandardDeviation i) (all_ok (check_inverse_standard_deviation p.inverse_standard_deviations) (count p) i h k.inverse_standard_deviations) in
    let both = after_ok (check_view p i First) (check_view p i Second) (all_ok (check_projection p) (count p) i h k.projections) in
    let first = held _ (PointNotProjectable First i) both.0 in
    let second = held _ (PointNotProjectable Second i) both.1 in
    rw (deviation, first, second) refl

-- ---- row by row

-- what rows 1 to 3 refuse
pub refused_first : (p : Problem) (e : Refusal) → check_readable p ≡ Err e → check_problem p ≡ Err e
unfolding check_readable check_problem check_values
refused_first p e = by (refuse_unless (has_matching_lengths p) Lengths) (refuse_unless (leb (count p) max_points) TooManyPoints) (refuse_unless (is_valid_damping p.damping) Damping) _
  where
    by : (a b c rest : CheckResult) → result_and a (result_and b c) ≡ Err e → result_and a (result_and b (result_and c rest)) ≡ Err e
    by (Err x) b c rest k = k
    by (Ok u) (Err x) c rest k = k
    by (Ok u) (Ok v) (Err x) rest k = k
    by (Ok u) (Ok v) (Ok w) rest k = absurd (cc)

-- where the lengths fit, rows 3 to 9 decide
pub fitting_check : (p : Problem) → HasMatchingLengths p → check_problem p ≡ check_values p
unfolding check_problem
fitting_check p f = rw (eq-eqb _ _ f.points, eq-eqb _ _ f.view1, eq-eqb _ _ f.view2, is_true _ (le→leb _ _ f.most)) refl

-- A problem whose points need not be looked at again: rows 1 to 3, 5 and 7 let it through, and
-- rows 4 and 9 each point by itself.
module _ (p : Problem) (fits : HasMatchingLengths p) (damping : is_valid_damping p.damping ≡ true) (rest : (is_valid_baseline p.rig.pose.baseline && leb min_points (count p)) ≡ true)
    (accepted : AcceptsFirst p (count p)) where
  -- what the tests of a point's views say
  record Seen (i : ℕ) : Type 0 where
    deviation : is_valid_inverse_standard_deviation (p.inverse_standard_deviations ! i) ≡ true
    view1 : is_ok (pixel_projection p.rig.camera1 (pair p.view1 i) (triple p.points i)) ≡ true
    view2 : is_ok (pixel_projection p.rig.camera2 (pair p.view2 i) (point_in_camera2 p.rig (correspondence_at p i))) ≡ true

  seen : (i : ℕ) → i < count p → Seen i
  seen i h =
      let e = and_parts _ _ (accepted_is p.rig (correspondence_at p i) ∙ accepted i h) in
      let d = and_parts _ _ e.0 in
      record { deviation = d.0; view1 = d.1; view2 = e.1 }

  pub accepted_passes : check_problem p ≡ Ok tt
  unfolding check_values check_both_views all_finite project
  accepted_passes =
      let r = and_parts (is_valid_baseline p.rig.pose.baseline) (leb min_points (count p)) rest in
      let n = count p in
      fitting_check p fits
      ∙ rw (
        damping,
        passes (check_inverse_standard_deviation p.inverse_standard_deviations) n (λ i h. rw ((seen i h).deviation) refl),
        r.0,
        passes (check_point p.points) n (λ i h. let x = point_finite _ _ _ (seen i h).view1 in rw (is_true _ x.0, is_true _ x.1, is_true _ x.2) refl),
        r.1,
        passes (check_observation p First) n (λ i h. let x = observation_finite _ _ _ (seen i h).view1 in rw (is_true _ x.0, is_true _ x.1) refl),
        passes (check_observation p Second) n (λ i h. let x = observation_finite _ _ _ (seen i h).view2 in rw (is_true _ x.0, is_true _ x.1) refl),
        passes (check_projection p) n (λ i h. rw ((seen i h).view1, (seen i h).view2) refl),
      ) refl
