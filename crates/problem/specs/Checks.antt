-- Rows 1 to 9 of a two-view problem, the rows of a whole step that look at no sum; met by
-- src/checks.rt, after the tests that `refine_dispatch` of kernel/two_view/optimizer.rs makes and
-- calls, and `project` of residual.rs.
-- The first row whose condition holds is given, and within a row the lowest index.
-- docs/SPECIFICATION.md, "Refusals". Row 1 of the memory for the point steps is tested by the whole
-- step itself.
use Rattle.std.specs.Prelude.{ℕ, ◌*◌, ◌<◌, ◌≤◌, ◌≡◌, Bool, IsTrue, not, ◌&&◌, ◌==◌, nat_le}
use Rattle.std.specs.Prelude.{List, [], ◌∷◌, length, Float}
use Rattle.std.specs.Result.{is_ok}
use Rattle.std.specs.Float.Ieee.{le}
use Rattle.numerics.specs.Binary64.{relative_tolerance}
use Rattle.std.specs.Float.{float_is_finite}
use Rattle.numerics.specs.Vectors.{◌!◌, all_finite}
use Rattle.refusal.specs.FirstRefusal.{CheckResult, refuse_unless}
use Rattle.refusal.specs.FirstRefusal.{first_refusal, first_refusal_from}
use Rattle.refusal.specs.declared.View.{View}
use Rattle.refusal.specs.declared.View.TheVariants.{First, Second}
use Rattle.refusal.specs.declared.Refusal.TheVariants.{Lengths, TooManyPoints, Damping}
use Rattle.refusal.specs.declared.Refusal.TheVariants.{InverseStandardDeviation, Baseline, Point}
use Rattle.refusal.specs.declared.Refusal.TheVariants.{TooFewPoints, Observation}
use Rattle.refusal.specs.declared.Refusal.TheVariants.{PointNotProjectable}
use Rattle.point_block.specs.Damping.{is_valid_damping}
use Rattle.linearization.specs.Views.{is_valid_inverse_standard_deviation, check_views}
use Rattle.problem.specs.Problem.{Problem, count, triple, observation, correspondence_at, project}

-- a problem has 5 to 65,535 points
abbrev pub min_points : ℕ
min_points = 5

abbrev pub max_points : ℕ
max_points = 65535

-- n points have 3n coordinates and 2n numbers in each view: what row 1 asks of the inputs
abbrev pub has_matching_lengths : Problem → Bool
has_matching_lengths p =
    length p.points == 3 * count p && length p.view1 == 2 * count p && length p.view2 == 2 * count p

-- the same as a fact, with row 2: what a problem is that rows 1 and 2 let through
pub record HasMatchingLengths (p : Problem) : Type 0 where
  pub points : length p.points ≡ 3 * count p
  pub view1 : length p.view1 ≡ 2 * count p
  pub view2 : length p.view2 ≡ 2 * count p
  pub most : count p ≤ max_points

-- row 4: the inverse standard deviation at i is not finite, or at or below 0
abbrev pub check_inverse_standard_deviation : List Float → ℕ → CheckResult
check_inverse_standard_deviation xs i =
    refuse_unless (is_valid_inverse_standard_deviation (xs ! i)) (InverseStandardDeviation i)

-- row 5 refuses a baseline that is not finite, or at or below 64ε
unfoldable pub is_valid_baseline : Float → Bool
is_valid_baseline x = float_is_finite x && not (le x relative_tolerance)

-- row 6: a coordinate of point i is not finite
abbrev pub check_point : List Float → ℕ → CheckResult
check_point points i = refuse_unless (all_finite (triple points i)) (Point i)

-- row 8: what the view saw of point i is not finite
abbrev pub check_observation : Problem → View → ℕ → CheckResult
check_observation p view i =
    refuse_unless (all_finite (observation p.view1 p.view2 view i)) (Observation view i)

-- row 9 for one view: point i does not project there
abbrev pub check_view : Problem → ℕ → View → CheckResult
check_view p i view =
    let seen = observation p.view1 p.view2 view i in
    refuse_unless (is_ok (project p.rig view seen (triple p.points i))) (PointNotProjectable view i)

-- row 9 for point i: view 1, then view 2
abbrev pub check_projection : Problem → ℕ → CheckResult
check_projection p i = first_refusal (check_view p i First ∷ check_view p i Second ∷ [])

-- Rows 8 and 9. Row 8 goes over all points in view 1 and then in view 2; row 9 goes point by point,
-- each in both views.
unfoldable pub check_both_views : Problem → CheckResult
check_both_views p =
    first_refusal (
    first_refusal_from (check_observation p First) 0 (count p)
    ∷ first_refusal_from (check_observation p Second) 0 (count p)
    ∷ first_refusal_from (check_projection p) 0 (count p)
    ∷ [])

-- Rows 3 to 9, each over all points before the next. Row 3: the damping is not finite, or below 0.
-- Row 7: fewer than 5 points.
unfoldable pub check_values : Problem → CheckResult
check_values p =
    let xs = p.inverse_standard_deviations in
    first_refusal (
    refuse_unless (is_valid_damping p.damping) Damping
    ∷ first_refusal_from (check_inverse_standard_deviation xs) 0 (count p)
    ∷ refuse_unless (is_valid_baseline p.rig.pose.baseline) Baseline
    ∷ first_refusal_from (check_point p.points) 0 (count p)
    ∷ refuse_unless (nat_le min_points (count p)) TooFewPoints
    ∷ check_both_views p
    ∷ [])

-- Rows 1 to 3. Row 1: a length does not fit n. Row 2: more than 65,535 points.
unfoldable pub check_readable : Problem → CheckResult
check_readable p =
    first_refusal (
    refuse_unless (has_matching_lengths p) Lengths
    ∷ refuse_unless (nat_le (count p) max_points) TooManyPoints
    ∷ refuse_unless (is_valid_damping p.damping) Damping
    ∷ [])

-- rows 1 to 9: the first one that holds
unfoldable pub check_problem : Problem → CheckResult
check_problem p =
    first_refusal (
    refuse_unless (has_matching_lengths p) Lengths
    ∷ refuse_unless (nat_le (count p) max_points) TooManyPoints
    ∷ check_values p
    ∷ [])

-- Rows 4 and 9 let each of the first n points through, looked at by itself: the block maker gives
-- each a block.
abbrev pub AcceptsFirst : Problem → ℕ → Type 0
AcceptsFirst p n = (i : ℕ) → i < n → IsTrue (is_ok (check_views p.rig (correspondence_at p i)))
