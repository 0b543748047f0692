-- Lengths that belong to a count, and checks item by item. Assumes nothing.
use Rattle.std.proofs.Common.{◌≡◌, refl, ap, ◌∙◌, Bool, true, ◌&&◌, List, [], ◌∷◌, ℕ, ◌+◌, ◌*◌, ◌/◌, ◌%◌, ◌<◌, arith, div-add-mod', mul_comm, eqb-true, eq-eqb, eqb, get_or, Result, Ok, Err}
use Rattle.std.specs.Cmp.{both_ways}
use Rattle.std.proofs.lemmas.Bool.{and_parts}
use lib.Arith.{digits_div, digits_mod}
use lib.Ieee.{Float}
use Rattle.std.specs.Result.{result_and, is_ok}
use Rattle.refusal.specs.FirstRefusal.{CheckResult, refuse_unless, first_refusal_from}
use Rattle.refusal.specs.declared.Refusal.{Refusal}
use Rattle.refusal.specs.declared.Refusal.TheVariants.{PointNotProjectable}
use Rattle.refusal.specs.declared.View.{View}
use Rattle.refusal.specs.declared.View.TheVariants.{First, Second}
use Rattle.refusal.proofs.Scans.{Scanned, leaves, goes_on, ends}
use Rattle.projection.specs.declared.Projection.{Projection}
use Rattle.linearization.specs.declared.views.Rig.{Rig}
use Rattle.problem.specs.Problem.{Problem, triple, observation, project}
use Rattle.problem.specs.Checks.{check_view, check_projection}

-- how a loop over indexes meets a scan for the first refusal
pub ruleset scans = (leaves, goes_on, ends)

-- a length is e · n exactly if its quotient by e is n and its remainder 0
pub multiple : (l e n : ℕ) → 0 < e → (eqb (l / e) n && eqb (l % e) 0) ≡ eqb l (e * n)
multiple l e n h = both_ways _ _ there back
  where
    there : (eqb (l / e) n && eqb (l % e) 0) ≡ true → eqb l (e * n) ≡ true
    there t =
        let parts = and_parts _ _ t in
        let whole = rw (eqb-true (l / e) n parts.0, eqb-true (l % e) 0 parts.1) at (div-add-mod' l e) in
        eq-eqb l (e * n) (omega (arith, whole, mul_comm n e))

    back : eqb l (e * n) ≡ true → (eqb (l / e) n && eqb (l % e) 0) ≡ true
    back t =
        let whole : l ≡ n * e + 0 = omega (arith, eqb-true l (e * n) t, mul_comm n e) in
        rw (eq-eqb (l / e) n (ap (λ (k : ℕ). k / e) whole ∙ digits_div n h), eq-eqb (l % e) 0 (ap (λ (k : ℕ). k % e) whole ∙ digits_mod n h)) refl

-- ---- the views of a point, by their place in the list of both

abbrev views : List View
views = First ∷ Second ∷ []

abbrev pub check_at : Problem → ℕ → ℕ → CheckResult
check_at p i k = check_view p i (get_or views k First)

none_after : (r s : CheckResult) → result_and r s ≡ result_and r (result_and s (Ok tt))
none_after (Ok u) (Ok v) = refl
none_after (Ok u) (Err e) = refl
none_after (Err e) s = refl

pub views_begin : (p : Problem) (i : ℕ) → Scanned (check_projection p i) (check_at p i) 2 0
unfolding first_refusal_from
views_begin p i = (omega arith, none_after (check_view p i First) (check_view p i Second))

-- what a view's test says of its check
pub seen_check : (p : Problem) (i k : ℕ) (view : View) (rig : Rig) (seen point : List Float) (r : Result Projection Refusal) (good : Bool) → view ≡ get_or views k First
    → seen ≡ observation p.view1 p.view2 view i → point ≡ triple p.points i → rig ≡ p.rig → r ≡ project rig view seen point → is_ok r ≡ good
    → check_at p i k ≡ refuse_unless good (PointNotProjectable view i)
seen_check p i k view rig seen point r good v a b e c d = rw (← d, ← v, c, a, b, e) refl
