-- The points of a record, read one after the other to its end. Assumes nothing.
use Rattle.std.proofs.Common.{◌≡◌, refl, sym, ap, ◌∙◌, List, [], ◌∷◌, ◌++◌, ℕ, zero, suc, ◌+◌, ◌-◌, ◌*◌, ◌/◌, ◌%◌, ◌<◌, ◌≤◌, zero-add, suc-add, arith, length, Ok, Err}
use lib.Ieee.{Float}
use Rattle.numerics.specs.Vectors.{tabulate}
use Rattle.numerics.proofs.Fill.{length_tabulate}
use Rattle.refusal.specs.declared.Refusal.{Refusal}
use Rattle.refusal.specs.FirstRefusal.{CheckResult}
use Rattle.refusal.proofs.Scans as Scans
use Rattle.problem.specs.Problem.{Problem, count}
use Rattle.run_record.specs.declared.fields.Field.TheVariants.{Point}
use Rattle.run_record.specs.Fields.{payload, points_at, point_at, point_fields}
use Rattle.run_record.specs.Form.{max_record, check_field, check_points}
use Rattle.run_record.specs.Reads.{field_at}
use Rattle.run_record.proofs.Headers.{handed_out}
use Rattle.run_record.specs.Run.{number_at, numbers_at, correspondence, column, first_points, run, with_point}

-- ---- one more point

more : (n k : ℕ) (f : ℕ → Float) → tabulate (n + k) f ≡ tabulate n f ++ tabulate k (λ j. f (n + j))
more zero k f = simp zero-add
more (suc n) k f = simp suc-add (ap (λ (l : List Float). f 0 ∷ l) (more n k (λ i. f (suc i))))

module _ (r : List ℕ) (i : ℕ) where
  abbrev point : List ℕ
  point = payload r Point (point_at i)

  place : (first each j k : ℕ) → (each * i + j) / each ≡ i → (each * i + j) % each ≡ k → column r first each (each * i + j) ≡ number_at point (first + 8 * k)
  unfolding column
  place first each j k d m = rw (d, m) refl

  threes : tabulate (3 * (i + 1)) (column r 0 3) ≡ tabulate (3 * i) (column r 0 3) ++ numbers_at point 0 3
  threes =
      let e : 3 * (i + 1) ≡ 3 * i + 3 = omega arith in
      rw (e, more (3 * i) 3 (column r 0 3), place 0 3 0 0 (omega arith) (omega arith), place 0 3 1 1 (omega arith) (omega arith), place 0 3 2 2 (omega arith) (omega arith)) refl

  pairs : (first : ℕ) → tabulate (2 * (i + 1)) (column r first 2) ≡ tabulate (2 * i) (column r first 2) ++ numbers_at point first 2
  pairs first =
      let e : 2 * (i + 1) ≡ 2 * i + 2 = omega arith in
      rw (e, more (2 * i) 2 (column r first 2), place first 2 0 0 (omega arith) (omega arith), place first 2 1 1 (omega arith) (omega arith)) refl

  single : column r 56 1 (i + 0) ≡ number_at point 56
  unfolding column
  single =
      let d : (i + 0) / 1 ≡ i = omega arith in
      let m : (i + 0) % 1 ≡ 0 = omega arith in
      rw (d, m) refl

  ones : tabulate (i + 1) (column r 56 1) ≡ tabulate i (column r 56 1) ++ number_at point 56 ∷ []
  ones = rw (more i 1 (column r 56 1), single) refl

  one_more : with_point (first_points r i) (correspondence point) ≡ first_points r (i + 1)
  unfolding with_point first_points
  one_more = rw (threes, pairs 24, pairs 40, ones) refl

-- ---- to the end

pub count_points : (r : List ℕ) (n : ℕ) → count (first_points r n) ≡ n
unfolding first_points
count_points r n = length_tabulate n (column r 56 1)

abbrev pub check_point : List ℕ → ℕ → CheckResult
check_point r i = check_field r Point (point_at i)

-- a reading that has come to a place, with its points so far
pub record ReadTo (r : List ℕ) (at : ℕ) (p : Problem) : Type 0 where
  pub place : at ≡ point_at (count p)
  pub points : p ≡ first_points r (count p)
  pub scanned : Scans.Scanned (check_points r) (check_point r) (point_fields r) (count p)

pub begun : (r : List ℕ) (at : ℕ) (p : Problem) → at ≡ points_at → p ≡ first_points r 0 → ReadTo r at p
begun r at p a e =
    let none : count p ≡ 0 = ap count e ∙ count_points r 0 in
    record {
      place = rw none a;
      points = rw none e;
      scanned = rw none (let all : point_fields r - 0 ≡ point_fields r = omega arith in (omega arith, rw all refl));
    }

module _ (r : List ℕ) (at : ℕ) (p : Problem) (read : ReadTo r at p) where
  -- the next field begins before the end
  before : at < length r → count p < point_fields r
  before b = let e = read.place in omega arith

  pub few : at + 67 ≤ length r → length r ≤ max_record → count p < 512
  few b l = let e = read.place in omega arith

  pub goes_on : (next : ℕ) (q : Problem) (bytes : List ℕ) → field_at r Point at ≡ Ok bytes → next ≡ at + 67 → next ≤ length r
      → q ≡ with_point p (correspondence bytes) → ReadTo r next q
  goes_on next q bytes h n l e =
      let i = count p in
      let whole = handed_out r Point at bytes h in
      let c = whole.0 in
      let points : q ≡ first_points r (i + 1) =
      e
      ∙ ap (λ (x : List ℕ). with_point p (correspondence x)) (sym whole.1)
      ∙ ap (λ (x : Problem). with_point x (correspondence (payload r Point at))) read.points
      ∙ ap (λ (x : ℕ). with_point (first_points r i) (correspondence (payload r Point x))) read.place
      ∙ one_more r i in
      let counted : count q ≡ i + 1 = ap count points ∙ count_points r (i + 1) in
      record {
        place = let a = read.place in omega arith;
        points = rw counted points;
        scanned = rw counted (Scans.goes_on (check_points r) (check_point r) (point_fields r) i read.scanned (before (omega arith)) (ap (λ (x : ℕ). check_field r Point x) (sym read.place) ∙ c));
      }

  pub ended : at ≡ length r → (check_points r ≡ Ok tt) × (p ≡ run r)
  ended e =
      let all : count p ≡ point_fields r = let a = read.place in omega arith in
      (Scans.ends (check_points r) (check_point r) (point_fields r) (count p) read.scanned (omega arith), read.points ∙ ap (first_points r) all)

  pub broken : (refusal : Refusal) → at < length r → check_field r Point at ≡ Err refusal → check_points r ≡ Err refusal
  broken refusal b e = Scans.leaves (check_points r) (check_point r) (point_fields r) (count p) read.scanned refusal (before b) (ap (λ (x : ℕ). check_field r Point x) (sym read.place) ∙ e)

-- the pass over the point fields: one more, the end, and a broken one
pub ruleset passes = (few, ended, broken)
