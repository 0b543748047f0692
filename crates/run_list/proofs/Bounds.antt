-- The longest list: 4,057 bytes. Assumes nothing.
use Rattle.std.proofs.Common.{length-append, ◌≡◌, refl, ap, ◌∙◌, true, false, List, [], ◌∷◌, ◌++◌, ℕ, zero, suc, ◌+◌, ◌*◌, ◌-◌, ◌≤◌, ◌<◌, arith, zero-add, le-leb, ◌⊎◌, inl, inr, codes, length, take, drop, take_at, Ok, Err}
use borrow.Author.Tests.{lt-leb}
use Rattle.std.proofs.lemmas.Bool.{cases_lt}
use lib.Ieee.{Float, binary64, to_bits}
use Rattle.std.specs.Result.{result_and}
use Rattle.refusal.specs.FirstRefusal.{CheckResult}
use Rattle.refusal.specs.RefusalRow.{row}
use Rattle.refusal.specs.declared.Refusal.{Refusal}
use Rattle.refusal.proofs.Scans.{after_ok}
use Rattle.problem.specs.Problem.{Problem, count}
use Rattle.schur.specs.declared.reduced_system.ReducedSystem.{ReducedSystem}
use Rattle.problem.specs.Checks as Checks
use Rattle.optimizer.specs.Assembly.{block_at, reduced_system}
use Rattle.optimizer.proofs.Blocks.{weak_at_most, costs_are_numbers}
use Rattle.text.specs.Hex.{digits}
use Rattle.run_record.specs.Fields.{point_fields}
use Rattle.run_record.specs.Form as Form
use Rattle.run_record.specs.Run.{run}
use Rattle.std.specs.Fmt.{decimal}
use Rattle.std.proofs.lemmas.Fmt.{length-decimal-le}
use Rattle.text.specs.Text.{space, line_feed, with_text, PutsText}
use Rattle.text.proofs.Decimals.{decimal_length}
use Rattle.problem.specs.Letters.{letter_of}
use Rattle.run_list.specs.Lines.{bits_then, run_line, point_line, refused_line}
use Rattle.run_list.specs.SumLine.{sum_line}
use Rattle.run_list.specs.Lists.{point_lines, lines_of, check_record, lines_or_refusal, list, max_list, fits_in, NeverNan, WritesList}
use Rattle.run_record.proofs.Forms.{formed, few_points}
use Rattle.run_record.proofs.Points.{count_points}
use Rattle.text.proofs.Puts.{put_fits, put_length}

-- ---- decimals

three : (n : ℕ) → n < 1000 → length (decimal n) ≤ 3
three n h = length-decimal-le 3 n (omega arith) h (omega arith)

-- one digit, and one more from 10 and from 100 on
digits_counted : (n : ℕ) → n < 1000 → length (decimal n) + (n - 10) + (n - 100) ≤ 1 + (suc n - 10) + (suc n - 100)
digits_counted n h = by (cases_lt n 10) (cases_lt n 100)
  where
    by : (n < 10) ⊎ (10 ≤ n) → (n < 100) ⊎ (100 ≤ n) → length (decimal n) + (n - 10) + (n - 100) ≤ 1 + (suc n - 10) + (suc n - 100)
    by (inl k) y = omega (arith, length-decimal-le 1 n (omega arith) k (omega arith))
    by (inr k) (inl l) = omega (arith, length-decimal-le 2 n (omega arith) l (omega arith))
    by (inr k) (inr l) = omega (arith, three n h)

-- ---- lines

bits_length : (x : Float) (after : List ℕ) → length (bits_then x after) ≡ 17 + length after
unfolding bits_then
bits_length x after = length-append (codes " " ++ digits (to_bits binary64 x)) after

run_length : (n : ℕ) (d : Float) → n < 1000 → length (run_line n d) ≤ 25
unfolding run_line
run_length n d h = simp length-append (omega (arith, bits_length d (line_feed ∷ []), three n h))

point_length : (i l : ℕ) → length (point_line i l) ≡ 5 + length (decimal i)
unfolding point_line
point_length i l = simp length-append (omega arith)

points_length : (p : Problem) (n : ℕ) → n ≤ 1000 → length (point_lines p n) ≤ 6 * n + (n - 10) + (n - 100)
unfolding point_lines
points_length p zero h = omega arith
points_length p (suc n) h =
    omega (arith, length-append (point_lines p n) (point_line n (letter_of (block_at p n) p.damping)), point_length n (letter_of (block_at p n) p.damping), points_length p n (omega arith), digits_counted n (omega arith))

sum_length : (s : ReducedSystem) → s.weak_point_count < 1000 → length (sum_line s) ≤ 46
unfolding sum_line
sum_length s h =
    simp length-append (omega (arith, bits_length s.cost [], bits_length s.squared_residual (space ∷ []), three s.weak_point_count h))

refused_length : (refusal : Refusal) → length (refused_line refusal) ≤ 203
unfolding refused_line
refused_length refusal =
    let r = row refusal in
    simp length-append (omega (arith, decimal_length r.number, decimal_length r.view, decimal_length r.index))

-- ---- the list

lines_length : (p : Problem) → count p ≤ 512 → length (lines_of p (reduced_system p)) ≤ max_list
unfolding lines_of
lines_length p n =
    let w = weak_at_most p in
    simp length-append (omega (arith, run_length (count p) p.damping (omega arith), points_length p (count p) (omega arith), sum_length (reduced_system p) (omega arith)))

pub list_fits : (r : List ℕ) → length (list r) ≤ max_list
unfolding list check_record
list_fits r = by (result_and (Form.check_form r) (Checks.check_problem (run r))) refl
  where
    by : (x : CheckResult) → result_and (Form.check_form r) (Checks.check_problem (run r)) ≡ x → length (lines_or_refusal (run r) x) ≤ max_list
    by (Ok tt) e =
        let checks = after_ok (Form.check_form r) (Checks.check_problem (run r)) e in
        let few = few_points r (formed r checks.0) in
        let n = count_points r (point_fields r) in
        lines_length (run r) (omega arith)
    by (Err f) e = let h = refused_length f in omega arith

-- the sum line's cost and squared residual are never NaN
pub sums_are_numbers : (r : List ℕ) → check_record r ≡ Ok tt → NeverNan r
unfolding check_record
sums_are_numbers r e =
    let n = costs_are_numbers (run r) (after_ok (Form.check_form r) (Checks.check_problem (run r)) e).1 in
    record { cost = n.0; squared = n.1 }

-- ---- written

module _ (r buffer : List ℕ) (l : ℕ) (after : List ℕ) (h : length buffer ≡ max_list) (p : PutsText (list r) 0 buffer l after) where
  put_list : (l ≡ length (list r)) × (after ≡ with_text buffer 0 (list r))
  put_list = let k = list_fits r in let q = put_fits (list r) 0 buffer l after p (omega arith) in (q.0 ∙ zero-add (length (list r)), q.1)

  pub made : take l after ≡ list r
  made =
      ap (λ (n : ℕ). take n after) put_list.0
      ∙ ap (λ (x : List ℕ). take (length (list r)) x) put_list.1
      ∙ take_at (list r) (drop (0 + length (list r)) buffer) (length (list r)) refl

  pub made_length : l ≤ length after
  made_length = let k = list_fits r in let a = put_list.0 in let b = put_length (list r) 0 buffer l after p in omega arith

  module _ (out : List ℕ) where
    pub not_written : length out < l → WritesList r out (Err (record { needed = l })) out
    not_written t =
        let a = put_list.0 in
        let f : fits_in r out ≡ false = lt-leb (length (list r)) (length out) (omega arith) in record {
          answer = rw (a, f) refl;
          bound = list_fits r;
          same_out = rw f refl;
        }

    pub written : l ≤ length out → (next : ℕ) (end : List ℕ) → PutsText (take l after) 0 out next end → WritesList r out (Ok l) end
    written t next end q =
        let a = put_list.0 in
        let b = ap length made in
        let f : fits_in r out ≡ true = le-leb (length (list r)) (length out) (omega arith) in record {
          answer = rw (a, f) refl;
          bound = list_fits r;
          same_out = rw f ((put_fits (take l after) 0 out next end q (omega arith)).1 ∙ ap (λ (x : List ℕ). with_text out 0 x) made);
        }
