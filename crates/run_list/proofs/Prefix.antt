-- The prefix that the program `list` reads decides: a record's list is the list of its first
-- 34,560 bytes, one more than the longest record has. A longer record is refused by row 14, of
-- which nothing but the number is printed.
-- Assumes nothing.
use Rattle.std.proofs.Common.{◌≡◌, refl, sym, ap, ◌∙◌, List, ℕ, ◌+◌, ◌<◌, ◌≤◌, arith, ◌⊎◌, inl, inr, length, take, take_all, length-take-le}
use borrow.Author.Tests.{lt-leb}
use Rattle.std.proofs.lemmas.Bool.{cases_lt}
use Rattle.refusal.specs.declared.Refusal.TheVariants.{RecordTooLong}
use Rattle.run_record.specs.Form as Form
use Rattle.run_record.specs.Form.{max_record}
use Rattle.run_list.specs.Lines.{refused_line}
use Rattle.run_list.specs.Lists.{check_record, list}

too_long : (r : List ℕ) → max_record < length r → list r ≡ refused_line RecordTooLong
unfolding list check_record Form.check_form
too_long r h = rw (lt-leb (length r) max_record h) refl

pub prefix_decides : (r : List ℕ) → list (take (max_record + 1) r) ≡ list r
prefix_decides r = by (cases_lt (max_record + 1) (length r))
  where
    by : (max_record + 1 < length r) ⊎ (length r ≤ max_record + 1) → list (take (max_record + 1) r) ≡ list r
    by (inl h) =
        let n = length-take-le (max_record + 1) r (omega arith) in
        too_long (take (max_record + 1) r) (omega arith) ∙ sym (too_long r (omega arith))
    by (inr h) = ap list (take_all (max_record + 1) r h)
