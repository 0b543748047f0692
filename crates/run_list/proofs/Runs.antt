-- A run that is not refused, and the lines of its points. Assumes nothing.
use Rattle.std.proofs.Common.{◌≡◌, ap, ℕ, ◌+◌, add-one}
use Rattle.optimizer.specs.Assembly.{block_at}
use Rattle.problem.specs.Problem.{Problem}
use Rattle.problem.specs.Letters.{letter_of}
use Rattle.run_list.specs.Lines.{point_line}
use Rattle.run_list.specs.Lists.{point_lines}
use Rattle.text.specs.Text.{AppendsText}
use Rattle.text.specs.declared.Writer.{Writer}
use Rattle.text.proofs.Wrote.{wrote_none, wrote_same, wrote_both}

pub no_lines : (p : Problem) (w : Writer) → AppendsText (point_lines p 0) w w
unfolding point_lines
no_lines p w = wrote_none w

pub next_line : (p : Problem) (i l : ℕ) (w v u : Writer) → AppendsText (point_lines p i) w v → l ≡ letter_of (block_at p i) p.damping → AppendsText (point_line i l) v u
    → AppendsText (point_lines p (i + 1)) w u
unfolding point_lines
next_line p i l w v u before e line = rw (add-one i) (wrote_both _ _ w v u before (wrote_same _ _ v u (ap (λ (c : ℕ). point_line i c) e) line))
