use Rattle.std.proofs.Common.{◌≡◌, ◌≤◌}
use Rattle.problem.specs.Problem.{count}
use Rattle.text.specs.Text.{AppendsText}
use Rattle.run_list.specs.Lists.{point_lines}
use Rattle.run_list.proofs.record.list.put_points.Given as goal

abbrev pub invariant-loop-index : goal.invariant-loop-index
invariant-loop-index l =
    (l.index ≤ l.index-end) × (l.index-end ≡ count l.problem) × AppendsText (point_lines l.problem l.index) l.initial.writer l.writer
