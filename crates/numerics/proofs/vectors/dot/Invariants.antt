use Rattle.std.proofs.Common.{◌≡◌, ◌≤◌}
use Rattle.numerics.specs.Vectors.{dot}
use Rattle.numerics.proofs.vectors.dot.Given as goal

abbrev pub invariant-loop-i : goal.invariant-loop-i
invariant-loop-i g l = (l.i ≤ g.row.N) × (l.sum ≡ dot l.i l.x l.y)
