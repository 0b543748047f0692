use Rattle.std.proofs.Common.{◌≡◌, ◌-◌, length}
use Rattle.run_record.proofs.Points.{ReadTo}
use Rattle.run_record.proofs.run.read_points.Given as goal

-- the points before the reader's place are read
abbrev pub invariant-loop-run : goal.invariant-loop-run
invariant-loop-run l = (l.reader.bytes ≡ l.initial.reader.bytes) × ReadTo l.initial.reader.bytes.now l.reader.at l.run

abbrev pub decreases-loop-run : goal.decreases-loop-run
decreases-loop-run l = length l.reader.bytes.now - l.reader.at
