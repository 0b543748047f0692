-- What `read_full` has put at the start of the buffer is what it consumed.
use Rattle.std.proofs.Common.{◌≤◌, length, take}
use Rattle.std.specs.Io.KnownBytes.{Consumes}
use Rattle.program_io.proofs.stored_file.read_full.Given as goal

abbrev pub invariant-loop : goal.invariant-loop
invariant-loop g l = (l.done ≤ length l.buffer) × Consumes (g.R.Read.remaining l.initial.input) (g.R.Read.remaining l.input) (take l.done l.buffer)
