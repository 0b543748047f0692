-- The reduced system of a problem: `reduced_system` of kernel/two_view/optimizer.rs.
-- docs/SPECIFICATION.md, "Whole step" and "Reduced system".
use Rattle.std.specs.Prelude.{ℕ, zero, suc}
use Rattle.linearization.specs.Linearize.{block_of}
use Rattle.linearization.specs.declared.linearize.LocalLinearization.{LocalLinearization}
use Rattle.problem.specs.Problem.{Problem, count, correspondence_at}
use Rattle.schur.specs.ReducedAdd.{with_block}
use Rattle.schur.specs.Reduced.{new_system, with_damping}
use Rattle.schur.specs.declared.reduced_system.ReducedSystem.{ReducedSystem}

-- the block of the normal equations that point i makes
abbrev pub block_at : Problem → ℕ → LocalLinearization
block_at p i = block_of p.rig (correspondence_at p i)

-- the system after the blocks of points 0 to n − 1, each point eliminated at the problem's damping
unfoldable pub system_to : Problem → ℕ → ReducedSystem
system_to p zero = new_system
system_to p (suc n) = with_block (system_to p n) (block_at p n) p.damping

-- the system of all points, with the pose damping on its diagonal
unfoldable pub reduced_system : Problem → ReducedSystem
reduced_system p = with_damping (system_to p (count p)) p.damping
