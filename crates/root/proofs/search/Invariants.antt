-- From below the root it is reached by steps up, and from above by steps down: where the first
-- loop ends, one test of `IsNearestRoot` holds, and the second loop keeps it.
use Prim.Native.Nat.{◌+◌, ◌*◌, ◌^◌, ◌<◌, ◌≤◌, ◌-◌}
use Rattle.root.proofs.search.Given as goal

abbrev pub invariant-loop-root : goal.invariant-loop-root
invariant-loop-root l = l.root < 2 ^ 64

abbrev pub decreases-loop-root : goal.decreases-loop-root
decreases-loop-root l = l.fn.n - l.root

abbrev pub invariant-loop-root-2 : goal.invariant-loop-root-2
invariant-loop-root-2 l = (l.fn.n ≤ l.root * l.root + l.root) × (l.root < 2 ^ 64)

abbrev pub decreases-loop-root-2 : goal.decreases-loop-root-2
decreases-loop-root-2 l = l.root
