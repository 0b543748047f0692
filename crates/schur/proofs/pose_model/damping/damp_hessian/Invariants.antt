use mathlib.Core.Path.{◌≡◌}
use Prim.Native.Nat.{◌≤◌}
use Rattle.numerics.proofs.Fill.{filled}
use Rattle.schur.specs.PoseDamping.{damped_entry}
use Rattle.schur.proofs.pose_model.damping.damp_hessian.Given as goal

abbrev pub invariant-loop-k : goal.invariant-loop-k
invariant-loop-k l = (l.k ≤ 25) × (l.h ≡ filled l.initial.h (damped_entry l.initial.h l.diagonal l.damping) l.k)
