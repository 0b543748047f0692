use native.Mathlib.Omega.{arith}
use Rattle.numerics.proofs.Fill.{by_rows, array_full}
use Rattle.linearization.specs.Accumulate.{pose_hessian}
use Rattle.linearization.proofs.accumulate.pose_hessian.Goals as goal

pub returns : goal.returns
unfolding by_rows pose_hessian
returns c = array_full _ _ _ _ c.loop-i.invariant.1 (omega arith)
