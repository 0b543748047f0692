use native.Mathlib.Omega.{arith}
use Rattle.numerics.proofs.Fill.{by_rows, array_full}
use Rattle.linearization.specs.Accumulate.{cross_hessian}
use Rattle.linearization.proofs.accumulate.cross_hessian.Goals as goal

pub returns : goal.returns
unfolding by_rows cross_hessian
returns c =
    rw (← c.column-c2.ensures, ← c.column-c1.ensures, ← c.column-c0.ensures) (array_full _ _ _ _ c.loop-i.invariant.1 (omega arith))
