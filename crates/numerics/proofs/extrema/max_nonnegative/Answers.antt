use mathlib.Core.Path.{refl}
use Rattle.numerics.proofs.Laws.{max_nonnegative_is}
use Rattle.numerics.proofs.extrema.max_nonnegative.Goals as goal

pub returns-then-low-x : goal.returns-then-low-x
returns-then-low-x c = max_nonnegative_is _ _ _ c.well_formed.0.1 c.well_formed.1.0.1 (rw c.if-low-x.true refl)

pub returns-else-low-x : goal.returns-else-low-x
returns-else-low-x c = max_nonnegative_is _ _ _ c.well_formed.0.1 c.well_formed.1.0.1 (rw c.if-low-x.false refl)
