use mathlib.Core.Path.{sym}
use Rattle.projection.specs.PixelProjection.{is_in_front}
use Rattle.projection.proofs.Front.{front_by_comparisons}
use Rattle.projection.proofs.is_in_front_of.Goals as goal

pub returns : goal.returns
unfolding is_in_front
returns c = sym (front_by_comparisons c.args.x c.args.y c.args.z (rw c.well_formed.1.1.0.1 tt))
