use mathlib.Core.List.{[], ◌∷◌}
use lib.Ieee.{binary64}
use Rattle.numerics.specs.Vectors.{◌!◌}
use Rattle.numerics.proofs.Finite.{product_tells}
use Rattle.projection.specs.PixelProjection.{all_finite}
use Rattle.projection.proofs.all_finite.Goals as goal

pub returns : goal.returns
unfolding all_finite
returns c =
    let r = c.args.projection.residual in
    let j = c.args.projection.jacobian in
    product_tells binary64 (r ! 0 ∷ r ! 1 ∷ j ! 0 ∷ j ! 1 ∷ j ! 2 ∷ j ! 3 ∷ j ! 4 ∷ j ! 5 ∷ [])
