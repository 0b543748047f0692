-- A block at a damping factors or does not. Assumes nothing.
use Rattle.std.proofs.Common.{◌≡◌, refl, List}
use Rattle.std.specs.Prelude.{Result, Ok, Err}
use lib.Ieee.{Float}
use Rattle.refusal.specs.declared.Refusal.{Refusal}
use Rattle.point_block.specs.FactorWithRcond.{factor}
use Rattle.point_block.specs.declared.PointBlockFactor.{PointBlockFactor}

-- what holds with a factor and without one holds
pub factor_cases : {P : Type 0} (m : List Float) (damping : Float) → ((f : PointBlockFactor) → factor m damping ≡ Ok f → P)
    → ((r : Refusal) → factor m damping ≡ Err r → P) → P
factor_cases {P} m damping if_factor if_none = by (factor m damping) refl
  where
    by : (f : Result PointBlockFactor Refusal) → factor m damping ≡ f → P
    by (Ok f) e = if_factor f e
    by (Err r) e = if_none r e
