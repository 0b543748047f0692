-- The projection of a point p = (p₀, p₁, p₂) in a camera's frame, less what was observed, with its
-- Jacobian by p: `pixel_projection` of projection.rs, operation by operation in the Rust's order
-- (docs/SPECIFICATION.md, "Projection"). A camera is fx, fy, cx, cy and skew, in pixels.
use Rattle.std.specs.Prelude.{Bool, not, ◌&&◌, if◌then◌else◌, List, [], ◌∷◌, Float, Result, Ok, Err}
use Rattle.std.specs.Prelude.{is_ok}
use Rattle.std.specs.Float.Ieee.{neg, le}
use Rattle.numerics.specs.Binary64.{◌⊕◌, ◌⊖◌, ◌⊗◌, zero, relative_tolerance, recip}
use Rattle.std.specs.Float.{float_is_finite}
use Rattle.numerics.specs.Classify.{abs}
use Rattle.numerics.specs.Vectors.{◌!◌, zeros}
use Rattle.numerics.specs.Extrema.{fold_max}
use Rattle.refusal.specs.declared.Refusal.{Refusal}
use Rattle.refusal.specs.declared.Refusal.TheVariants.{NotProjectable}
use Rattle.projection.specs.declared.PinholeCamera.{PinholeCamera}
use Rattle.projection.specs.declared.Projection.{Projection}
use Rattle.projection.specs.declared.TestedProjection.{TestedProjection}

-- The acceptance test: p is finite, and p₂ > 64ε · max (|p₀|, |p₁|, |p₂|).
unfoldable pub is_in_front : List Float → Bool
is_in_front point =
    let largest = fold_max (abs (point ! 0) ∷ abs (point ! 1) ∷ abs (point ! 2) ∷ []) in
    float_is_finite (point ! 0) && float_is_finite (point ! 1) && float_is_finite (point ! 2)
    && not (le (point ! 2) (relative_tolerance ⊗ largest))

-- The residual r and the rows of the Jacobian J, with d = 1 ÷ p₂ the inverse depth,
-- n = fx p₀ + skew p₁ the numerator of x, and o the observation:
--     r₀ = n d + cx − o₀         J₀ = ( fx d,  skew d,  −n d² )
--     r₁ = fy p₁ d + cy − o₁     J₁ = (  +0,    fy d,   −fy p₁ d² )
unfoldable pub residual_and_jacobian : PinholeCamera → List Float → List Float → Projection
residual_and_jacobian camera observation point =
    let d = recip (point ! 2) in
    let d² = d ⊗ d in
    let n = camera.fx ⊗ point ! 0 ⊕ camera.skew ⊗ point ! 1 in
    record {
      residual =
          n ⊗ d ⊕ camera.cx ⊖ observation ! 0
          ∷ camera.fy ⊗ point ! 1 ⊗ d ⊕ camera.cy ⊖ observation ! 1
          ∷ [];
      jacobian =
          camera.fx ⊗ d ∷ camera.skew ⊗ d ∷ neg n ⊗ d²
          ∷ zero ∷ camera.fy ⊗ d ∷ neg camera.fy ⊗ point ! 1 ⊗ d²
          ∷ [];
    }

-- the two entries of the residual and the six of the Jacobian are finite
unfoldable pub all_finite : Projection → Bool
all_finite p =
    float_is_finite (p.residual ! 0)
    && float_is_finite (p.residual ! 1)
    && float_is_finite (p.jacobian ! 0)
    && float_is_finite (p.jacobian ! 1)
    && float_is_finite (p.jacobian ! 2)
    && float_is_finite (p.jacobian ! 3)
    && float_is_finite (p.jacobian ! 4)
    && float_is_finite (p.jacobian ! 5)

-- +0 everywhere: what stands beside a refusal
abbrev pub zero_projection : Projection
zero_projection = record { residual = zeros 2; jacobian = zeros 6 }

-- Row 9 where the point is not in front of the camera, or an entry that comes out is not finite.
unfoldable pub pixel_projection
    : PinholeCamera → List Float → List Float → Result Projection Refusal
pixel_projection camera observation point =
    let p = residual_and_jacobian camera observation point in
    if is_in_front point && all_finite p then Ok p else Err NotProjectable

-- the projection by the formulas alone, and whether it is let through
abbrev pub tested_projection : PinholeCamera → List Float → List Float → TestedProjection
tested_projection camera observation point = record {
  projection = residual_and_jacobian camera observation point;
  projectable = is_ok (pixel_projection camera observation point);
}
