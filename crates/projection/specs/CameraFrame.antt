-- A point in the second camera's frame, R p + t: rotated, then moved by the translation, as
-- `linearize_point` of schur.rs does (docs/SPECIFICATION.md, "Rig and correspondence"). The
-- rotation is nine numbers, row by row.
use Rattle.std.specs.Prelude.{◌≡◌, false, List, [], ◌∷◌, ℕ, ◌<◌, Float, Err}
use Rattle.numerics.specs.Binary64.{◌⊕◌, ◌⊗◌}
use Rattle.std.specs.Float.{float_is_finite}
use Rattle.numerics.specs.Vectors.{◌!◌}
use Rattle.refusal.specs.declared.Refusal.TheVariants.{NotProjectable}
use Rattle.projection.specs.declared.PinholeCamera.{PinholeCamera}
use Rattle.projection.specs.PixelProjection.{pixel_projection}

-- R p: row i is Rᵢ₀ p₀ + Rᵢ₁ p₁ + Rᵢ₂ p₂
unfoldable pub rotate : List Float → List Float → List Float
rotate rotation point =
    rotation ! 0 ⊗ point ! 0 ⊕ rotation ! 1 ⊗ point ! 1 ⊕ rotation ! 2 ⊗ point ! 2
    ∷ rotation ! 3 ⊗ point ! 0 ⊕ rotation ! 4 ⊗ point ! 1 ⊕ rotation ! 5 ⊗ point ! 2
    ∷ rotation ! 6 ⊗ point ! 0 ⊕ rotation ! 7 ⊗ point ! 1 ⊕ rotation ! 8 ⊗ point ! 2
    ∷ []

-- a rotated point a, moved: a + t
unfoldable pub camera_point : List Float → List Float → List Float
camera_point rotated translation =
    rotated ! 0 ⊕ translation ! 0
    ∷ rotated ! 1 ⊕ translation ! 1
    ∷ rotated ! 2 ⊕ translation ! 2
    ∷ []

-- Where an entry of the rotation or of the translation is not finite, no point is projected in the
-- second view, whatever the camera and the observation.
pub record NonFinitePoseIsNotProjectable : Type 0 where
  pub rotation : (rotation translation : List Float) (i : ℕ) → i < 9
      → float_is_finite (rotation ! i) ≡ false
      → (camera : PinholeCamera) (observation point : List Float)
      → pixel_projection camera observation (camera_point (rotate rotation point) translation)
      ≡ Err NotProjectable
  pub translation : (rotation translation : List Float) (i : ℕ) → i < 3
      → float_is_finite (translation ! i) ≡ false
      → (camera : PinholeCamera) (observation point : List Float)
      → pixel_projection camera observation (camera_point (rotate rotation point) translation)
      ≡ Err NotProjectable
