-- A non-finite rotation or translation makes every point of the second view one that is not
-- projectable (`not_projectable`). Assumes nothing.
use Rattle.std.proofs.Common.{◌≡◌, refl, sym, ◌∙◌, Bool, true, false, true≢false, T, List, ℕ, ◌<◌, below_none, below_more}
use Rattle.std.specs.Prelude.{Float, Err}
use lib.Ieee.{binary64}
use lib.Ieee.Bits.{is_true}
use Rattle.refusal.specs.declared.Refusal.TheVariants.{NotProjectable}
use Rattle.numerics.specs.Binary64.{◌⊕◌, ◌⊗◌}
use Rattle.std.specs.Float.{float_is_finite}
use Rattle.numerics.specs.Vectors.{◌!◌}
use Rattle.numerics.proofs.Finite.{finite_add, finite_mul}
use Rattle.projection.specs.declared.PinholeCamera.{PinholeCamera}
use Rattle.projection.specs.PixelProjection.{is_in_front, pixel_projection}
use Rattle.projection.specs.CameraFrame.{rotate, camera_point, NonFinitePoseIsNotProjectable}
use Rattle.projection.proofs.Laws.{behind, front_finite}

-- a row of the rotation with its part of the translation
record FiniteRow (a b c t : Float) : Type 0 where
  first : T (float_is_finite a)
  second : T (float_is_finite b)
  third : T (float_is_finite c)
  moved : T (float_is_finite t)

finite_row : (a b c t x y z : Float) → T (float_is_finite (a ⊗ x ⊕ b ⊗ y ⊕ c ⊗ z ⊕ t)) → FiniteRow a b c t
finite_row a b c t x y z h =
    let s = finite_add binary64 (a ⊗ x ⊕ b ⊗ y ⊕ c ⊗ z) t h in
    let u = finite_add binary64 (a ⊗ x ⊕ b ⊗ y) (c ⊗ z) s.0 in
    let v = finite_add binary64 (a ⊗ x) (b ⊗ y) u.0 in
    record {
      first = (finite_mul binary64 a x v.0).0;
      second = (finite_mul binary64 b y v.1).0;
      third = (finite_mul binary64 c z u.1).0;
      moved = s.1;
    }

module _ (rotation translation point : List Float) where
  abbrev moved : List Float
  moved = camera_point (rotate rotation point) translation

  module _ (h : T (is_in_front moved)) where
    rows : FiniteRow (rotation ! 0) (rotation ! 1) (rotation ! 2) (translation ! 0)
        × FiniteRow (rotation ! 3) (rotation ! 4) (rotation ! 5) (translation ! 1)
        × FiniteRow (rotation ! 6) (rotation ! 7) (rotation ! 8) (translation ! 2)
    unfolding rotate camera_point
    rows =
        let f = front_finite moved h in (
          finite_row _ _ _ _ (point ! 0) (point ! 1) (point ! 2) f.0,
          finite_row _ _ _ _ (point ! 0) (point ! 1) (point ! 2) f.1,
          finite_row _ _ _ _ (point ! 0) (point ! 1) (point ! 2) f.2,
        )

    rotation_finite : (i : ℕ) → i < 9 → T (float_is_finite (rotation ! i))
    rotation_finite =
        let P : ℕ → Type 0 = λ i. T (float_is_finite (rotation ! i)) in
        let three = below_more P 2 (below_more P 1 (below_more P 0 (below_none P) rows.0.first) rows.0.second) rows.0.third in
        let six = below_more P 5 (below_more P 4 (below_more P 3 three rows.1.first) rows.1.second) rows.1.third in
        below_more P 8 (below_more P 7 (below_more P 6 six rows.2.first) rows.2.second) rows.2.third

    translation_finite : (i : ℕ) → i < 3 → T (float_is_finite (translation ! i))
    translation_finite =
        let P : ℕ → Type 0 = λ i. T (float_is_finite (translation ! i)) in
        below_more P 2 (below_more P 1 (below_more P 0 (below_none P) rows.0.moved) rows.1.moved) rows.2.moved

  -- where being in front would make x finite and it is not, nothing is projected
  refused : (x : Float) → (T (is_in_front moved) → T (float_is_finite x)) → float_is_finite x ≡ false → (camera : PinholeCamera) (observation : List Float)
      → pixel_projection camera observation moved ≡ Err NotProjectable
  refused x k n camera observation = by (is_in_front moved) refl k
    where
      by : (b : Bool) → is_in_front moved ≡ b → (T b → T (float_is_finite x)) → pixel_projection camera observation moved ≡ Err NotProjectable
      by true e k = absurd (true≢false (sym (is_true (float_is_finite x) (k tt)) ∙ n))
      by false e k = behind camera observation moved e

pub not_projectable : NonFinitePoseIsNotProjectable
not_projectable = record {
  rotation = λ rotation translation i l n camera observation point.
      refused rotation translation point (rotation ! i) (λ h. rotation_finite rotation translation point h i l) n camera observation;
  translation = λ rotation translation i l n camera observation point.
      refused rotation translation point (translation ! i) (λ h. translation_finite rotation translation point h i l) n camera observation;
}
