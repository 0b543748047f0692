-- A point is in front of the camera where five comparisons with the depth and its negative hold.
-- Assumes nothing.
use Rattle.std.proofs.Common.{◌≡◌, refl, sym, ap, subst, ◌∙◌, Bool, true, false, not, ◌&&◌, T, List, [], ◌∷◌}
use mathlib.Core.Bool.{not-not, and-true, and-false}
use Rattle.std.specs.Bool.{passes}
use lib.Ieee.{Float, binary64, lt, le, neg, fits}
use lib.Ieee.Fits.{and_l, and_r, and_i}
use Rattle.std.proofs.lemmas.Bool.{false_from_ne_true}
use Rattle.std.proofs.lemmas.Float.{lt_of_le_of_lt}
use Rattle.numerics.specs.Binary64.{◌⊗◌, zero, relative_tolerance}
use Rattle.std.specs.Float.{float_is_finite}
use Rattle.numerics.specs.Classify.{abs}
use Rattle.numerics.specs.Vectors.{all_finite}
use Rattle.numerics.specs.Extrema.{fold_max}
use Rattle.numerics.proofs.Order.{not_lt, nonneg_not_nan}
use Rattle.numerics.proofs.Monotone.{finite_not_nan, zero-le}
use Rattle.numerics.proofs.Finite.{finite_mul}
use Rattle.numerics.proofs.Absolute.{nonneg_abs, abs_below, finite_below}
use Rattle.numerics.proofs.Laws.{floor_clear}
use Rattle.numerics.proofs.Scaled.{floor_below, floor_below_itself}

module _ (x y z : Float) (p : T (fits binary64 z)) where
  -- 64ε of the absolute value of a coordinate is below the depth
  abbrev near : Float → Bool
  near u = lt (abs (relative_tolerance ⊗ u)) z

  abbrev sizes : List Float
  sizes = abs x ∷ abs y ∷ abs z ∷ []

  abbrev limit : Float
  limit = relative_tolerance ⊗ fold_max sizes

  -- such a coordinate is finite
  near_finite : (u : Float) → T (near u) → T (float_is_finite (relative_tolerance ⊗ u)) × T (float_is_finite u)
  near_finite u h = let k = finite_below (relative_tolerance ⊗ u) z h in (k, (finite_mul binary64 relative_tolerance u k).1)

  -- a depth near itself is above 0
  depth_positive : T (near z) → T (lt zero z)
  depth_positive h =
      let u = relative_tolerance ⊗ z in
      lt_of_le_of_lt zero (abs u) z (zero-le (abs u) (nonneg_abs u (finite_not_nan u (near_finite z h).0))) h

  -- o is implied
  reorder : (o a b c : Bool) → (T c → T o) → (o && a && b && c) ≡ (c && a && b)
  reorder o a b false k = and-false (o && a && b)
  reorder true a b true k = and-true (a && b)
  reorder false a b true k = absurd (k tt)

  module _ (h : T (float_is_finite x)) (k : T (float_is_finite y)) (l : T (float_is_finite z)) where
    -- of finite coordinates, the depth is above the limit where all are near
    above_limit : not (le z limit) ≡ (near z && near x && near y)
    above_limit =
        ap not (sym (not_lt limit z (nonneg_not_nan limit (passes _ (floor_clear sizes _ refl))) (finite_not_nan z l)))
        ∙ not-not (lt limit z)
        ∙ floor_below z (x ∷ y ∷ z ∷ []) (unfold all_finite in and_i _ _ h (and_i _ _ k (and_i _ _ l tt)))
        ∙ reorder (lt zero z) (near x) (near y) (near z) depth_positive

  -- and all of them are finite where all are near
  all_finite_near : T (near z && near x && near y) → T (float_is_finite x) × T (float_is_finite y) × T (float_is_finite z)
  all_finite_near t =
      let s = and_l (near z && near x) (near y) t in
      ((near_finite x (and_r (near z) (near x) s)).1, (near_finite y (and_r (near z && near x) (near y) t)).1, (near_finite z (and_l (near z) (near x) s)).1)

  -- whatever the coordinates
  front : (float_is_finite x && float_is_finite y && float_is_finite z && not (le z limit)) ≡ (near z && near x && near y)
  front = by (float_is_finite x) (float_is_finite y) (float_is_finite z) refl refl refl
    where
      none : (T (near z && near x && near y) → ⊥) → false ≡ (near z && near x && near y)
      none k = sym (false_from_ne_true _ (λ e. k (rw e tt)))

      by : (a b c : Bool) → float_is_finite x ≡ a → float_is_finite y ≡ b → float_is_finite z ≡ c → (a && b && c && not (le z limit)) ≡ (near z && near x && near y)
      by true true true h k l = above_limit (rw h tt) (rw k tt) (rw l tt)
      by false b c h k l = none (λ t. subst T h (all_finite_near t).0)
      by true false c h k l = none (λ t. subst T k (all_finite_near t).1)
      by true true false h k l = none (λ t. subst T l (all_finite_near t).2)

  -- by five comparisons
  pub front_by_comparisons : (float_is_finite x && float_is_finite y && float_is_finite z && not (le z limit))
      ≡ (lt (relative_tolerance ⊗ z) z && (lt (relative_tolerance ⊗ x) z && lt (neg z) (relative_tolerance ⊗ x)) && (lt (relative_tolerance ⊗ y) z && lt (neg z) (relative_tolerance ⊗ y)))
  front_by_comparisons = front ∙ rw (floor_below_itself z p, abs_below (relative_tolerance ⊗ x) z, abs_below (relative_tolerance ⊗ y) z) refl
