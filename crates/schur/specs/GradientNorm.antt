-- The largest entry of a gradient, each scaled by the root of its curvature:
-- `scaled_gradient_inf_norm` of schur.rs. docs/SPECIFICATION.md, "Reduced system".
use Rattle.std.specs.Prelude.{◌≡◌, ℕ, IsTrue, Bool, if◌then◌else◌, false, List, [], ◌∷◌, Float}
use Rattle.std.specs.Float.{inf}
use Rattle.numerics.specs.Binary64.{◌⊗◌, ◌⊘◌, zero, relative_tolerance}
use Rattle.numerics.specs.Classify.{abs, is_nonnegative, is_positive_finite}
use Rattle.root.specs.Root.{sqrt}
use Rattle.numerics.specs.Vectors.{◌!◌, tabulate, all_zero}
use Rattle.numerics.specs.Extrema.{max, fold_max}

-- |gᵢ| ÷ √max(dᵢ, floor), of a gradient's entry and its curvature
abbrev pub scaled_entry : Float → Float → Float → Float
scaled_entry value curvature floor = abs value ⊘ sqrt (max curvature floor)

-- r is that scaled entry where the floor is a number with its sign clear
pub record IsScaledEntry (value curvature floor r : Float) : Type 0 where
  pub is : IsTrue (is_nonnegative floor) → r ≡ scaled_entry value curvature floor

-- the norm where the curvatures give no scale: 0 for a gradient of zeros, and else +∞
unfoldable pub norm_without_scale : Bool → Float
norm_without_scale zeros = if zeros then zero else inf false

-- The largest scaled entry of a gradient of n entries and their n curvatures, with 64ε times the
-- largest curvature as the floor. Where that curvature is not positive and finite there is no
-- scale.
unfoldable pub scaled_gradient_inf_norm : ℕ → List Float → List Float → Float
scaled_gradient_inf_norm n gradient diagonal =
    let scale = fold_max diagonal in
    let floor = relative_tolerance ⊗ scale in
    if is_positive_finite scale
    then fold_max (tabulate n (λ i. scaled_entry (gradient ! i) (diagonal ! i) floor))
    else norm_without_scale (all_zero gradient)

-- that of a point's gradient, by the diagonal of its Hessian
unfoldable pub point_gradient_norm : List Float → List Float → Float
point_gradient_norm gradient hessian =
    scaled_gradient_inf_norm 3 gradient (hessian ! 0 ∷ hessian ! 4 ∷ hessian ! 8 ∷ [])
