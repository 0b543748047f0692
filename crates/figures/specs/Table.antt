-- Figures worked out by hand: docs/SPECIFICATION.md, "Worked figures". They stand in one table, and
-- a row of it holds where the definitions that the contracts cite give that figure.
-- `table::every_figure_holds` promises every row.
use Rattle.std.specs.Prelude.{ℕ, ◌≡◌, Bool, true, false, List, [], ◌∷◌, Float}
use Rattle.std.specs.Prelude.{Result, Ok, Err, is_ok}
use Rattle.std.specs.Float.{binary64}
use Rattle.std.specs.Float.Ieee.{of_bits}
use Rattle.numerics.specs.Binary64.{zero, neg_zero, half, one}
use Rattle.root.specs.Root.{sqrt}
use Rattle.refusal.specs.Chain.{map_ok}
use Rattle.refusal.specs.declared.Refusal.{Refusal}
use Rattle.refusal.specs.declared.Refusal.TheVariants.{NotProjectable, NotFactored}
use Rattle.projection.specs.PixelProjection.{pixel_projection}
use Rattle.projection.specs.declared.PinholeCamera.{PinholeCamera}
use Rattle.point_block.specs.declared.PointBlockFactor.{PointBlockFactor}
use Rattle.point_block.specs.declared.ConditionedFactor.{ConditionedFactor}
use Rattle.point_block.specs.FactorWithRcond.{factor, factor_with_rcond}
use Rattle.point_block.specs.Condition.{reciprocal_condition_number, is_weak}
use Rattle.optimizer.specs.PoseStep.{limit_pose_step}

-- the binary64 with these bits
abbrev pub bits : ℕ → Float
bits = of_bits binary64

-- fx, fy, cx, cy, skew
abbrev pub camera : Float → Float → Float → Float → Float → PinholeCamera
camera fx fy cx cy skew = record { fx = fx; fy = fy; cx = cx; cy = cy; skew = skew }

-- the 3 by 3 block with this diagonal
abbrev pub diagonal : Float → Float → Float → List Float
diagonal a b c = a ∷ zero ∷ zero ∷ zero ∷ b ∷ zero ∷ zero ∷ zero ∷ c ∷ []

-- the rcond of a block that factors at a damping, or the refusal
abbrev pub rcond_of : List Float → Float → Result Float Refusal
rcond_of m damping = map_ok (λ (f : ConditionedFactor). f.rcond) (factor_with_rcond m damping)

-- whether a block factors at damping 0, and whether `add` counts it weak
abbrev pub weak_of : List Float → Bool × Result Bool Refusal
weak_of m =
    let is_weak_by = λ (f : PointBlockFactor). is_weak (reciprocal_condition_number f.inverse m) in
    (is_ok (factor_with_rcond m zero), map_ok is_weak_by (factor m zero))

-- a figure: what is put in, and what has to come out
pub data Row : Type 0 where
  -- the root of a value is another
  root : Float → Float → Row
  -- camera, observation and point give a residual and a Jacobian, by rows
  projection : PinholeCamera → List Float → List Float → List Float → List Float → Row
  -- camera, observation and point are refused, or accepted
  projection_refused projection_accepted : PinholeCamera → List Float → List Float → Row
  -- a block does not factor at a damping
  factor_refused : List Float → Float → Row
  -- a block factors at a damping, with this rcond
  rcond : List Float → Float → Float → Row
  -- at damping 0 a block factors, and is weak or not
  block_is_weak block_is_not_weak : List Float → Row
  -- a pose step is limited to another
  limit : List Float → List Float → Row

-- the definitions give the figure of the row
abbrev pub RowHolds : Row → Type 0
RowHolds (root x r) = sqrt x ≡ r
RowHolds (projection c seen point r j) =
    pixel_projection c seen point ≡ Ok (record { residual = r; jacobian = j })
RowHolds (projection_refused c seen point) = pixel_projection c seen point ≡ Err NotProjectable
RowHolds (projection_accepted c seen point) = is_ok (pixel_projection c seen point) ≡ true
RowHolds (factor_refused m damping) = factor_with_rcond m damping ≡ Err NotFactored
RowHolds (rcond m damping r) = rcond_of m damping ≡ Ok r
RowHolds (block_is_weak m) = weak_of m ≡ (true, Ok true)
RowHolds (block_is_not_weak m) = weak_of m ≡ (true, Ok false)
RowHolds (limit x y) = limit_pose_step x ≡ y

-- the figures, in the order of the specification
abbrev pub table : List Row
table =
    -- root of 4 is 2
    root (bits 0x4010_0000_0000_0000) (bits 0x4000_0000_0000_0000)
    -- root of 2 is 3FF6A09E667F3BCD
    ∷ root (bits 0x4000_0000_0000_0000) (bits 0x3ff6_a09e_667f_3bcd)
    -- root of −0 is −0
    ∷ root neg_zero neg_zero
    -- camera (2, 2, 1, 1, 0), observation (1.5, 1), point (1, 2, 4): residual (0, 1),
    -- Jacobian rows (0.5, 0, −0.125), (0, 0.5, −0.25)
    ∷ projection (camera (bits 0x4000_0000_0000_0000) (bits 0x4000_0000_0000_0000) one one zero)
    (bits 0x3ff8_0000_0000_0000 ∷ one ∷ [])
    (one ∷ bits 0x4000_0000_0000_0000 ∷ bits 0x4010_0000_0000_0000 ∷ [])
    (zero ∷ one ∷ [])
    (half ∷ zero ∷ bits 0xbfc0_0000_0000_0000 ∷ zero ∷ half ∷ bits 0xbfd0_0000_0000_0000 ∷ [])
    -- camera (1, 1, 0, 0, 0), observation (0, 0): point (1, 0, 2^-46) refused
    ∷ projection_refused (camera one one zero zero zero) (zero ∷ zero ∷ [])
    (one ∷ zero ∷ bits 0x3d10_0000_0000_0000 ∷ [])
    -- the same with the next binary64 above 2^-46 as depth: accepted
    ∷ projection_accepted (camera one one zero zero zero) (zero ∷ zero ∷ [])
    (one ∷ zero ∷ bits 0x3d10_0000_0000_0001 ∷ [])
    -- (4, 1, 1) rcond 0.25
    ∷ rcond (diagonal (bits 0x4010_0000_0000_0000) one one) zero (bits 0x3fd0_0000_0000_0000)
    -- (1, 1, 2^-46) factors, rcond 2^-46, weak
    ∷ rcond (diagonal one one (bits 0x3d10_0000_0000_0000)) zero (bits 0x3d10_0000_0000_0000)
    ∷ block_is_weak (diagonal one one (bits 0x3d10_0000_0000_0000))
    -- (1, 1, 2^-44) factors, rcond 2^-44, not weak
    ∷ rcond (diagonal one one (bits 0x3d30_0000_0000_0000)) zero (bits 0x3d30_0000_0000_0000)
    ∷ block_is_not_weak (diagonal one one (bits 0x3d30_0000_0000_0000))
    -- (1, 1, 2^-92) refused
    ∷ factor_refused (diagonal one one (bits 0x3a30_0000_0000_0000)) zero
    -- (1, 1, 2^-91) factors, rcond 3A40000000000001, weak
    ∷ rcond (diagonal one one (bits 0x3a40_0000_0000_0000)) zero (bits 0x3a40_0000_0000_0001)
    ∷ block_is_weak (diagonal one one (bits 0x3a40_0000_0000_0000))
    -- (1, 1, 0) refused at damping 0; at damping 1 it factors, rcond 2^-46
    ∷ factor_refused (diagonal one one zero) zero
    ∷ rcond (diagonal one one zero) one (bits 0x3d10_0000_0000_0000)
    -- pose step (1, 0, 0, 0, 0) limited to (0.5, 0, 0, 0, 0); (0.5, 0, 0, 0, 0) unchanged
    ∷ limit (one ∷ zero ∷ zero ∷ zero ∷ zero ∷ []) (half ∷ zero ∷ zero ∷ zero ∷ zero ∷ [])
    ∷ limit (half ∷ zero ∷ zero ∷ zero ∷ zero ∷ []) (half ∷ zero ∷ zero ∷ zero ∷ zero ∷ [])
    ∷ []

infixr 60 ◌and◌
-- every row of a list holds
pub data Every : List Row → Type 0 where
  done : Every []
  ◌and◌ : {r : Row} {rs : List Row} → RowHolds r → Every rs → Every (r ∷ rs)

-- every row of the table holds
abbrev pub EveryFigureHolds : Type 0
EveryFigureHolds = Every table
