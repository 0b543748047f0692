-- Roots stay clear of the sign. Assumes nothing.
use Prim.Native.Nat.{ℕ, zero, suc}
use mathlib.Core.Bool.{true, false}
use lib.Dec.{T}
use lib.Ieee.{Float, nan, inf, fin, binary64}
use lib.Ieee.Fits.{mul-fits}
use Rattle.numerics.specs.Binary64.{◌⊕◌, ◌⊗◌, neg_zero}
use Rattle.std.specs.Float.{float_is_finite}
use Rattle.numerics.specs.Classify.{is_nonnegative}
use Rattle.numerics.proofs.Order.{nonneg_units, nonneg_add, nonneg_square}
use Rattle.numerics.proofs.Monotone.{neg_zero_add, finite_not_nan}
use Rattle.root.specs.Root.{nearest_root, sqrt}

nonneg_nearest_root : (n : ℕ) → T (is_nonnegative (nearest_root n))
unfolding nearest_root
nonneg_nearest_root n = nonneg_units binary64 _ _

pub nonneg_sqrt : (x : Float) → T (is_nonnegative x) → T (is_nonnegative (sqrt x))
unfolding sqrt is_nonnegative
nonneg_sqrt nan h = absurd h
nonneg_sqrt (inf true) h = absurd h
nonneg_sqrt (inf false) h = tt
nonneg_sqrt (fin s zero e) h = h
nonneg_sqrt (fin true (suc m) e) h = absurd h
nonneg_sqrt (fin false (suc m) e) h = nonneg_nearest_root _

pub nonneg_sum_squares : (x y : Float) → T (float_is_finite x) → T (float_is_finite y) → T (is_nonnegative (sqrt (neg_zero ⊕ x ⊗ x ⊕ y ⊗ y)))
nonneg_sum_squares x y p q =
    nonneg_sqrt (neg_zero ⊕ x ⊗ x ⊕ y ⊗ y)
    (nonneg_add binary64 (neg_zero ⊕ x ⊗ x) (y ⊗ y) (rw (neg_zero_add (x ⊗ x) (mul-fits binary64 x x)) (nonneg_square binary64 x (finite_not_nan x p)))
    (nonneg_square binary64 y (finite_not_nan y q)))
