-- The damping of the pose's five equations, in `finish_damping` and `predicted_reduction` of
-- schur.rs. docs/SPECIFICATION.md, "Reduced system". Below d is the system's pose diagonal.
use Rattle.std.specs.Prelude.{ℕ, ◌/◌, ◌%◌, if◌then◌else◌, List, ◌==◌, Float}
use Rattle.numerics.specs.Binary64.{◌⊕◌, ◌⊗◌, relative_tolerance, min_positive}
use Rattle.numerics.specs.Vectors.{◌!◌, sum, tabulate}
use Rattle.numerics.specs.Extrema.{max, fold_max}

-- 64ε · max(the largest of the five entries of d, the smallest normal number)
unfoldable pub pose_floor : List Float → Float
pose_floor d = relative_tolerance ⊗ max (fold_max d) min_positive

-- d with each entry at least that floor
unfoldable pub damping_diagonal : List Float → List Float
damping_diagonal d = tabulate 5 (λ i. max (d ! i) (pose_floor d))

-- Entry k of the damped Hessian. On the diagonal, which is every sixth entry, damping times the
-- damping diagonal's entry is added; elsewhere it stays.
unfoldable pub damped_entry : List Float → List Float → Float → ℕ → Float
damped_entry h diagonal damping k =
    if (k % 6) == 0 then h ! k ⊕ damping ⊗ diagonal ! (k / 6) else h ! k

-- H + damping · diag(damping diagonal of d)
unfoldable pub damped_hessian : List Float → List Float → Float → List Float
damped_hessian h d damping = tabulate 25 (damped_entry h (damping_diagonal d) damping)

-- sᵀ diag(damping diagonal of d) s, of a step s of the pose
unfoldable pub pose_damping_norm : List Float → List Float → Float
pose_damping_norm d step = sum (tabulate 5 (λ i. damping_diagonal d ! i ⊗ step ! i ⊗ step ! i))
