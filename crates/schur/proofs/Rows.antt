-- The entries of the reduced Hessian of the pose. Assumes nothing.
use Rattle.std.proofs.Common.{List, [], ℕ, ◌+◌, ◌*◌, get_or, Float}
use Rattle.numerics.specs.Binary64.{◌⊕◌, ◌⊖◌}
use Rattle.numerics.specs.Vectors.{◌!◌}
use Rattle.linearization.specs.declared.linearize.LocalLinearization.{LocalLinearization}
use Rattle.schur.specs.SchurComplement.{dot3, cross_row}

-- the entry at row i and column j, by the inverse times each row of the cross Hessian
abbrev pub entry : List Float → LocalLinearization → List (List Float) → ℕ → ℕ → Float
entry h b xs i j = h ! (5 * i + j) ⊕ (b.pose_hessian ! (5 * i + j) ⊖ dot3 (cross_row b.cross_hessian i) (get_or xs j []))
