-- The layouts of a block and of a system as c_calls/src/layout/numbers.rt writes them: the numbers
-- and the counts that `Layout` reads, in the same order.
use Rattle.std.specs.Prelude.{ℕ, Bool, if◌then◌else◌, List, [], ◌∷◌, ◌++◌, Float}
use Rattle.linearization.specs.declared.linearize.LocalLinearization.{LocalLinearization}
use Rattle.schur.specs.declared.reduced_system.ReducedSystem.{ReducedSystem}

-- the 59 numbers of a block
unfoldable pub block_numbers : LocalLinearization → List Float
block_numbers b =
    b.pose_hessian ++ b.cross_hessian ++ b.point_hessian
    ++ b.pose_gradient ++ b.point_gradient
    ++ (b.cost ∷ b.squared_residual ∷ [])

-- the 45 numbers of a system
unfoldable pub system_numbers : ReducedSystem → List Float
system_numbers s =
    s.hessian ++ s.gradient
    ++ (s.cost ∷ s.squared_residual ∷ [])
    ++ s.full_pose_gradient ++ s.pose_diagonal
    ++ (s.point_model_reduction ∷ s.scaled_point_gradient_inf_norm ∷ s.minimum_point_rcond ∷ [])

-- a flag is written as 1 or 0
abbrev pub flag : Bool → ℕ
flag b = if b then 1 else 0

-- the three counts of a system
unfoldable pub system_counts : ReducedSystem → List ℕ
system_counts s = s.weak_point_count ∷ s.block_count ∷ flag s.valid ∷ []
