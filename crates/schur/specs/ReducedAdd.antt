-- A block taken into the reduced system, with its point eliminated: `add` of schur.rs.
-- docs/SPECIFICATION.md, "Reduced system".
use Rattle.std.specs.Prelude.{ℕ, suc, ◌<◌, ◌≤◌, ◌&&◌, if◌then◌else◌, nat_le, nat_lt}
use Rattle.std.specs.Prelude.{Float, Result, Ok, Err}
use Rattle.numerics.specs.Extrema.{max}
use Rattle.numerics.specs.Binary64.{◌⊕◌}
use Rattle.std.specs.Result.{result_and}
use Rattle.refusal.specs.Chain.{◌>>=◌}
use Rattle.refusal.specs.Outcome.{outcome}
use Rattle.refusal.specs.FirstRefusal.{CheckResult}
use Rattle.refusal.specs.declared.Refusal.{Refusal}
use Rattle.refusal.specs.declared.Refusal.TheVariants.{WeakCount, Full}
use Rattle.point_block.specs.Damping.{valid_damping}
use Rattle.linearization.specs.declared.linearize.LocalLinearization.{LocalLinearization}
use Rattle.schur.specs.GradientNorm.{point_gradient_norm}
use Rattle.schur.specs.PoseModel.{sum5, diagonal5}
use Rattle.schur.specs.declared.reduced_system.ReducedSystem.{ReducedSystem}
use Rattle.schur.specs.BlockElimination.{count_if, elimination_of}

-- the most blocks that a system takes in
abbrev pub max_blocks : ℕ
max_blocks = 65535

-- The system with a block. Every block adds its costs, its pose gradient and its pose diagonal, and
-- the largest scaled point gradient stays the largest; the equations, the smallest rcond and the
-- weak count are those after the elimination of its point. A block that does not factor clears the
-- flag.
unfoldable pub with_block : ReducedSystem → LocalLinearization → Float → ReducedSystem
with_block s b damping = let e = elimination_of s b damping in record {
  hessian = e.hessian;
  gradient = e.gradient;
  cost = s.cost ⊕ b.cost;
  squared_residual = s.squared_residual ⊕ b.squared_residual;
  full_pose_gradient = sum5 s.full_pose_gradient b.pose_gradient;
  pose_diagonal = sum5 s.pose_diagonal (diagonal5 b.pose_hessian);
  point_model_reduction = e.point_model_reduction;
  scaled_point_gradient_inf_norm =
      max s.scaled_point_gradient_inf_norm (point_gradient_norm b.point_gradient b.point_hessian);
  weak_point_count = count_if e.weak s.weak_point_count;
  minimum_point_rcond = e.minimum_point_rcond;
  valid = s.valid && e.factored;
  block_count = suc s.block_count;
}

-- A system that takes in one more block: it has fewer than the most, and no more weak ones than it
-- has, so that neither row 12 nor row 13 refuses the block.
abbrev pub HasRoom : ReducedSystem → Type 0
HasRoom s = (s.block_count < max_blocks) × (s.weak_point_count ≤ s.block_count)

-- row 12, a weak count above the block count; then row 13, the most blocks already
abbrev pub check_room : ReducedSystem → CheckResult
check_room s =
    if nat_le s.weak_point_count s.block_count
    then (if nat_lt s.block_count max_blocks then Ok tt else Err Full)
    else Err WeakCount

-- `add` at a valid damping: rows 12 and 13, and then the system with the block
abbrev pub take_in : ReducedSystem → LocalLinearization → Float → Result ReducedSystem Refusal
take_in s b damping = result_and (check_room s) (Ok (with_block s b damping))

-- `add`: rows 3, 12 and 13, and then the system with the block
unfoldable pub add : ReducedSystem → LocalLinearization → Float → Result ReducedSystem Refusal
add s b damping = valid_damping damping >>= take_in s b

-- The system that a call leaves its caller with: the one handed back, and where the call is refused
-- the one that the caller had.
abbrev pub system_after : ReducedSystem → Result ReducedSystem Refusal → ReducedSystem
system_after s r = (outcome s r).values
