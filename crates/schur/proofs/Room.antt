-- How a block moves the counts of a system. Assumes nothing.
use Rattle.std.proofs.Common.{◌≡◌, ℕ, suc, ◌≤◌, Bool, true, false, refl, arith}
use lib.Ieee.{Float}
use Rattle.linearization.specs.declared.linearize.LocalLinearization.{LocalLinearization}
use Rattle.schur.specs.declared.reduced_system.ReducedSystem.{ReducedSystem}
use Rattle.schur.specs.BlockElimination.{count_if, elimination_of}
use Rattle.schur.specs.ReducedAdd.{with_block}

-- the same number, or one more
pub count_if_bounds : (b : Bool) (n : ℕ) → (n ≤ count_if b n) × (count_if b n ≤ suc n)
count_if_bounds true n = (omega arith, omega arith)
count_if_bounds false n = (omega arith, omega arith)

module _ (s : ReducedSystem) (b : LocalLinearization) (d : Float) where
  pub blocks_taken : (with_block s b d).block_count ≡ suc s.block_count
  unfolding with_block
  blocks_taken = refl

  pub weak_taken_at_most : s.weak_point_count ≤ s.block_count → (with_block s b d).weak_point_count ≤ (with_block s b d).block_count
  unfolding with_block
  weak_taken_at_most h = let k = count_if_bounds (elimination_of s b d).weak s.weak_point_count in omega (arith, k)
