use Rattle.std.proofs.Common.{[], ◌∷◌}
use Rattle.numerics.specs.Vectors.{◌!◌}
use Rattle.numerics.proofs.Laws.{floor_clear}
use Rattle.point_block.specs.Damping.{largest_diagonal, damping_diagonal_of}
use Rattle.point_block.proofs.point_damping.damping_diagonal_at.Goals as goal

pub returns : goal.returns
unfolding largest_diagonal damping_diagonal_of
returns c =
    let m = c.args.m in
    let clear = floor_clear (m ! 0 ∷ m ! 4 ∷ m ! 8 ∷ []) c.args.scale c.requires in
    rw (c.max_nonnegative.ensures.low_second clear, c.max_nonnegative-2.ensures.low_second clear, c.max_nonnegative-3.ensures.low_second clear, c.requires)
