use Rattle.std.proofs.Common.{refl, rules}
use Rattle.c_calls.specs.LayoutNumbers.{block_numbers}
use Rattle.c_calls.proofs.Writing.{nothing_written, next_written, all_written}
use Rattle.c_calls.proofs.layout.numbers.block_numbers.Goals as goal

pub returns : goal.returns
unfolding block_numbers
returns c =
    let b = c.args.b in
    let w1 = next_written _ _ _ b.pose_hessian _ _ 25 (nothing_written _) (search rules) c.copy.ensures in
    let w2 = next_written _ _ _ b.cross_hessian _ _ 15 w1 (search rules) c.copy-2.ensures in
    let w3 = next_written _ _ _ b.point_hessian _ _ 9 w2 (search rules) c.copy-3.ensures in
    let w4 = next_written _ _ _ b.pose_gradient _ _ 5 w3 (search rules) c.copy-4.ensures in
    let w5 = next_written _ _ _ b.point_gradient _ _ 3 w4 (search rules) c.copy-5.ensures in
    all_written _ _ _ _ (next_written _ _ _ _ _ _ 2 w5 refl c.copy-6.ensures) refl
