use Rattle.std.proofs.Common.{refl, rules}
use Rattle.c_calls.specs.LayoutNumbers.{system_numbers}
use Rattle.c_calls.proofs.Writing.{nothing_written, next_written, all_written}
use Rattle.c_calls.proofs.layout.numbers.system_numbers.Goals as goal

pub returns : goal.returns
unfolding system_numbers
returns c =
    let s = c.args.s in
    let w1 = next_written _ _ _ s.«hessian» _ _ 25 (nothing_written _) (search rules) c.copy.ensures in
    let w2 = next_written _ _ _ s.«gradient» _ _ 5 w1 (search rules) c.copy-2.ensures in
    let w3 = next_written _ _ _ _ _ _ 2 w2 refl c.copy-3.ensures in
    let w4 = next_written _ _ _ s.full_pose_gradient _ _ 5 w3 (search rules) c.copy-4.ensures in
    let w5 = next_written _ _ _ s.pose_diagonal _ _ 5 w4 (search rules) c.copy-5.ensures in
    all_written _ _ _ _ (next_written _ _ _ _ _ _ 3 w5 refl c.copy-6.ensures) refl
