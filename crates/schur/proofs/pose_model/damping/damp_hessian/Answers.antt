use Rattle.std.proofs.Common.{rules, ◌≡◌, length, arith}
use Rattle.numerics.proofs.Fill.{fill_next, fill_read, fill_all}
use Rattle.schur.specs.PoseDamping.{damped_entry, damped_hessian}
use Rattle.schur.proofs.pose_model.damping.damp_hessian.Goals as goal

pub loop-k-preserved : goal.loop-k-preserved
loop-k-preserved c =
    let h = c.args.h.now in
    let f = damped_entry h c.damping_diagonal-diagonal.result c.args.damping in
    let k = c.loop-k.k in
    let long : length h ≡ 25 = search rules in
    let value = c.damped_entry.ensures h (fill_read h _ f k c.loop-k.invariant.1 (omega (arith, long))) in
    (omega arith, fill_next h _ f k _ c.loop-k.invariant.1 value (omega (arith, long)))

pub returns : goal.returns
unfolding damped_hessian
returns c =
    let h = c.args.h.now in
    let long : length h ≡ 25 = search rules in
    rw (← c.damping_diagonal-diagonal.ensures) (fill_all h _ _ c.loop-k.k 25 c.loop-k.invariant.1 (omega arith) long)
