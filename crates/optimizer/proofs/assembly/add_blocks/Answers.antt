use Rattle.std.proofs.Common.{rules, arith}
use Rattle.optimizer.proofs.Blocks.{room_left, block_taken, accepted_next, accepted_still}
use Rattle.optimizer.proofs.assembly.add_blocks.Goals as goal

pub unreachable-requires : goal.unreachable-requires
unreachable-requires c =
    let few = c.count-index-end.ensures.fits.most in
    c.in_default.not-Ok _ (room_left c.args.problem.now c.loop-index.index (omega arith) _ c.loop-index.invariant.system _ c.take_in.ensures.refusal)

pub loop-index-preserved : goal.loop-index-preserved
loop-index-preserved c =
    let few = c.count-index-end.ensures.fits.most in
    let p = c.args.problem.now in
    record {
      within = c.loop-index.invariant.within;
      system = block_taken p c.loop-index.index (omega arith) _ c.loop-index.invariant.system _ _ _ (search rules) (search rules) c.take_in.ensures.system;
      accepted = accepted_next p c.loop-index.index _ _ c.loop-index.invariant.accepted (search rules);
      each = accepted_still p c.loop-index.index _ _ c.loop-index.invariant.each (search rules);
    }
