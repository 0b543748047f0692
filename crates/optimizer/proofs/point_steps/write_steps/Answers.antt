use Rattle.std.proofs.Common.{◌≡◌, ap, ◌∙◌, arith}
use Rattle.schur.specs.declared.point_step.PointStep.{PointStep}
use Rattle.optimizer.specs.PointSteps.{step_at}
use Rattle.optimizer.proofs.Passes.{filled_next, squared_next, norm_next}
use Rattle.optimizer.proofs.PointStepsLaws.{moved_is}
use Rattle.optimizer.proofs.point_steps.write_steps.Goals as goal

pub unreachable-requires : goal.unreachable-requires
unreachable-requires c =
    c.in_default.not-Ok _ (moved_is c.args.problem.now c.fitting-fitting.ensures.checked c.requires.valid c.args.pose_step c.loop-index.index (omega arith) _ _ _ _ _ _ c.fitting-fitting.ensures.problem c.correspondence.ensures c.rig.ensures c.terms_of-terms.ensures c.damping-damping.ensures c.damped_step.ensures.result)

pub loop-index-preserved : goal.loop-index-preserved
loop-index-preserved c =
    let k = moved_is c.args.problem.now c.fitting-fitting.ensures.checked c.requires.valid c.args.pose_step c.loop-index.index (omega arith) _ _ _ _ _ _ c.fitting-fitting.ensures.problem c.correspondence.ensures c.rig.ensures c.terms_of-terms.ensures c.damping-damping.ensures c.damped_step.ensures.result in
    let e : c.in-Ok.moved ≡ step_at c.args.problem.now c.args.pose_step c.loop-index.index = cc in
    let step = ap (λ (m : PointStep). m.step) e in
    record {
      within = c.loop-index.invariant.within;
      filled = filled_next _ _ _ _ _ c.loop-index.invariant.filled (c.copy_from_slice.ensures.after ∙ step) (omega arith);
      squares = squared_next _ _ _ _ _ _ c.loop-index.invariant.squares step c.squared_norm-squared.ensures;
      norms = norm_next _ _ _ _ _ c.loop-index.invariant.norms e;
    }
