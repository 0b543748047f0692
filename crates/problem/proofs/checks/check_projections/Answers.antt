use Rattle.std.proofs.Common.{refl, sym, arith}
use Rattle.refusal.proofs.Scans.{ends, goes_on, leaves}
use Rattle.problem.proofs.Parts.{views_begin, seen_check}
use Rattle.problem.proofs.checks.check_projections.Goals as goal

pub views-init : goal.views-init
views-init c = (c.points.invariant.0, views_begin c.args.fitting.now c.points.index)

pub views-preserved : goal.views-preserved
views-preserved c =
    let e = seen_check c.args.fitting.now c.points.index c.views.view-index _ _ _ _ _ _ refl c.observation_numbers.ensures c.coordinates.ensures c.rig.ensures c.project-projected.ensures c.if-is_err.ensures.negation in
    (c.views.invariant.0, goes_on _ _ _ _ c.views.invariant.1 (omega arith) e)

pub points-preserved : goal.points-preserved
points-preserved c =
    (c.views.invariant.0, c.points.invariant.1, goes_on _ _ _ _ c.points.invariant.2 (omega arith) (ends _ _ _ _ c.views.invariant.1 (omega arith)))

pub returns-then-is_err : goal.returns-then-is_err
returns-then-is_err c =
    let e = seen_check c.args.fitting.now c.points.index c.views.view-index _ _ _ _ _ _ refl c.observation_numbers.ensures c.coordinates.ensures c.rig.ensures c.project-projected.ensures c.if-is_err.ensures.negation in
    sym (leaves _ _ _ _ c.points.invariant.2 _ (omega arith) (leaves _ _ _ _ c.views.invariant.1 _ (omega arith) e))
