use Rattle.std.proofs.Common.{ap, ◌∙◌, arith}
use Rattle.numerics.specs.Vectors.{all_finite}
use Rattle.refusal.proofs.Scans.{goes_on, is_good}
use Rattle.problem.proofs.checks.check_points.Goals as goal

pub loop-index-preserved : goal.loop-index-preserved
loop-index-preserved c =
    let e = is_good _ _ _ (c.all_finite.ensures ∙ ap all_finite c.coordinates.ensures) c.if-not-all_finite.false in
    (c.loop-index.invariant.0, goes_on _ _ _ _ c.loop-index.invariant.1 (omega arith) e)
