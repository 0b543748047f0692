use Rattle.std.proofs.Common.{rules, sym, ◌∙◌}
use Rattle.optimizer.proofs.Whole.{wrong_length, unreadable, checks_refused, damped, not_valid, not_solved, solved}
use Rattle.optimizer.proofs.whole_step.step.Goals as goal

pub returns-then-point_steps-problem : goal.returns-then-point_steps-problem
returns-then-point_steps-problem c = wrong_length c.args.problem.now _ (rw (← c.problem.view_is) c.if-point_steps-problem.true)

pub returns-in_err-readable : goal.returns-in_err-readable
returns-in_err-readable c =
    unreadable c.args.problem.now c.args.point_steps.now (rw (← c.problem.view_is) c.if-point_steps-problem.false) _ _ (sym c.new.ensures ∙ c.in_err-readable.was) (search rules)

pub returns-in_err-checked : goal.returns-in_err-checked
returns-in_err-checked c =
    checks_refused c.args.problem.now c.args.point_steps.now (rw (← c.problem.view_is) c.if-point_steps-problem.false) _ (sym c.new.ensures ∙ c.in_ok-readable.was) _ _ (sym c.checked.ensures ∙ c.in_err-checked.was) (search rules)

pub returns-then-not-is_valid : goal.returns-then-not-is_valid
returns-then-not-is_valid c =
    not_valid c.args.problem.now c.args.point_steps.now (rw (← c.problem.view_is) c.if-point_steps-problem.false) _ (sym c.new.ensures ∙ c.in_ok-readable.was) _ (sym c.checked.ensures ∙ c.in_ok-checked.was)
    _ _ _ c.add_blocks-accepted.ensures.system c.damping.ensures c.damp.ensures (sym c.is_valid.ensures ∙ c.if-not-is_valid.true)

pub write_steps-sums-requires-clause-valid : goal.write_steps-sums-requires-clause-valid
write_steps-sums-requires-clause-valid c =
    rw (← damped c.args.problem.now c.args.point_steps.now (rw (← c.problem.view_is) c.if-point_steps-problem.false) _ (sym c.new.ensures ∙ c.in_ok-readable.was) _ (sym c.checked.ensures ∙ c.in_ok-checked.was) _ _ _ c.add_blocks-accepted.ensures.system c.damping.ensures c.damp.ensures)
    (sym c.is_valid.ensures ∙ c.if-not-is_valid.false)

pub returns-in_err-x : goal.returns-in_err-x
returns-in_err-x c =
    not_solved c.args.problem.now c.args.point_steps.now (rw (← c.problem.view_is) c.if-point_steps-problem.false) _ (sym c.new.ensures ∙ c.in_ok-readable.was) _ (sym c.checked.ensures ∙ c.in_ok-checked.was)
    _ _ _ c.add_blocks-accepted.ensures.system c.damping.ensures c.damp.ensures (sym c.is_valid.ensures ∙ c.if-not-is_valid.false)
    _ _ (sym c.solve_positive_definite.ensures.result ∙ c.in_err-x.was) (search rules)

pub returns : goal.returns
returns c =
    solved c.args.problem.now c.args.point_steps.now (rw (← c.problem.view_is) c.if-point_steps-problem.false) _ (sym c.new.ensures ∙ c.in_ok-readable.was) _ (sym c.checked.ensures ∙ c.in_ok-checked.was)
    _ _ _ c.add_blocks-accepted.ensures.system c.damping.ensures c.damp.ensures (sym c.is_valid.ensures ∙ c.if-not-is_valid.false)
    _ _ _ _ _ (sym c.solve_positive_definite.ensures.result ∙ c.in_ok-x.was) c.negated_limited_step-pose_step.ensures c.write_steps-sums.ensures.sums c.write_steps-sums.ensures.steps c.of.ensures
