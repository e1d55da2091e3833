use Rattle.std.proofs.Common.{sym, ◌∙◌}
use Rattle.filing.proofs.Chained.{apart_first, apart_past, apart_on, apart_off}
use Rattle.filing.proofs.chain.first_apart.Goals as goal

pub loop-step-init : goal.loop-step-init
loop-step-init g c = apart_first c.args.steps.now

pub loop-step-preserved : goal.loop-step-preserved
loop-step-preserved g c =
    apart_on c.args.steps.now c.loop-step.step _ _ c.loop-step.auto.step c.loop-step-test.true c.if-steps-step.false ∙ c.loop-step.invariant

pub returns : goal.returns
returns g c = sym (apart_past c.args.steps.now c.loop-step.step c.loop-step-test.false) ∙ c.loop-step.invariant

pub returns-then-steps-step : goal.returns-then-steps-step
returns-then-steps-step g c =
    sym (apart_off c.args.steps.now c.loop-step.step _ _ c.loop-step.auto.step c.loop-step-test.true c.if-steps-step.true) ∙ c.loop-step.invariant
