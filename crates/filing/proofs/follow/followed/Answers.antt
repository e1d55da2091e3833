use Rattle.std.proofs.Common.{◌==◌, sym, ap, ◌∙◌}
use Rattle.std.specs.Bool.{then_some}
use Rattle.filing.proofs.Followed.{counted_end, counted_off, counted_on}
use Rattle.filing.proofs.follow.followed.Goals as goal

pub returns-in_default-clause-count : goal.returns-in_default-clause-count
returns-in_default-clause-count g c =
    let net = g.N.Network.meaning c.args.net.now in
    c.then_some.ensures ∙ ap (λ s. then_some (c.loop-steps.at == s) c.loop-steps.steps) c.start.ensures ∙ sym (counted_end net c.args.own.now c.args.side c.args.limit c.loop-steps.steps c.loop-steps.at c.loop-steps-test.true c.in_default.ensures) ∙ c.loop-steps.invariant

pub returns-in_err-at-clause-count : goal.returns-in_err-at-clause-count
returns-in_err-at-clause-count g c =
    let net = g.N.Network.meaning c.args.net.now in
    c.from_residual.ensures
    ∙ sym (counted_off net c.args.own.now c.args.side c.args.limit c.loop-steps.steps c.loop-steps.at c.loop-steps-test.true c.in-Some.number c.in-Some.ensures (sym (c.in_err-at.was) ∙ c.before-in-loop-steps.ensures))
    ∙ c.loop-steps.invariant

pub loop-steps-preserved : goal.loop-steps-preserved
loop-steps-preserved g c =
    let net = g.N.Network.meaning c.args.net.now in
    counted_on net c.args.own.now c.args.side c.args.limit c.loop-steps.steps c.loop-steps.at c.loop-steps-test.true c.in-Some.number c.in_ok-at.at c.in-Some.ensures (sym (c.in_ok-at.was) ∙ c.before-in-loop-steps.ensures)
    ∙ c.loop-steps.invariant
