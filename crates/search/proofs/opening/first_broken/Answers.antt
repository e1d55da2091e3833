use Rattle.std.proofs.Common.{sym, ◌∙◌}
use Rattle.search.specs.Calls.{posed}
use Rattle.search.proofs.Opened.{broken_forward, broken_backward, broken_later}
use Rattle.search.proofs.opening.first_broken.Goals as goal

pub returns-then-breaks : goal.returns-then-breaks
returns-then-breaks g c =
    let p = posed g.C.Cost g.N.Network g.E.Estimates c.args.net.now c.args.estimates.now in
    sym (broken_forward p p.net.sections c.loop-number.number c.in-Some.section (c.in-Some.ensures.exact) c.if-breaks.ensures) ∙ c.loop-number.invariant

pub returns-then-breaks-2 : goal.returns-then-breaks-2
returns-then-breaks-2 g c =
    let p = posed g.C.Cost g.N.Network g.E.Estimates c.args.net.now c.args.estimates.now in
    sym (broken_backward p p.net.sections c.loop-number.number c.in-Some.section (c.in-Some.ensures.exact) c.if-breaks.ensures c.if-breaks-2.ensures) ∙ c.loop-number.invariant

pub loop-number-preserved : goal.loop-number-preserved
loop-number-preserved g c =
    let p = posed g.C.Cost g.N.Network g.E.Estimates c.args.net.now c.args.estimates.now in
    broken_later p p.net.sections c.loop-number.number c.in-Some.section (c.in-Some.ensures.exact) c.if-breaks.ensures c.if-breaks-2.ensures ∙ c.loop-number.invariant
