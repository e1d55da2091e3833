use Rattle.std.proofs.Common.{◌&&◌, sym, ap, ◌∙◌, arith}
use Rattle.std.proofs.lemmas.Bool.{eq-eqb, ne_eqb}
use Rattle.contents.specs.Content.{steps_in, net_of, answer_of}
use Rattle.contents.specs.Retracing.{same}
use Rattle.contents.proofs.Walking.{walk_more, walk_stops, walk_all}
use Rattle.pages.proofs.view.PageView.walk.Goals as goal

pub loop-k-preserved : goal.loop-k-preserved
loop-k-preserved g c =
    let k = g.C.Cost in
    let forms = g.C.PageCost.forms in
    let bs = c.args.self.now.bytes.now in
    walk_more k (net_of k forms bs) c.args.total (steps_in (answer_of k forms bs)) c.loop-k.k c.loop-k.station c.loop-k.cost c.in-Some.step c.in-Some.ensures c.if-not-right.ensures ∙ c.loop-k.invariant

pub returns-then-not-right : goal.returns-then-not-right
returns-then-not-right g c =
    let k = g.C.Cost in
    let forms = g.C.PageCost.forms in
    let bs = c.args.self.now.bytes.now in
    walk_stops k (net_of k forms bs) c.args.total (steps_in (answer_of k forms bs)) c.loop-k.k c.loop-k.station c.loop-k.cost c.in-Some.step c.in-Some.ensures c.if-not-right.ensures ∙ c.loop-k.invariant

pub returns-then-station-trap : goal.returns-then-station-trap
returns-then-station-trap g c =
    let k = g.C.Cost in
    let forms = g.C.PageCost.forms in
    let bs = c.args.self.now.bytes.now in
    let net = net_of k forms bs in
    let u = c.loop-k.station in
    let all = walk_all k net c.args.total (steps_in (answer_of k forms bs)) c.loop-k.k u c.loop-k.cost (omega (arith, c.requires)) in
    c.same.ensures ∙ ap (λ b. b && same k c.loop-k.cost c.args.total) (sym (eq-eqb u net.trap (c.if-station-trap.true ∙ c.trap.ensures))) ∙ sym all ∙ c.loop-k.invariant

pub returns-else-station-trap : goal.returns-else-station-trap
returns-else-station-trap g c =
    let k = g.C.Cost in
    let forms = g.C.PageCost.forms in
    let bs = c.args.self.now.bytes.now in
    let net = net_of k forms bs in
    let u = c.loop-k.station in
    let all = walk_all k net c.args.total (steps_in (answer_of k forms bs)) c.loop-k.k u c.loop-k.cost (omega (arith, c.requires)) in
    ne_eqb u c.trap.result c.if-station-trap.false ∙ ap (λ b. b && same k c.loop-k.cost c.args.total) (sym (ne_eqb u net.trap (λ e. c.if-station-trap.false (e ∙ sym c.trap.ensures)))) ∙ sym all ∙ c.loop-k.invariant
