use Rattle.std.proofs.Common.{◌+◌, Ok, Err, refl, sym, ap, ap₂, ◌∙◌}
use Rattle.std.proofs.lemmas.Result.{err_from_is_err_and}
use Rattle.filing.specs.Listing.{route_of}
use Rattle.filing.proofs.Filed.{planned_from, file_refused, file_written, listed_first, content_is}
use Rattle.contents.specs.Writing.{write_of}
use Rattle.filing.proofs.file.file_route.Goals as goal

pub returns-in_err-check_room : goal.returns-in_err-check_room
returns-in_err-check_room g c =
    let f = c.args.found.now in
    let h = c.in_ok-halves.halves in
    let plan = planned_from g.N.Network c.network-net.result.now f.net c.meeting-meeting.result f.meeting c.args.sheet.now c.min.result _ h c.plan.result c.network-net.ensures c.meeting-meeting.ensures c.min.ensures c.in_ok-halves.was c.plan.ensures.exact in
    (let (x, is, same) = err_from_is_err_and c.from_residual-in_err-check_room.result c.from_residual-in_err-check_room.ensures.1 in ap (λ a. record { answer = a; steps = c.args.steps.now; turning = c.args.turning.now; page = c.args.page.now }) (is ∙ ap Err same)) ∙ file_refused g.C.Cost g.C.PageCost.forms g.N.Network g.E.Estimates g.met.C.Cost.lawful g.met.C.Cost.ranges g.met.C.PageCost.totals f c.args.run c.args.sheet.now c.args.steps.now c.args.turning.now c.args.page.now c.check_room.ensures.range h plan c.in_err-check_room.field-0.0 (sym c.check_room.ensures.exact ∙ c.in_err-check_room.was)

pub returns : goal.returns
returns g c =
    let f = c.args.found.now in
    let h = c.in_ok-halves.halves in
    let plan = planned_from g.N.Network c.network-net.result.now f.net c.meeting-meeting.result f.meeting c.args.sheet.now c.min.result _ h c.plan.result c.network-net.ensures c.meeting-meeting.ensures c.min.ensures c.in_ok-halves.was c.plan.ensures.exact in
    let routed = c.list.ensures ∙ ap₂ (λ x m. route_of g.C.Cost (g.N.Network.meaning x) c.args.steps.now c.args.turning.now m c.args.sheet.now) c.network-net.ensures c.meeting-meeting.ensures in
    let first = listed_first g.C.Cost g.C.PageCost.forms g.N.Network g.E.Estimates g.met.C.Cost.lawful g.met.C.Cost.ranges g.met.C.PageCost.totals f c.args.run c.args.sheet.now c.args.steps.now c.args.turning.now c.args.page.now c.check_room.ensures.range h plan _ (h.behind + h.ahead) c.split_at_mut-steps.result.0.now refl c.split_at_mut-steps.ensures.front routed in
    let content = content_is g.C.Cost g.C.PageCost.forms g.N.Network g.E.Estimates g.met.C.Cost.lawful g.met.C.Cost.ranges g.met.C.PageCost.totals f c.args.run c.args.sheet.now c.args.steps.now c.args.turning.now c.args.page.now c.check_room.ensures.range h plan c.network-net.result.now c.estimates.result.now c.last_cost.result c.taken.result c.split_at_mut-steps.result.0.now c.network-net.ensures c.estimates.ensures first c.last_cost.ensures c.taken.ensures in
    ap (λ steps. record { answer = c.write.result; steps = steps; turning = c.list.new.turning; page = c.write.new.page }) (sym c.split_at_mut-steps.ensures.value)
    ∙ file_written g.C.Cost g.C.PageCost.forms g.N.Network g.E.Estimates g.met.C.Cost.lawful g.met.C.Cost.ranges g.met.C.PageCost.totals f c.args.run c.args.sheet.now c.args.steps.now c.args.turning.now c.args.page.now c.check_room.ensures.range h plan
    (sym c.check_room.ensures.exact ∙ c.in_ok-check_room.was) (record { answer = Ok (h.behind + h.ahead); steps = c.list.new.steps; turning = c.list.new.turning }) (record { answer = c.write.result; page = c.write.new.page }) routed (c.write.ensures.left ∙ ap (write_of g.C.Cost g.C.PageCost.forms c.args.page.now) content)
