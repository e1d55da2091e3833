use Rattle.std.proofs.Common.{◌+◌, ◌++◌, reverse, Ok, refl, sym, ap, ap₂, ◌∙◌, arith}
use Rattle.filing.proofs.Halving.{plan_of}
use Rattle.filing.proofs.Lists.{first_ones, turning_fits, back_fills, ahead_fills, back_listed, ahead_listed, lists_are}
use Rattle.filing.proofs.route.list.Goals as goal

pub split_at_mut-turned-requires : goal.split_at_mut-turned-requires
split_at_mut-turned-requires g c =
    let net = g.N.Network.meaning c.args.net.now in
    turning_fits g.C.Cost net c.args.meeting c.args.sheet.now _ c.args.halves (plan_of net c.args.meeting c.args.sheet.now _ c.args.halves c.requires) c.args.steps.now c.args.turning.now refl

pub list_followed-requires : goal.list_followed-requires
list_followed-requires g c =
    let net = g.N.Network.meaning c.args.net.now in
    back_fills g.C.Cost net c.args.meeting c.args.sheet.now _ c.args.halves (plan_of net c.args.meeting c.args.sheet.now _ c.args.halves c.requires)
    c.in-Some.own.now (c.in-Some.ensures.lookup.0.2 ∙ first_ones c.args.sheet.now c.stations.result net.stations c.stations.ensures.count)
    _ c.split_at_mut-turned.ensures.front_len

pub list_followed-requires-2 : goal.list_followed-requires-2
list_followed-requires-2 g c =
    let net = g.N.Network.meaning c.args.net.now in
    ahead_fills g.C.Cost net c.args.meeting c.args.sheet.now _ c.args.halves (plan_of net c.args.meeting c.args.sheet.now _ c.args.halves c.requires)
    c.in-Some.own.now (c.in-Some.ensures.lookup.0.2 ∙ first_ones c.args.sheet.now c.stations.result net.stations c.stations.ensures.count)
    _ (omega (arith, c.split_at_mut-front.ensures.back_len, c.split_at_mut-route.ensures.front_len))

pub returns : goal.returns
returns g c =
    let net = g.N.Network.meaning c.args.net.now in
    let plan = plan_of net c.args.meeting c.args.sheet.now _ c.args.halves c.requires in
    let own = c.in-Some.ensures.lookup.0.2 ∙ first_ones c.args.sheet.now c.stations.result net.stations c.stations.ensures.count in
    let behind = back_listed g.C.Cost net c.args.meeting c.args.sheet.now _ c.args.halves plan c.in-Some.own.now own _ c.split_at_mut-turned.ensures.front_len c.list_followed.new.list c.list_followed.ensures in
    let ahead = ahead_listed g.C.Cost net c.args.meeting c.args.sheet.now _ c.args.halves plan c.in-Some.own.now own _ (omega (arith, c.split_at_mut-front.ensures.back_len, c.split_at_mut-route.ensures.front_len)) c.list_followed-2.new.list c.list_followed-2.ensures in
    ap₂ (λ steps turning. record { answer = Ok (c.args.halves.behind + c.args.halves.ahead); steps = steps; turning = turning })
    (ap₂ (λ a b. a ++ b) (sym c.split_at_mut-front-2.ensures.value) c.split_at_mut-route.ensures.back)
    (ap (λ a. c.turn-2.new.to ++ a) c.split_at_mut-turned.ensures.back)
    ∙ lists_are g.C.Cost net c.args.meeting c.args.sheet.now _ c.args.halves plan c.args.steps.now c.args.turning.now refl
    c.list_followed.new.list c.turn.new.to c.list_followed-2.new.list c.add_costs.new.steps c.turn-2.new.to
    behind c.turn.ensures ahead c.add_costs.ensures (c.turn-2.ensures ∙ ap reverse c.split_at_mut-front-2.ensures.front)
