use Rattle.std.proofs.Common.{◌+◌, ◌-◌, length, take, set, refl, ap, ◌∙◌, arith}
use Rattle.std.proofs.lemmas.List.{length-set}
use Rattle.filing.specs.Arrivals.{followed}
use Rattle.filing.proofs.Followed.{counted_on}
use Rattle.filing.proofs.Filling.{filled, none_yet, all_left, fill_on, not_yet, not_off, all_filled}
use Rattle.filing.proofs.listing.list_followed.Goals as goal

pub loop-place-init : goal.loop-place-init
loop-place-init g c =
    let net = g.N.Network.meaning c.args.net.now in
    record {
      long = refl;
      full = none_yet g.C.Cost net c.args.own.now c.args.side _ c.args.station c.requires;
      left = all_left g.C.Cost net c.args.own.now c.args.side _ c.args.station c.args.list.now;
    }

pub loop-place-preserved : goal.loop-place-preserved
loop-place-preserved g c =
    let net = g.N.Network.meaning c.args.net.now in
    let i = c.loop-place.place in
    record {
      long = length-set c.loop-place.list i c.bare_step.result ∙ c.loop-place.invariant.long;
      full = counted_on net c.args.own.now c.args.side _ i c.loop-place.at (omega (arith, c.loop-place-test.true)) c.in-Some.number c.in-Some-before.next c.in-Some.ensures c.in-Some-before.ensures ∙ c.loop-place.invariant.full;
      left = ap (λ s. filled g.C.Cost net c.args.own.now c.args.side (take (i + 1) (set c.loop-place.list i s)) (followed net c.args.own.now c.args.side (length c.args.list.now + 1 - (i + 1)) c.in-Some-before.next)) c.bare_step.ensures ∙ fill_on g.C.Cost net c.args.own.now c.args.side _ i c.loop-place.at c.loop-place-test.true c.in-Some.number c.in-Some-before.next c.in-Some.ensures c.in-Some-before.ensures c.loop-place.list c.loop-place.invariant.long ∙ c.loop-place.invariant.left;
    }

pub returns-after-loop-place : goal.returns-after-loop-place
returns-after-loop-place g c = all_filled g.C.Cost (g.N.Network.meaning c.args.net.now) c.args.own.now c.args.side _ c.loop-place.place c.loop-place.at (omega (arith, c.loop-place-test.false)) c.loop-place.invariant.full c.loop-place.list c.loop-place.invariant.long ∙ c.loop-place.invariant.left

pub returns-in_default : goal.returns-in_default
returns-in_default g c = absurd (not_yet g.C.Cost (g.N.Network.meaning c.args.net.now) c.args.own.now c.args.side _ c.loop-place.place c.loop-place.at c.loop-place-test.true c.loop-place.invariant.full c.in_default.ensures)

pub returns-in_default-before : goal.returns-in_default-before
returns-in_default-before g c = absurd (not_off g.C.Cost (g.N.Network.meaning c.args.net.now) c.args.own.now c.args.side _ c.loop-place.place c.loop-place.at c.loop-place-test.true c.loop-place.invariant.full c.in-Some.number c.in-Some.ensures c.in_default-before.ensures)
