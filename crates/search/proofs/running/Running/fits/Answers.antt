use Rattle.std.proofs.Common.{false, sym, arith}
use Rattle.faults.specs.Faults.{opposite}
use Rattle.networks.specs.Nets.{starters}
use Rattle.optimality.proofs.Ranges.{section_fit, tail_within}
use Rattle.search.specs.Calls.{standing}
use Rattle.search.proofs.Spreads.{spread_light}
use Rattle.search.proofs.Following.{followed_none, followed_next, followed_large, followed_none_next, followed_all}
use Rattle.search.proofs.running.Running.fits.Goals as goal

pub returns-then-size-le-LIGHT : goal.returns-then-size-le-LIGHT
returns-then-size-le-LIGHT g c =
    let net = g.N.Network.meaning c.args.self.now.net in
    let f = c.args.front.now in
    let cost = g.met.C.Cost in
    sym (spread_light g.C.Cost cost.lawful net c.args.side f.label (omega (arith, c.size.ensures, c.if-size-le-LIGHT.true)) (λ k s e. (section_fit g.C.Cost net c.requires.range cost.ranges k s e).small) (starters c.args.side net f.station) _)

pub loop-k-init : goal.loop-k-init
loop-k-init g c = followed_none g.C.Cost c.args.side (g.N.Network.meaning c.args.self.now.net) c.args.front.now (standing c.args.self.now c.args.own.now)

pub returns-then-too_large : goal.returns-then-too_large
returns-then-too_large g c =
    let net = g.N.Network.meaning c.args.self.now.net in
    sym {b = false} (followed_large g.C.Cost c.args.side net c.args.front.now (standing c.args.self.now c.args.own.now) c.requires.inside c.requires.held (λ k s e. omega (arith, tail_within g.C.Cost net c.requires.range k s (opposite c.args.side) e, c.requires.long)) c.loop-k.k c.in-Some.number (c.in-Some.ensures.exact) (sym c.if-too_large.ensures) c.loop-k.invariant)

pub loop-k-preserved : goal.loop-k-preserved
loop-k-preserved g c =
    let net = g.N.Network.meaning c.args.self.now.net in
    followed_next g.C.Cost c.args.side net c.args.front.now (standing c.args.self.now c.args.own.now) c.requires.inside c.requires.held (λ k s e. omega (arith, tail_within g.C.Cost net c.requires.range k s (opposite c.args.side) e, c.requires.long)) c.loop-k.k c.in-Some.number (c.in-Some.ensures.exact) (sym c.if-too_large.ensures) c.loop-k.invariant

pub returns-after-loop-k : goal.returns-after-loop-k
returns-after-loop-k g c =
    sym (followed_all g.C.Cost c.args.side (g.N.Network.meaning c.args.self.now.net) c.args.front.now (standing c.args.self.now c.args.own.now) c.loop-k.k (omega (arith, c.sections-k-end.ensures, c.loop-k-test.false)) c.loop-k.invariant)

pub returns-in_default : goal.returns-in_default
returns-in_default g c =
    sym (followed_none_next g.C.Cost c.args.side (g.N.Network.meaning c.args.self.now.net) c.args.front.now (standing c.args.self.now c.args.own.now) c.loop-k.k (c.in_default.ensures.exact) c.loop-k.invariant)
