use Rattle.std.proofs.Common.{subst}
use Rattle.networks.specs.Given.{GivenInRange}
use Rattle.networks.specs.Nets.{InRange}
use Rattle.filing.proofs.Routed.{listed_by, route_stands}
use Rattle.filing.proofs.route.route.Goals as goal

pub returns-clause-listed : goal.returns-clause-listed
returns-clause-listed g c =
    listed_by g.C.Cost g.C.PageCost.forms g.met.C.Cost.lawful g.met.C.Cost.ranges g.met.C.PageCost.totals (g.N.Network.meaning c.args.found.now.net)
    (subst (λ x. InRange g.C.Cost.section_range (g.N.Network.meaning x)) c.network.ensures c.promised.ensures.range)
    c.args.steps.now c.args.turning.now c.args.found.now.meeting c.args.sheet.now _ c.list_route.ensures

pub returns-clause-stands : goal.returns-clause-stands
returns-clause-stands g c =
    route_stands g.C.Cost g.N.Network g.E.Estimates g.C.PageCost.forms g.met.C.Cost.lawful g.met.C.Cost.ranges g.met.C.PageCost.totals c.args.found.now c.args.sheet.now c.args.steps.now c.args.turning.now
    (subst (λ x. InRange g.C.Cost.section_range (g.N.Network.meaning x)) c.network.ensures c.promised.ensures.range)
    (subst (λ x. GivenInRange g.C.Cost.estimate_range (g.E.Estimates.meaning x)) c.estimates.ensures c.promised.ensures.given)
    _ c.list_route.ensures
