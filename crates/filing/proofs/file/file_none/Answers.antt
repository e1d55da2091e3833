use Rattle.std.proofs.Common.{subst}
use Rattle.networks.specs.Given.{GivenInRange}
use Rattle.networks.specs.Nets.{InRange}
use Rattle.filing.proofs.Stands.{file_none_stands}
use Rattle.filing.proofs.file.file_none.Goals as goal

pub returns-clause-stands : goal.returns-clause-stands
returns-clause-stands g c =
    file_none_stands g.C.Cost g.C.PageCost.forms g.N.Network g.E.Estimates g.met.C.Cost.lawful (record { ranges = g.met.C.Cost.ranges; sections = g.met.C.PageCost.sections; labels = g.met.C.PageCost.labels; kinds = g.met.C.PageCost.kinds }) g.met.C.PageCost.totals
    c.args.run c.ranges.run.fits c.args.page.now c.args.none.now
    (subst (λ x. InRange g.C.Cost.section_range (g.N.Network.meaning x)) c.network.ensures c.promised.ensures.range)
    (subst (λ x. GivenInRange g.C.Cost.estimate_range (g.E.Estimates.meaning x)) c.estimates.ensures c.promised.ensures.given)
    _ c.write_none.ensures.exact c.write_none.ensures.filed
