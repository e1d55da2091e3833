use Rattle.optimality.proofs.Ranges.{fair_of}
use Rattle.search.specs.Calls.{posed}
use Rattle.search.proofs.running.promised.Goals as goal

pub returns : goal.returns
returns g c =
    let kind = g.met.C.Cost in
    fair_of (posed g.C.Cost g.N.Network g.E.Estimates c.args.net.now c.args.estimates.now) kind.lawful kind.ranges c.stations.ensures.range c.count.ensures.range
