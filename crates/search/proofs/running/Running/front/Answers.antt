use Rattle.std.proofs.Common.{ap, ◌∙◌}
use Rattle.optimality.specs.Search.{least}
use Rattle.search.specs.Calls.{problem, standing}
use Rattle.search.proofs.Ready.{front_ready}
use Rattle.search.proofs.running.Running.front.Goals as goal

pub returns-clause-ready : goal.returns-clause-ready
returns-clause-ready g c =
    let p = problem g.C.Cost g.N.Network g.E.Estimates c.args.self.now in
    let rows = c.args.own.now in
    front_ready p g.met.C.Cost.lawful (standing c.args.self.now rows) c.args.side c.least.result
    (c.least.ensures ∙ ap (least g.C.Cost p.estimates rows c.args.side) c.stations.ensures.count)
