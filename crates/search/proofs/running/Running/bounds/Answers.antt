use Rattle.search.proofs.Public.{bounds_rule, bounds_reason, bounds_stand}
use Rattle.search.proofs.running.Running.bounds.Goals as goal

pub returns-clause-stands : goal.returns-clause-stands
returns-clause-stands g c = bounds_stand g.C.Cost g.N.Network g.E.Estimates c.args.self.now c.promised.ensures c.args.sheet.now c.known.result c.known.ensures

pub returns-clause-rule : goal.returns-clause-rule
returns-clause-rule g c = bounds_rule g.C.Cost g.N.Network g.E.Estimates c.args.self.now c.promised.ensures c.args.sheet.now c.known.result c.known.ensures

pub returns-clause-reasons : goal.returns-clause-reasons
returns-clause-reasons g c = bounds_reason g.C.Cost g.N.Network g.E.Estimates c.args.self.now c.promised.ensures c.args.sheet.now c.known.result c.known.ensures
