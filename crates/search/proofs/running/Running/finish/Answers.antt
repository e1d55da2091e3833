use Rattle.search.proofs.Public.{finish_rule, finish_reason, finish_stands}
use Rattle.search.proofs.running.Running.finish.Goals as goal

pub returns-clause-stands : goal.returns-clause-stands
returns-clause-stands g c = finish_stands g.C.Cost g.N.Network g.E.Estimates c.args.self c.promised.ensures c.args.sheet.now c.conclude.result c.conclude.ensures

pub returns-clause-rule : goal.returns-clause-rule
returns-clause-rule g c = finish_rule g.C.Cost g.N.Network g.E.Estimates c.args.self c.promised.ensures c.args.sheet.now c.conclude.result c.conclude.ensures

pub returns-clause-reasons : goal.returns-clause-reasons
returns-clause-reasons g c = finish_reason g.C.Cost g.N.Network g.E.Estimates c.args.self c.promised.ensures c.args.sheet.now c.conclude.result c.conclude.ensures
