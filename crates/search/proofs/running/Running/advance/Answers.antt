use Rattle.search.proofs.Public.{step_rule, step_reason, step_stands}
use Rattle.search.proofs.running.Running.advance.Goals as goal

pub returns-clause-rule : goal.returns-clause-rule
returns-clause-rule g c =
    step_rule g.C.Cost g.N.Network g.E.Estimates c.args.self.now c.promised.ensures c.args.sheet.now c.args.side
    (record { answer = c.step.result; search = c.step.new.self; sheet = c.step.new.sheet }) c.step.ensures.exact

pub returns-clause-stands : goal.returns-clause-stands
returns-clause-stands g c =
    step_stands g.C.Cost g.N.Network g.E.Estimates c.args.self.now c.promised.ensures c.args.sheet.now c.args.side
    (record { answer = c.step.result; search = c.step.new.self; sheet = c.step.new.sheet }) c.step.ensures.exact

pub returns-clause-reasons : goal.returns-clause-reasons
returns-clause-reasons g c =
    step_reason g.C.Cost g.N.Network g.E.Estimates c.args.self.now c.promised.ensures c.args.sheet.now c.args.side
    (record { answer = c.step.result; search = c.step.new.self; sheet = c.step.new.sheet }) c.step.ensures.exact
