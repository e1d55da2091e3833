use Rattle.search.proofs.Public.{open_stands, open_reason}
use Rattle.search.proofs.running.Running.open.Goals as goal

pub returns-clause-stands : goal.returns-clause-stands
returns-clause-stands g c =
    open_stands g.C.Cost g.N.Network g.E.Estimates c.args.net c.args.estimates c.promised.ensures c.args.sheet.now
    (record { answer = c.begin.result; sheet = c.begin.new.sheet }) c.begin.ensures

pub returns-clause-reasons : goal.returns-clause-reasons
returns-clause-reasons g c =
    open_reason g.C.Cost g.N.Network g.E.Estimates c.args.net c.args.estimates c.promised.ensures c.args.sheet.now
    (record { answer = c.begin.result; sheet = c.begin.new.sheet }) c.begin.ensures
