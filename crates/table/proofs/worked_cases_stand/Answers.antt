use Rattle.table.proofs.Rows.{worked_cases}
use Rattle.table.proofs.worked_cases_stand.Goals as goal

pub returns : goal.returns
returns g c = worked_cases g.N.Network g.E.Estimates g.M.Network g.F.Estimates
