use Rattle.std.proofs.Common.{Some, None, sym, ap, ◌∙◌}
use Rattle.contents.proofs.Holding.{steps_fault_position}
use Rattle.writing.proofs.holds.check_steps.Goals as goal

pub returns-in-Some : goal.returns-in-Some
returns-in-Some g c =
    ap Some c.fault.ensures
    ∙ sym (steps_fault_position g.C.Cost g.C.PageCost.forms (g.N.Network.meaning c.args.net.now) c.args.at c.args.steps.now (Some c.in-Some.k) (sym c.in-Some.is ∙ c.first_bad.ensures))

pub returns-in-None : goal.returns-in-None
returns-in-None g c =
    sym (steps_fault_position g.C.Cost g.C.PageCost.forms (g.N.Network.meaning c.args.net.now) c.args.at c.args.steps.now None (sym c.in-None.is ∙ c.first_bad.ensures))
