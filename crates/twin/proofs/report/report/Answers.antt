use Rattle.std.proofs.Common.{◌∙◌}
use Rattle.twin.proofs.Lines.{lines_more}
use Rattle.twin.proofs.report.report.Goals as goal

pub loop-number-preserved : goal.loop-number-preserved
loop-number-preserved g c =
    let ss = (g.N.Network.meaning c.args.net.now).sections in
    lines_more g.C.PageCost.forms.parts ss c.loop-number.number c.in-Some.section _ _ c.in-Some.ensures.exact c.in_ok-section_line.ensures ∙ c.loop-number.invariant
