use Rattle.std.proofs.Common.{sym, ◌∙◌}
use Rattle.contents.proofs.Accepting.{answer_bytes_all, net_range}
use Rattle.contents.proofs.Retold.{retold_page}
use Rattle.pages.proofs.Views.{view_bytes, view_accepted}
use Rattle.pages.proofs.view.PageView.retrace.Goals as goal

pub returns : goal.returns
returns g c =
    let v = c.args.self.now in
    let bs = v.bytes.now in
    let k = g.C.Cost in
    let forms = g.C.PageCost.forms in
    let range = net_range k forms v.header.kind bs (view_bytes v) (view_accepted v) g.met.C.PageCost.sections.in_range in
    let told = retold_page k forms g.met.C.Cost.lawful g.met.C.Cost.ranges bs (answer_bytes_all bs (view_bytes v)) range in
    let exact = c.holds.ensures in
    record { exact = exact; holds = (λ e. told.0 (sym exact ∙ e), λ t. exact ∙ told.1 t) }
