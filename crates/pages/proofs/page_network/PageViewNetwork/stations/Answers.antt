use Rattle.std.proofs.Common.{ap, ◌∙◌}
use Rattle.contents.proofs.Accepting.{net_range}
use Rattle.pages.proofs.Views.{view_bytes, view_accepted}
use Rattle.pages.proofs.page_network.PageViewNetwork.stations.Goals as goal

pub returns : goal.returns
returns g c =
    let v = c.args.self.now in
    record {
      count = c.from.ensures ∙ ap (λ h. h.stations) v.headed;
      range = net_range g.C.Cost g.C.PageCost.forms v.header.kind v.bytes.now (view_bytes v) (view_accepted v) g.met.C.PageCost.sections.in_range;
    }
