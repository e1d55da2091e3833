use Rattle.std.proofs.Common.{sym, ap, ◌∙◌}
use Rattle.std.proofs.lemmas.List.{length-map}
use Rattle.records.specs.Shapes.{decoded_run}
use Rattle.records.specs.Layout.{estimate_shape}
use Rattle.records.proofs.Passing.{length-decoded_run}
use Rattle.contents.specs.Checks.{header_of, estimate_bytes}
use Rattle.contents.specs.Content.{pair_from}
use Rattle.contents.proofs.Accepting.{pairs_range}
use Rattle.pages.proofs.Views.{view_bytes, view_accepted}
use Rattle.pages.proofs.page_network.PageViewEstimates.count.Goals as goal

pub returns : goal.returns
returns g c =
    let v = c.args.self.now in
    let bs = v.bytes.now in
    let n = (header_of bs).stations in
    record {
      count = c.from.ensures ∙ ap (λ h. h.stations) v.headed ∙ sym (length-map (decoded_run estimate_shape n (estimate_bytes bs)) (pair_from g.C.Cost g.C.PageCost.forms) ∙ length-decoded_run estimate_shape n (estimate_bytes bs));
      range = pairs_range g.C.Cost g.C.PageCost.forms v.header.kind bs (view_bytes v) (view_accepted v) g.met.C.PageCost.labels;
    }
