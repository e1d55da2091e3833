use Rattle.std.proofs.Common.{sym, ap, ◌∙◌}
use Rattle.std.proofs.lemmas.List.{length-map}
use Rattle.records.specs.Shapes.{decoded_run}
use Rattle.records.specs.Layout.{section_shape}
use Rattle.records.proofs.Passing.{length-decoded_run}
use Rattle.contents.specs.Checks.{header_of, section_bytes}
use Rattle.contents.specs.Content.{section_from}
use Rattle.pages.proofs.page_network.PageViewNetwork.sections.Goals as goal

pub returns : goal.returns
returns g c =
    let v = c.args.self.now in
    let bs = v.bytes.now in
    let n = (header_of bs).sections in
    c.from.ensures ∙ ap (λ h. h.sections) v.headed ∙ sym (length-map (decoded_run section_shape n (section_bytes bs)) (section_from g.C.Cost g.C.PageCost.forms) ∙ length-decoded_run section_shape n (section_bytes bs))
