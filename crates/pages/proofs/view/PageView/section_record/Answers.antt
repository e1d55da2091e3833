use Rattle.std.proofs.Common.{ap, ◌∙◌, arith}
use Rattle.contents.proofs.Accepting.{sections_there}
use Rattle.pages.proofs.Views.{view_accepted}
use Rattle.pages.proofs.view.PageView.section_record.Goals as goal

pub nth_record-requires : goal.nth_record-requires
nth_record-requires g c =
    let v = c.args.self.now in
    let n = c.from.ensures ∙ ap (λ h. h.sections) v.headed in
    let there = sections_there v.header.kind v.bytes.now (view_accepted v) in
    omega arith
