use Rattle.std.proofs.Common.{sym, ◌∙◌}
use Rattle.std.proofs.lemmas.List.FromFn.{length-map-range_with_len}
use Rattle.twinline.specs.Twin.{numbered, section_count}
use Rattle.twinline.specs.Held.{line_of}
use Rattle.twinline.proofs.twin_line.TwinLineNetwork.sections.Goals as goal

pub returns : goal.returns
returns g c =
    let t = line_of c.args.self.now in
    c.section_count.ensures.value ∙ sym (length-map-range_with_len (numbered g.C.PageCost.forms.made t) 0 (section_count t))
