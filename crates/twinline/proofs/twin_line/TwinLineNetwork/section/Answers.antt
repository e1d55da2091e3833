use Rattle.std.proofs.Common.{◌≡◌, ◌<◌, ◌≤◌, ◌↔◌, Some, sym, ap, ◌∙◌, subst, arith}
use Rattle.twinline.specs.Twin.{numbered, section_count}
use Rattle.twinline.specs.Held.{line_of}
use Rattle.twinline.specs.Drawn.{Drawn}
use Rattle.twinline.proofs.Twins.{line_range, nth_counting, nth_counting_past}
use Rattle.twinline.proofs.Drawings.{drawn_here, drawn_past}
use Rattle.twinline.proofs.twin_line.TwinLineNetwork.section.Goals as goal

pub returns-then-number-section_count : goal.returns-then-number-section_count
returns-then-number-section_count g c =
    let t = line_of c.args.self.now in
    let range = line_range c.args.self.now in
    let made = g.C.PageCost.forms.made in
    let n = c.args.number in
    let l : n < section_count t = omega arith in
    record {
      exact = ap Some c.numbered.ensures ∙ nth_counting (numbered made t) (section_count t) n l;
      drawn = λ s. subst (λ x. (Some x ≡ Some s) ↔ Drawn made t n s) (sym c.numbered.ensures) (drawn_here made t range n l s);
    }

pub returns-else-number-section_count : goal.returns-else-number-section_count
returns-else-number-section_count g c =
    let t = line_of c.args.self.now in
    let range = line_range c.args.self.now in
    let made = g.C.PageCost.forms.made in
    let n = c.args.number in
    let l : section_count t ≤ n = omega arith in
    record { exact = nth_counting_past (numbered made t) (section_count t) n l; drawn = drawn_past made t range n l }
