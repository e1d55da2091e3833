use Rattle.std.proofs.Common.{◌<◌, ◌≤◌, length, sym, ap, ◌∙◌, arith}
use Rattle.std.proofs.lemmas.List.{length-map}
use Rattle.std.proofs.lemmas.Bool.{eq-eqb, ne_eqb}
use Rattle.records.specs.Shapes.{decoded_run}
use Rattle.records.specs.Layout.{section_shape}
use Rattle.records.proofs.Passing.{length-decoded_run}
use Rattle.networks.specs.Nets.{starts}
use Rattle.networks.proofs.Numbers.{coming, coming_here, coming_past, coming_other, coming_none, past_nth}
use Rattle.networks.proofs.Rolls.{roll_of}
use Rattle.contents.specs.Checks.{header_of, section_bytes}
use Rattle.contents.specs.Content.{section_from, net_of}
use Rattle.contents.proofs.Mapped.{mapped_some, mapped_none, same_start}
use Rattle.pages.proofs.page_network.PageViewNetwork.touching.Goals as goal
use Rattle.pages.proofs.page_network.PageViewNetwork.touching.Goals.{then-start-station+else-left-eq0, else-start-station}

pub loop-number-preserved : goal.loop-number-preserved
loop-number-preserved g c =
    let k = g.C.Cost in
    let forms = g.C.PageCost.forms in
    let bs = c.args.self.now.bytes.now in
    let sections = (net_of k forms bs).sections in
    let test = starts {S = g.row.C-Section.Denot} c.args.side c.args.station in
    let i = c.loop-number.number in
    let n = c.loop-number.left in
    let body = c.in-Some.body in
    let here = mapped_some (section_from k forms) (decoded_run section_shape (header_of bs).sections (section_bytes bs)) i body c.in-Some.ensures in
    elim c.if-start-station.branch [
      | then-start-station+else-left-eq0 w ↦
          let more : 0 < n = omega (arith, w.if-left-eq0.false) in
          ap (coming test sections _) w.left-is ∙ coming_past test sections i _ here (same_start k forms c.args.side c.args.station body ∙ eq-eqb _ _ (sym c.start.ensures ∙ w.if-start-station.true)) n more ∙ c.loop-number.invariant
      | else-start-station w ↦
          ap (coming test sections _) w.left-is ∙ coming_other test sections i _ here (same_start k forms c.args.side c.args.station body ∙ ne_eqb _ _ (λ e. w.if-start-station.false (c.start.ensures ∙ e))) n ∙ c.loop-number.invariant
    ]

pub returns-in_default : goal.returns-in_default
returns-in_default g c =
    let k = g.C.Cost in
    let forms = g.C.PageCost.forms in
    let bs = c.args.self.now.bytes.now in
    let sections = (net_of k forms bs).sections in
    let test = starts {S = g.row.C-Section.Denot} c.args.side c.args.station in
    let i = c.loop-number.number in
    let none = mapped_none (section_from k forms) (decoded_run section_shape (header_of bs).sections (section_bytes bs)) i c.in_default.ensures in
    record {
      exact = sym (coming_none test sections i (past_nth sections i none) c.loop-number.left) ∙ c.loop-number.invariant;
      roll = roll_of test sections;
    }

pub returns-then-left-eq0 : goal.returns-then-left-eq0
returns-then-left-eq0 g c =
    let k = g.C.Cost in
    let forms = g.C.PageCost.forms in
    let bs = c.args.self.now.bytes.now in
    let sections = (net_of k forms bs).sections in
    let test = starts {S = g.row.C-Section.Denot} c.args.side c.args.station in
    let i = c.loop-number.number in
    let body = c.in-Some.body in
    let here = mapped_some (section_from k forms) (decoded_run section_shape (header_of bs).sections (section_bytes bs)) i body c.in-Some.ensures in
    record {
      exact = sym (coming_here test sections i _ here (same_start k forms c.args.side c.args.station body ∙ eq-eqb _ _ (sym c.start.ensures ∙ c.if-start-station.true))) ∙ ap (coming test sections i) (sym c.if-left-eq0.true) ∙ c.loop-number.invariant;
      roll = roll_of test sections;
    }

pub returns : goal.returns
returns g c =
    let k = g.C.Cost in
    let forms = g.C.PageCost.forms in
    let v = c.args.self.now in
    let bs = v.bytes.now in
    let sections = (net_of k forms bs).sections in
    let run = decoded_run section_shape (header_of bs).sections (section_bytes bs) in
    let test = starts {S = g.row.C-Section.Denot} c.args.side c.args.station in
    let few : length sections ≤ c.loop-number.number = omega (arith, length-map run (section_from k forms), length-decoded_run section_shape (header_of bs).sections (section_bytes bs), ap (λ h. h.sections) v.headed, c.from-number-end.ensures) in
    record {
      exact = sym (coming_none test sections c.loop-number.number few c.loop-number.left) ∙ c.loop-number.invariant;
      roll = roll_of test sections;
    }
