use Rattle.std.proofs.Common.{◌≡◌, ◌≤◌, true, length, get_or, sym, ap, ◌∙◌, arith, rules}
use Rattle.std.proofs.lemmas.Bool.{eq-eqb, ne_eqb}
use Rattle.records.specs.Layout.{answer_shape}
use Rattle.records.specs.Shapes.{size_of}
use Rattle.contents.specs.Checks.{has_answer}
use Rattle.contents.proofs.Accepting.{answer_place, answer_there, answer_absent, empty_none}
use Rattle.contents.proofs.Places.{front_is}
use Rattle.pages.proofs.Views.{view_answered}
use Rattle.pages.proofs.view.PageView.answer_record.Goals as goal

pub returns-in_default : goal.returns-in_default
returns-in_default g c =
    let bs = c.args.self.now.bytes.now in
    let rest = c.bytes_from-rest.result.now in
    answer_absent bs rest (answer_place bs rest _ c.bytes_from-rest.ensures c.answer_at.ensures) (empty_none rest (search rules))

pub returns-in_default-2 : goal.returns-in_default-2
returns-in_default-2 g c =
    let bs = c.args.self.now.bytes.now in
    let rest = c.bytes_from-rest.result.now in
    answer_absent bs rest (answer_place bs rest _ c.bytes_from-rest.ensures c.answer_at.ensures) (ne_eqb (get_or rest 0 0) 65 (search rules))

pub returns : goal.returns
returns g c =
    let v = c.args.self.now in
    let bs = v.bytes.now in
    let rest = c.bytes_from-rest.result.now in
    let place = answer_place bs rest _ c.bytes_from-rest.ensures c.answer_at.ensures in
    let there : has_answer rest ≡ true = eq-eqb (get_or rest 0 0) 65 (search rules) in
    let fits : size_of answer_shape ≤ length rest = omega (arith, ap length place, (view_answered v (ap has_answer (sym place) ∙ there)).answer.fits) in
    answer_there bs rest c.front.result place there (front_is answer_shape c.front.result rest c.front.ensures fits)
