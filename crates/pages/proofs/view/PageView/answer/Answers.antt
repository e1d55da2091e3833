use Rattle.std.proofs.Common.{◌≡◌, Some, sym, ap, ◌∙◌}
use Rattle.std.specs.Option.{option_map}
use Rattle.contents.specs.Content.{filed_by}
use Rattle.contents.proofs.Answers.{meaning, answer_some, meaning_steps}
use Rattle.pages.proofs.view.PageView.answer.Goals as goal

pub returns : goal.returns
returns g c =
    let bs = c.args.self.now.bytes.now in
    let k = g.C.Cost in
    let forms = g.C.PageCost.forms in
    let a = c.in_ok-body.body in
    let steps = c.from-3.ensures ∙ sym (meaning_steps k forms bs a) in
    let same : record { run = a.run; outcome = c.from.result; cost = c.label_from.result; taken = c.from-2.result; steps = c.from-3.result } ≡ filed_by (meaning k forms bs a) = cc in
    ap Some same ∙ ap (option_map filed_by) (answer_some k forms bs a (sym c.in_ok-body.was ∙ c.answer_record.ensures))
