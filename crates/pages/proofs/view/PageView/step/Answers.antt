use Rattle.std.proofs.Common.{◌≡◌, ◌+◌, ◌*◌, drop, refl, length, Some, sym, ap, ◌∙◌, arith, length-drop}
use Rattle.records.specs.Layout.{step_shape}
use Rattle.records.specs.Shapes.{decoded_run}
use Rattle.contents.specs.Checks.{header_of, answer_bytes, step_bytes}
use Rattle.contents.specs.Content.{step_in, step_from, net_of}
use Rattle.contents.proofs.Accepting.{answer_place}
use Rattle.contents.proofs.Answers.{record_in, steps_read, answer_told, answer_is, answer_some}
use Rattle.contents.proofs.Mapped.{mapped_some, mapped_none}
use Rattle.pages.proofs.Views.{view_answered}
use Rattle.pages.proofs.view.PageView.step.Goals as goal

pub nth_record-requires : goal.nth_record-requires
nth_record-requires g c =
    let v = c.args.self.now in
    let bs = v.bytes.now in
    let rest = answer_bytes bs in
    let a = c.in_ok-answer.answer in
    let told : Some a ≡ record_in bs = sym c.in_ok-answer.was ∙ c.answer_record.ensures in
    let there = view_answered v (answer_told bs a told) in
    let steps = ap (λ x. x.steps) (answer_is bs a told) in
    let at = 10 + 12 * (header_of bs).sections + 21 * (header_of bs).stations in
    omega (arith, there.answer.fits, there.steps.fits, steps, c.from.ensures, c.answer_at.ensures, length-drop 20 rest, ap length (answer_place bs (drop at bs) at refl refl), length-drop at bs)

pub returns-in_err-body : goal.returns-in_err-body
returns-in_err-body g c =
    let bs = c.args.self.now.bytes.now in
    let k = g.C.Cost in
    let forms = g.C.PageCost.forms in
    let a = c.in_ok-answer.answer in
    let run = decoded_run step_shape a.steps (step_bytes (answer_bytes bs)) in
    let read = steps_read bs c.answer_at.result c.from.result a.steps c.args.k c.nth_record.result c.nth_record.ensures c.answer_at.ensures c.from.ensures in
    c.from_residual-in_err-body.ensures
    ∙ mapped_none (step_from k forms (net_of k forms bs).sections) run c.args.k (sym c.in_err-body.was ∙ read)
    ∙ ap (λ o. step_in o c.args.k) (answer_some k forms bs a (sym c.in_ok-answer.was ∙ c.answer_record.ensures))

pub returns : goal.returns
returns g c =
    let bs = c.args.self.now.bytes.now in
    let k = g.C.Cost in
    let forms = g.C.PageCost.forms in
    let a = c.in_ok-answer.answer in
    let run = decoded_run step_shape a.steps (step_bytes (answer_bytes bs)) in
    let read = steps_read bs c.answer_at.result c.from.result a.steps c.args.k c.nth_record.result c.nth_record.ensures c.answer_at.ensures c.from.ensures in
    ap Some c.step_from.ensures
    ∙ mapped_some (step_from k forms (net_of k forms bs).sections) run c.args.k c.in_ok-body.body (sym c.in_ok-body.was ∙ read)
    ∙ ap (λ o. step_in o c.args.k) (answer_some k forms bs a (sym c.in_ok-answer.was ∙ c.answer_record.ensures))
