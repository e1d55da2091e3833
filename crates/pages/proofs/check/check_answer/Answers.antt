use Rattle.std.proofs.Common.{◌≡◌, ◌*◌, true, drop, ap, ◌∙◌, ap₂, rules}
use Rattle.std.proofs.lemmas.Bool.{eq-eqb}
use Rattle.records.specs.Due.{due_run}
use Rattle.records.specs.Layout.{step_shape}
use Rattle.contents.specs.Checks.{has_answer, due_end}
use Rattle.contents.proofs.Checking.{answer_ends}
use Rattle.pages.proofs.check.check_answer.Goals as goal

pub returns : goal.returns
returns c =
    let rest = c.args.rest in
    let a = c.in_ok-answer.answer in
    let steps = c.behind-steps.result in
    let told = c.behind-steps.ensures in
    let left = c.behind.result in
    let there : has_answer rest.bytes.now ≡ true = eq-eqb _ _ (search rules) in
    let run = c.in_ok-due_run.ensures ∙ ap₂ (λ l n. due_run step_shape l n a.steps steps.bytes.now) told.limits told.length in
    c.check_end-2.ensures
    ∙ ap₂ (λ l n. due_end l n left.bytes.now) (c.behind.ensures.limits ∙ told.limits) (c.behind.ensures.length ∙ told.length)
    ∙ answer_ends rest.limits rest.length rest.bytes.now a there c.in_ok-answer.ensures steps.bytes.now left.bytes.now told.bytes run (c.behind.ensures.bytes ∙ ap (λ n. drop (13 * n) steps.bytes.now) c.from.ensures)
