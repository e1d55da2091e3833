use Rattle.std.proofs.Common.{rules, ℕ, List, ◌++◌, sym, ap, ◌∙◌, append-nil, append_assoc, string_bytes}
use Rattle.std.proofs.lemmas.Result.{on_ok_weaker}
use Rattle.contents.specs.Content.{answer_of, step_in}
use Rattle.showing.specs.Lines.{lines}
use Rattle.showing.specs.Shown.{line_of, step_line, answer_line}
use Rattle.showing.proofs.Told.{answer_none, answer_some}
use Rattle.showing.proofs.show.put_answer.Goals as goal

pub returns-in_default : goal.returns-in_default
returns-in_default g c =
    let o = answer_of g.C.Cost g.C.PageCost.forms c.args.view.now.bytes.now in
    rw (answer_none g.C.Cost g.C.PageCost.forms o (sym c.answer.ensures ∙ c.in_default.is)) (sym (append-nil _))

pub returns : goal.returns
returns g c =
    let k = g.C.Cost in
    let forms = g.C.PageCost.forms in
    let o = answer_of k forms c.args.view.now.bytes.now in
    let text : ℕ → List ℕ = λ i. line_of (step_line k forms) (step_in o i) in
    let told = answer_some k forms o c.in-Some.answer (sym c.answer.ensures ∙ c.in-Some.is) in
    let out = string_bytes c.args.out.now in
    let line = answer_line k forms c.in-Some.answer in
    let rest = lines text c.in-Some.answer.steps in
    let put = c.in_ok-push_str.ensures.bytes ∙ ap (λ t. out ++ t) (c.as_str.ensures.value ∙ c.in_ok-answer_line.ensures) in
    on_ok_weaker c.put_lines.result
    (λ e. e ∙ ap (λ b. b ++ rest) put ∙ append_assoc out line rest ∙ ap (λ t. out ++ t) (sym told))
    (c.put_lines.ensures text (λ i r h made. search rules))
