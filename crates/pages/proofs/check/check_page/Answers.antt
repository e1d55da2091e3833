use Rattle.std.proofs.Common.{◌≡◌, ◌*◌, drop, Ok, sym, ap, ◌∙◌, ap₂}
use Rattle.std.proofs.lemmas.Result.{err_from_is_err_and}
use Rattle.records.specs.Due.{due_run}
use Rattle.records.specs.Layout.{section_shape, estimate_shape}
use Rattle.contents.specs.Checks.{header_of, headed, due_answer, check_page}
use Rattle.contents.proofs.Checking.{header_is, page_answer}
use Rattle.pages.proofs.check.check_page.Goals as goal
use Rattle.pages.proofs.check.check_page.Goals.{After-check_answer}
use Rattle.pages.proofs.check.check_page.Given.{Over}

-- behind the header and the runs, the answer is the page's
whole : (g : Over) (c : After-check_answer g) → c.check_answer.result ≡ check_page c.KIND-kind.result c.args.page.now
whole g c =
    let h = c.in_ok-header.header in
    let sections = c.behind-sections.result.bytes.now in
    let estimates = c.behind-estimates.result.bytes.now in
    let left = c.behind.result.bytes.now in
    let p = c.behind-sections.ensures in
    let q = c.behind-estimates.ensures in
    let r = c.behind.ensures in
    let first = c.in_ok-due_run.ensures ∙ ap₂ (λ l n. due_run section_shape l n h.sections sections) p.limits p.length in
    let second = c.in_ok-due_run-2.ensures ∙ ap₂ (λ l n. due_run estimate_shape l n h.stations estimates) (q.limits ∙ p.limits) (q.length ∙ p.length) in
    c.check_answer.ensures
    ∙ ap₂ (λ l n. due_answer l n left) (r.limits ∙ q.limits ∙ p.limits) (r.length ∙ q.length ∙ p.length)
    ∙ page_answer c.KIND-kind.result c.args.page.now h c.in_ok-header.ensures sections estimates left p.bytes first (q.bytes ∙ ap (λ n. drop (12 * n) sections) c.from.ensures) second (r.bytes ∙ ap (λ n. drop (21 * n) estimates) c.from-2.ensures)

pub returns-in_err-check_answer : goal.returns-in_err-check_answer
returns-in_err-check_answer g c =
    let p = err_from_is_err_and c.from_residual-in_err-check_answer.result c.from_residual-in_err-check_answer.ensures.1 in
    rw (p.1, p.2) (ap (headed (header_of c.args.page.now)) (sym c.in_err-check_answer.was ∙ whole g (goal.at.returns-in_err-check_answer g c).After-check_answer ∙ ap (λ k. check_page k c.args.page.now) c.KIND-kind.ensures))

pub returns : goal.returns
returns g c =
    let bs = c.args.page.now in
    ap Ok (sym (header_is c.KIND-kind.result bs c.in_ok-header.header c.in_ok-header.ensures)) ∙ ap (headed (header_of bs)) (sym c.in_ok-check_answer.was ∙ whole g (goal.at.returns g c).After-check_answer ∙ ap (λ k. check_page k bs) c.KIND-kind.ensures)
