use Rattle.std.proofs.Common.{rules, ℕ, List, length, ◌++◌, ap, ◌∙◌, string_bytes}
use Rattle.std.specs.List.{slice_get}
use Rattle.contents.specs.Content.{net_of, pairs_of, answer_of}
use Rattle.contents.specs.Retracing.{retraced}
use Rattle.showing.specs.Lines.{lines}
use Rattle.showing.specs.Shown.{line_of, header_line, section_line, station_line, answer_lines, verdict_line}
use Rattle.showing.proofs.Told.{five_texts}
use Rattle.showing.proofs.show.shown.Goals as goal

pub returns : goal.returns
returns g c =
    let k = g.C.Cost in
    let forms = g.C.PageCost.forms in
    let page = c.args.view.now.bytes.now in
    let net = net_of k forms page in
    let pairs = pairs_of k forms page in
    let answer = answer_of k forms page in
    let sections : ℕ → List ℕ = λ n. line_of (section_line k forms n) (slice_get net.sections n) in
    let stations : ℕ → List ℕ = λ n. line_of (station_line k forms n) (slice_get pairs n) in
    five_texts (header_line k forms net) (lines sections (length net.sections)) (lines stations (length pairs)) (answer_lines k forms answer) (verdict_line answer (retraced k net answer))
    c.in_ok-out.ensures
    (c.in_ok-put_lines.ensures sections (λ i r h made. search rules) ∙ ap (λ n. string_bytes c.in_ok-out.out ++ lines sections n) c.sections.ensures)
    (c.in_ok-put_lines-2.ensures stations (λ i r h made. search rules) ∙ ap (λ n. string_bytes c.put_lines.new.out ++ lines stations n) c.count.ensures.count)
    c.in_ok-put_answer.ensures
    (c.in_ok-push_str.ensures.bytes ∙ ap (λ t. string_bytes c.put_answer.new.out ++ t) c.verdict.ensures)
