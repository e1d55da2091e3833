use Rattle.std.proofs.Common.{rules, ◌≡◌, map, ◌+◌, ◌*◌, ◌≤◌, length, ap, ◌∙◌, arith}
use Rattle.std.proofs.lemmas.List.{length-map}
use Rattle.std.specs.Option.{option_map}
use Rattle.records.specs.Bytes.{overlay}
use Rattle.records.specs.Shapes.{encoded, encoded_run}
use Rattle.records.specs.Layout.{header_shape, section_shape, estimate_shape}
use Rattle.contents.specs.Content.{meant_of}
use Rattle.contents.specs.Encoding.{section_record, estimate_record, PageLaws, Valid}
use Rattle.contents.specs.Writing.{answer_size, content_by, needed}
use Rattle.contents.proofs.Holding.{answer_valid, short}
use Rattle.contents.proofs.Wrote.{page_put, nothing_refused, write_left, write_back}
use Rattle.writing.proofs.write.put_page.Given.{Over}
use Rattle.writing.proofs.write.put_page.Goals as goal
use Rattle.writing.proofs.write.put_page.Goals.{After-put_run-end, After-put_run-end-2}

-- the sections stand, and so do the estimates behind them
sections_put : (g : Over) (c : After-put_run-end g) → let rs = map (section_record g.C.Cost g.C.PageCost.forms) (g.N.Network.meaning c.args.net.now).sections in
    (c.put_run-end.result ≡ c.put-end.result + 12 * c.sections.result) × (c.put_run-end.new.page ≡ overlay c.put-end.new.page c.put-end.result (encoded_run section_shape rs))
sections_put g c =
    let sections = (g.N.Network.meaning c.args.net.now).sections in
    c.put_run-end.ensures (map (section_record g.C.Cost g.C.PageCost.forms) sections) (record { many = omega (arith, length-map sections (section_record g.C.Cost g.C.PageCost.forms)); each = λ i o h made. search rules })

estimates_put : (g : Over) (c : After-put_run-end-2 g) → let rs = map (estimate_record g.C.Cost g.C.PageCost.forms) (g.E.Estimates.meaning c.args.estimates.now) in
    (c.put_run-end-2.result ≡ c.put_run-end.result + 21 * c.count.result) × (c.put_run-end-2.new.page ≡ overlay c.put_run-end.new.page c.put_run-end.result (encoded_run estimate_shape rs))
estimates_put g c =
    let pairs = g.E.Estimates.meaning c.args.estimates.now in
    c.put_run-end-2.ensures (map (estimate_record g.C.Cost g.C.PageCost.forms) pairs) (record { many = omega (arith, length-map pairs (estimate_record g.C.Cost g.C.PageCost.forms)); each = λ i o h made. search rules })

pub put_run-end-requires-2-clause-room : goal.put_run-end-requires-2-clause-room
put_run-end-requires-2-clause-room g c =
    let x = content_by (g.N.Network.meaning c.args.net.now) (g.E.Estimates.meaning c.args.estimates.now) c.args.answer.now in
    let room : needed x ≤ length c.args.page.now = (nothing_refused g.C.Cost g.C.PageCost.forms c.args.page.now x _ c.requires).1 in
    let s = (sections_put g (goal.at.put_run-end-requires-2-clause-room g c).After-put_run-end).0 in
    omega arith

pub put_answer-end-requires : goal.put_answer-end-requires
put_answer-end-requires g c =
    let net = g.N.Network.meaning c.args.net.now in
    let x = content_by net (g.E.Estimates.meaning c.args.estimates.now) c.args.answer.now in
    let told = nothing_refused g.C.Cost g.C.PageCost.forms c.args.page.now x _ c.requires in
    let room : needed x ≤ length c.args.page.now = told.1 in
    let s = (sections_put g (goal.at.put_answer-end-requires g c).After-put_run-end).0 in
    let e = (estimates_put g (goal.at.put_answer-end-requires g c).After-put_run-end-2).0 in
    let p = short g.C.Cost g.C.PageCost.forms net _ (option_map meant_of c.args.answer.now) c.header_body.ensures.range told.2 in
    record { room = omega arith; short = p.0 }

pub put-requires : goal.put-requires
put-requires g c =
    let x = content_by (g.N.Network.meaning c.args.net.now) (g.E.Estimates.meaning c.args.estimates.now) c.args.answer.now in
    let room : needed x ≤ length c.args.page.now = (nothing_refused g.C.Cost g.C.PageCost.forms c.args.page.now x _ c.requires).1 in
    let s = (sections_put g (goal.at.put-requires g c).After-put_run-end).0 in
    let e = (estimates_put g (goal.at.put-requires g c).After-put_run-end-2).0 in
    let small = (short g.C.Cost g.C.PageCost.forms (g.N.Network.meaning c.args.net.now) _ (option_map meant_of c.args.answer.now) c.header_body.ensures.range (nothing_refused g.C.Cost g.C.PageCost.forms c.args.page.now x _ c.requires).2).1 in
    omega arith

pub returns : goal.returns
returns g c =
    let k = g.C.Cost in
    let forms = g.C.PageCost.forms in
    let net = g.N.Network.meaning c.args.net.now in
    let pairs = g.E.Estimates.meaning c.args.estimates.now in
    let o = option_map meant_of c.args.answer.now in
    let x = content_by net pairs c.args.answer.now in
    let page = c.args.page.now in
    let range = c.header_body.ensures.range in
    let told = nothing_refused k forms page x _ c.requires in
    let counted : length pairs ≡ net.stations = told.0 in
    let room : needed x ≤ length page = told.1 in
    let small = (short k forms net _ o range told.2).1 in
    let laws : PageLaws k forms = record { ranges = g.met.C.Cost.ranges; sections = g.met.C.PageCost.sections; labels = g.met.C.PageCost.labels; kinds = g.met.C.PageCost.kinds } in
    let valid : Valid k forms x = record { network = range; counted = counted; estimates = c.count.ensures.range; answer = (answer_valid k forms net laws _ o c.put_answer-end.ensures.run).0 told.2 } in
    let s = sections_put g (goal.at.returns g c).After-put_run-end in
    let e = estimates_put g (goal.at.returns g c).After-put_run-end-2 in
    let size : c.put.result ≡ 10 + 12 * length net.sections + 21 * length pairs + answer_size o + 1 = omega arith in
    let stands =
    page_put k forms page x c.put-end.result c.put_run-end.result c.put_run-end-2.result c.put_answer-end.result
    (c.put-end.ensures.page ∙ ap (λ h. overlay page 0 (encoded header_shape h)) c.header_body.ensures.body) s.1 e.1 c.put_answer-end.ensures.page c.put.ensures.page
    (omega arith) (omega arith) (omega arith) (omega arith) (omega arith) in
    record {
      left = write_left k forms page x c.put.result c.put.new.page size stands counted room told.2;
      back = write_back k forms page x c.put.result c.put.new.page size stands laws valid;
    }
