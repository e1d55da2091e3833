use Rattle.std.proofs.Common.{◌≡◌, length, take, Ok, sym, ap, subst, ◌∙◌, vec_items}
use Rattle.search.specs.Calls.{posed}
use Rattle.filing.specs.Filing.{Filing}
use Rattle.planning.specs.Planned.{blank_steps}
use Rattle.planning.specs.Filed.{blank_page, cut_to}
use Rattle.planning.specs.Claims.{Filed}
use Rattle.planning.proofs.Answering.{passed_on}
use Rattle.planning.proofs.Telling.{written}
use Rattle.planning.proofs.Pages.{FileOnBlank, found_same, found_right}
use Rattle.planning.proofs.filed.found_page.Given as given
use Rattle.planning.proofs.filed.found_page.Goals as goal
use Rattle.planning.proofs.filed.found_page.Goals.{After-file}

abbrev done : (g : given.Over) (c : After-file g) → Filing g.row.C-Label.Denot
done g c = record { answer = c.file.result; steps = c.file.new.steps; turning = c.file.new.turning; page = c.file.new.page }

-- lists and page are lent as nobody has written them
on_blank : (g : given.Over) (c : After-file g) → FileOnBlank g.C.Cost g.C.PageCost.forms g.N.Network g.E.Estimates c.args.found.now c.args.run c.args.sheet.now c.as_mut_slice.result.now c.as_mut_slice-2.result.now c.as_mut_slice-3.result.now (done g c)
on_blank g c =
    let kind = g.C.Cost in
    let meaning = g.N.Network.meaning in
    let places = c.stations-places.ensures.count ∙ ap (λ net. (meaning net).stations) c.network.ensures in
    record {
      blank = c.as_mut_slice.ensures.value ∙ c.in_ok-steps.ensures ∙ ap (blank_steps kind) places;
      other = c.as_mut_slice-2.ensures.value ∙ c.in_ok-turning.ensures ∙ ap (blank_steps kind) places;
      fresh = c.as_mut_slice-3.ensures.value ∙ c.in_ok-page.ensures ∙ ap (λ net. blank_page (meaning net)) c.network-2.ensures;
      exact = c.file.ensures.exact;
      filed = c.file.ensures.filed;
      stands = c.file.ensures.stands;
    }

pub returns-in_err-written : goal.returns-in_err-written
returns-in_err-written g c =
    let at = (goal.at.returns-in_err-written g c).After-file in
    let found = c.args.found.now in
    let p = posed g.C.Cost g.N.Network g.E.Estimates found.net found.estimates in
    let forms = g.C.PageCost.forms in
    let run = c.args.run in
    let fault = c.in_err-written.field-0.0 in
    let refused = ap (cut_to c.file.new.page) c.in_err-written.was in
    record {
      exact = passed_on vec_items _ fault _ c.from_residual-in_err-written.ensures.1 (sym refused ∙ found_same g.C.Cost forms g.N.Network g.E.Estimates found run c.args.sheet.now _ _ _ (done g at) (on_blank g at));
      stands = λ calls by taken. passed_on vec_items _ fault _ c.from_residual-in_err-written.ensures.1
          (subst (Filed p forms run) refused (found_right g.C.Cost forms g.N.Network g.E.Estimates found run c.args.sheet.now _ _ _ (done g at) (on_blank g at) calls by taken));
    }

pub returns : goal.returns
returns g c =
    let at = (goal.at.returns g c).After-file in
    let found = c.args.found.now in
    let p = posed g.C.Cost g.N.Network g.E.Estimates found.net found.estimates in
    let forms = g.C.PageCost.forms in
    let run = c.args.run in
    let page = c.file.new.page in
    let whole = written c.in_ok-page.page.len c.in_ok-page.page.items page (c.in_ok-page.page.ok.0) (c.file.auto.page ∙ ap length c.as_mut_slice-3.ensures.value) in
    let cut : cut_to page c.file.result ≡ Ok (vec_items c.truncate.new.self) =
    ap (cut_to page) c.in_ok-written.was ∙ ap Ok (sym (c.truncate.ensures.items ∙ ap (take c.in_ok-written.written) whole)) in
    record {
      exact = sym cut ∙ found_same g.C.Cost forms g.N.Network g.E.Estimates found run c.args.sheet.now _ _ _ (done g at) (on_blank g at);
      stands = λ calls by taken. subst (Filed p forms run) cut (found_right g.C.Cost forms g.N.Network g.E.Estimates found run c.args.sheet.now _ _ _ (done g at) (on_blank g at) calls by taken);
    }
