use Rattle.std.proofs.Common.{◌≡◌, length, take, Ok, sym, ap, subst, ◌∙◌, vec_items}
use Rattle.contents.specs.Writing.{Written}
use Rattle.search.specs.Calls.{posed}
use Rattle.planning.specs.Filed.{blank_page, cut_to}
use Rattle.planning.specs.Claims.{Filed}
use Rattle.planning.proofs.Answering.{passed_on}
use Rattle.planning.proofs.Telling.{written}
use Rattle.planning.proofs.Pages.{NoneOnBlank, none_same, none_right}
use Rattle.planning.proofs.filed.none_page.Given as given
use Rattle.planning.proofs.filed.none_page.Goals as goal
use Rattle.planning.proofs.filed.none_page.Goals.{After-file_none}

abbrev done : (g : given.Over) (c : After-file_none g) → Written g.C.Cost g.C.PageCost.forms
done g c = record { answer = c.file_none.result; page = c.file_none.new.page }

-- the page is lent as nobody has written it
on_blank : (g : given.Over) (c : After-file_none g) → NoneOnBlank g.C.Cost g.C.PageCost.forms g.N.Network g.E.Estimates c.args.none.now c.args.run c.as_mut_slice.result.now (done g c)
on_blank g c =
    record {
      fresh = c.as_mut_slice.ensures.value ∙ c.in_ok-page.ensures ∙ ap (λ net. blank_page (g.N.Network.meaning net)) c.network.ensures;
      exact = c.file_none.ensures.exact;
      filed = c.file_none.ensures.filed;
      stands = c.file_none.ensures.stands;
    }

pub returns-in_err-length : goal.returns-in_err-length
returns-in_err-length g c =
    let at = (goal.at.returns-in_err-length g c).After-file_none in
    let none = c.args.none.now in
    let p = posed g.C.Cost g.N.Network g.E.Estimates none.net none.estimates in
    let forms = g.C.PageCost.forms in
    let run = c.args.run in
    let fault = c.in_err-length.field-0.0 in
    let refused = ap (cut_to c.file_none.new.page) c.in_err-length.was in
    record {
      exact = passed_on vec_items _ fault _ c.from_residual-in_err-length.ensures.1 (sym refused ∙ none_same g.C.Cost forms g.N.Network g.E.Estimates none run _ (done g at) (on_blank g at));
      stands = λ calls by taken. passed_on vec_items _ fault _ c.from_residual-in_err-length.ensures.1
          (subst (Filed p forms run) refused (none_right g.C.Cost forms g.N.Network g.E.Estimates none run _ (done g at) (on_blank g at) calls by taken));
    }

pub returns : goal.returns
returns g c =
    let at = (goal.at.returns g c).After-file_none in
    let none = c.args.none.now in
    let p = posed g.C.Cost g.N.Network g.E.Estimates none.net none.estimates in
    let forms = g.C.PageCost.forms in
    let run = c.args.run in
    let page = c.file_none.new.page in
    let whole = written c.in_ok-page.page.len c.in_ok-page.page.items page (c.in_ok-page.page.ok.0) (c.file_none.auto.page ∙ ap length c.as_mut_slice.ensures.value) in
    let cut : cut_to page c.file_none.result ≡ Ok (vec_items c.truncate.new.self) =
    ap (cut_to page) c.in_ok-length.was ∙ ap Ok (sym (c.truncate.ensures.items ∙ ap (take c.in_ok-length.length) whole)) in
    record {
      exact = sym cut ∙ none_same g.C.Cost forms g.N.Network g.E.Estimates none run _ (done g at) (on_blank g at);
      stands = λ calls by taken. subst (Filed p forms run) cut (none_right g.C.Cost forms g.N.Network g.E.Estimates none run _ (done g at) (on_blank g at) calls by taken);
    }
