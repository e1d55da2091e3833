use Rattle.std.proofs.Common.{◌≡◌, replicate, length, Ok, Err, ap, ap₂, sym, subst, ◌∙◌, vec_items}
use Rattle.optimality.specs.Sheets.{blank_row}
use Rattle.search.specs.declared.running.Finished.TheVariants as finished
use Rattle.search.specs.Calls.{posed}
use Rattle.filing.specs.Claims.{FoundBy}
use Rattle.planning.specs.Answering.{Answered}
use Rattle.planning.specs.Turns.{calls_in_turn}
use Rattle.planning.specs.Filed.{found_page, none_page}
use Rattle.planning.specs.Claims.{Filed}
use Rattle.planning.proofs.Answering.{answered_more, passed_on}
use Rattle.planning.proofs.Telling.{written, OnBlank, answer_made, same_found, found_by_turns, found_taken, same_none, none_stands, none_taken, unsuited}
use Rattle.planning.proofs.filed.searched_page.Given as given
use Rattle.planning.proofs.filed.searched_page.Goals as goal
use Rattle.planning.proofs.filed.searched_page.Goals.{After-search_in_turn}

-- the sheet is lent as nobody has written it
on_blank : (g : given.Over) (c : After-search_in_turn g) → OnBlank g.C.Cost g.N.Network g.E.Estimates c.args.net c.args.estimates c.as_mut_slice.result.now (record { answer = c.search_in_turn.result; sheet = c.search_in_turn.new.sheet })
on_blank g c =
    record {
      blank = c.as_mut_slice.ensures.value ∙ c.in_ok-sheet.ensures ∙ ap (λ rows. replicate rows blank_row) c.stations.ensures.count;
      exact = c.search_in_turn.ensures.exact;
      stands = c.search_in_turn.ensures.stands;
    }

pub returns-in_err-found : goal.returns-in_err-found
returns-in_err-found g c =
    let on = on_blank g (goal.at.returns-in_err-found g c).After-search_in_turn in
    let p = posed g.C.Cost g.N.Network g.E.Estimates c.args.net c.args.estimates in
    let forms = g.C.PageCost.forms in
    let fault = c.in_err-found.field-0.0 in
    record {
      exact = passed_on vec_items _ fault _ c.from_residual-in_err-found.ensures.1 (answer_made on (Err fault) c.in_err-found.was (found_page p forms c.args.run) (none_page p forms c.args.run));
      stands = passed_on vec_items _ fault _ c.from_residual-in_err-found.ensures.1 (λ suits. absurd (unsuited on fault c.in_err-found.was suits));
    }

pub returns-in-Found : goal.returns-in-Found
returns-in-Found g c =
    let on = on_blank g (goal.at.returns-in-Found g c).After-search_in_turn in
    let p = posed g.C.Cost g.N.Network g.E.Estimates c.args.net c.args.estimates in
    let forms = g.C.PageCost.forms in
    let run = c.args.run in
    let found = c.in-Found.found in
    let done = c.search_in_turn in
    let is : done.result ≡ Ok (finished.Found found) = c.in_ok-found.was ∙ ap Ok c.in-Found.is in
    let whole = written c.in_ok-sheet.sheet.len c.in_ok-sheet.sheet.items done.new.sheet (c.in_ok-sheet.sheet.ok.0) (done.auto.sheet ∙ ap length c.as_mut_slice.ensures.value) in
    let sheet : c.as_slice.result.now ≡ done.new.sheet = c.as_slice.ensures.value ∙ whole in
    record {
      exact = answered_more vec_items c.found_page.result _ _ (λ r made. made
          ∙ ap₂ (λ p sheet. found_page p forms run found.cost found.taken found.meeting sheet) (same_found on found is) sheet
          ∙ answer_made on (Ok (finished.Found found)) is (found_page p forms run) (none_page p forms run)) c.found_page.ensures.exact;
      stands = subst (λ p. Answered vec_items c.found_page.result (λ r. Filed p forms run r)) (same_found on found is)
          (c.found_page.ensures.stands (calls_in_turn p) (subst (FoundBy g.C.Cost g.N.Network g.E.Estimates (calls_in_turn p) found) (sym sheet) (found_by_turns on found is)) (found_taken on found is));
    }

pub returns : goal.returns
returns g c =
    let on = on_blank g (goal.at.returns g c).After-search_in_turn in
    let p = posed g.C.Cost g.N.Network g.E.Estimates c.args.net c.args.estimates in
    let forms = g.C.PageCost.forms in
    let run = c.args.run in
    let none = c.in-NoRoute.none in
    let is : c.search_in_turn.result ≡ Ok (finished.NoRoute none) = c.in_ok-found.was ∙ ap Ok c.in-NoRoute.is in
    record {
      exact = answered_more vec_items c.none_page.result _ _ (λ r made. made
          ∙ ap (λ p. none_page p forms run none.taken) (same_none on none is)
          ∙ answer_made on (Ok (finished.NoRoute none)) is (found_page p forms run) (none_page p forms run)) c.none_page.ensures.exact;
      stands = subst (λ p. Answered vec_items c.none_page.result (λ r. Filed p forms run r)) (same_none on none is)
          (c.none_page.ensures.stands (calls_in_turn p) ((none_stands on none is).by_turns) (none_taken on none is));
    }
