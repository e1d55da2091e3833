-- What the contract of File says, with Route planned and the page known to have the bytes.
use Rattle.std.proofs.Common.{◌≡◌, ℕ, ◌+◌, ◌*◌, ◌^◌, ◌<◌, ◌≤◌, true, true≢false, min, List, [], ◌++◌, length, take, drop, Some, None, Option, Ok, Err, Result, is_ok, is_some, refl, sym, ap, ap₂, ◌∙◌, subst, arith}
use Rattle.std.specs.Result.{result_err}
use Rattle.amounts.specs.declared.cost.Cost as cost
use Rattle.amounts.specs.Amount.{RangeLaws, Laws}
use Rattle.amounts.specs.Forms.{Forms, LabelLaws, OnPage, TotalsOnPage}
use Rattle.networks.specs.declared.network.Network as network
use Rattle.networks.specs.declared.estimates.Estimates as estimates
use Rattle.networks.specs.Given.{GivenInRange}
use Rattle.networks.specs.Nets.{Net, InRange}
use Rattle.faults.specs.declared.Fault.{Fault}
use Rattle.contents.specs.declared.answer.Outcome.TheVariants as outcome
use Rattle.contents.specs.declared.answer.Step.{Step}
use Rattle.contents.specs.Content.{Meant, Content, answer_of}
use Rattle.contents.specs.Retracing.{retraced, RetracedIn}
use Rattle.contents.specs.Writing.{Written, needed, answer_fault, write_of, write_fault}
use Rattle.contents.specs.Again.{Back}
use Rattle.contents.specs.Encoding.{PageLaws, Valid, encode}
use Rattle.contents.proofs.Wrote.{write_faulty, nothing_refused, write_left, write_back}
use Rattle.optimality.specs.declared.sheet.Row.{Row}
use Rattle.search.specs.declared.running.Found.{Found}
use Rattle.writing.specs.Places.{answer_place}
use Rattle.filing.specs.declared.follow.Halves.{Halves}
use Rattle.filing.specs.Arrivals.{Line, through}
use Rattle.filing.specs.Halves.{halves_of, halved}
use Rattle.filing.specs.Listing.{Routed, steps_along, last_cost, lined, listed, routed_by, route_of}
use Rattle.filing.specs.Filing.{Filing, route_filed, filed_with, filed_by, filing_by, file_of}
use Rattle.filing.specs.Holding.{held}
use Rattle.filing.specs.Claims.{SaysRoute, Shows, Listed, Filed, FiledBy}
use Rattle.filing.proofs.Halving.{Planned, line_planned, plan_of}
use Rattle.filing.proofs.Joined.{line_joined}
use Rattle.filing.proofs.Lists.{length_along, through_long}
use Rattle.filing.proofs.Listed.{along_walks, along_retraced, total_shown}
use Rattle.filing.proofs.Routed.{first_places, line_listed}
use Rattle.filing.proofs.Held.{written_ok, taken_below, fault_is}

pub some_same : {X : Type 0} {x y : X} → Some x ≡ Some y → x ≡ y
some_same e = cc

-- the halves were planned for just these
pub planned_from : {C N L S : Type 0} (n : network.Ghosts N C L S) (at net : N) (place meeting : ℕ) (sheet : List (Row C L S)) (least room : ℕ) (h : Halves) (r : Result Halves Fault) → at ≡ net → place ≡ meeting → least ≡ room → r ≡ Ok h → r ≡ halved (lined (n.meaning at) place sheet least) → Planned (n.meaning net) meeting sheet room h
planned_from n at net place meeting sheet least room h r e₁ e₂ e₃ is planned =
    plan_of (n.meaning net) meeting sheet room h
    (sym is ∙ planned ∙ ap₂ (λ x m. halved (lined (n.meaning x) m sheet least)) e₁ e₂ ∙ ap (λ k. halved (lined (n.meaning net) meeting sheet k)) e₃)

module _ {C N E L S : Type 0} (c : cost.Ghosts C L S) (forms : Forms L S) (n : network.Ghosts N C L S) (e : estimates.Ghosts E C L S) (laws : Laws c.ops) (fit : RangeLaws c.ops c.worth c.section_range c.estimate_range) (totals : TotalsOnPage c.ops c.worth c.section_range forms) (found : Found C N E L S) (run : ℕ) (sheet : List (Row C L S)) (steps turning : List (Step L)) (page : List ℕ) (range : InRange c.section_range (n.meaning found.net)) (h : Halves) (plan : Planned (n.meaning found.net) found.meeting sheet (min (length steps) (length turning)) h) where
  abbrev pub net : Net S
  net = n.meaning found.net

  abbrev pub route : List (Step L)
  route = steps_along c net c.ops.zero (through plan.halves)

  abbrev pub answer : Meant L
  answer = route_filed c run found.taken route

  abbrev pub content : Content L S
  content = filed_with c forms n e found.net found.estimates answer

  count_is : h.behind + h.ahead ≡ length route
  count_is = sym (length_along c net c.ops.zero (through plan.halves) ∙ through_long c net found.meeting sheet (min (length steps) (length turning)) h plan)

  routed : route_of c net steps turning found.meeting sheet ≡ listed c net steps turning plan.halves
  routed = ap (routed_by c net steps turning) plan.planned

  -- Route, then Write
  file_is : file_of c forms n e found run sheet steps turning page ≡ filed_by c forms n e found run steps turning page (listed c net steps turning plan.halves) ((write_of c forms page content).answer) ((write_of c forms page content).page)
  file_is =
      ap (λ r. filing_by c forms n e found run steps turning page r r.answer) routed
      ∙ ap (λ ss. let w = write_of c forms page (filed_with c forms n e found.net found.estimates (route_filed c run found.taken ss)) in filed_by c forms n e found run steps turning page (listed c net steps turning plan.halves) w.answer w.page)
      (first_places route (drop (length route) steps) (length route) refl)

  pub shown : OnPage forms (last_cost c.ops.zero route)
  shown = let j = line_joined (record { kind = c; net = net; estimates = [] }) (take net.stations sheet) found.meeting plan.halves plan.found in total_shown c forms laws fit totals net range (through plan.halves) j.route j.few

  pub stands : Listed c forms net route
  stands = line_listed c forms laws fit totals net range (take net.stations sheet) found.meeting plan.halves plan.found

  pub fault : write_fault c forms (length page) content ≡ result_err (held net.stations found.taken (answer_place net (e.meaning found.estimates) (length page) (Some (h.behind + h.ahead))))
  fault =
      fault_is c forms net run found.taken route (line_listed c forms laws fit totals net range (take net.stations sheet) found.meeting plan.halves plan.found) range.few (ap is_some shown.1) (e.meaning found.estimates) (length page)
      ∙ ap (λ k. result_err (held net.stations found.taken (answer_place net (e.meaning found.estimates) (length page) (Some k)))) (sym count_is)

  -- turned down by the page, everything stands
  pub fault_stands : (f : Fault) → write_fault c forms (length page) content ≡ Some f → record { answer = Err f; steps = steps; turning = turning; page = page } ≡ file_of c forms n e found run sheet steps turning page
  fault_stands f is = ap (λ w. filed_by c forms n e found run steps turning page (listed c net steps turning plan.halves) w.answer w.page) (write_faulty c forms page content f is) ∙ sym file_is

  pub file_refused : (f : Fault) → held net.stations found.taken (answer_place net (e.meaning found.estimates) (length page) (Some (h.behind + h.ahead))) ≡ Err f → record { answer = Err f; steps = steps; turning = turning; page = page } ≡ file_of c forms n e found run sheet steps turning page
  file_refused f is = fault_stands f (fault ∙ ap result_err is)

  -- else the page is written, and the lists hold the route
  pub file_written : held net.stations found.taken (answer_place net (e.meaning found.estimates) (length page) (Some (h.behind + h.ahead))) ≡ Ok tt → (r : Routed L) (w : Written c forms) → r ≡ route_of c net steps turning found.meeting sheet → w ≡ write_of c forms page content → record { answer = w.answer; steps = r.steps; turning = r.turning; page = w.page } ≡ file_of c forms n e found run sheet steps turning page
  file_written is r w e₁ e₂ =
      ap₂ (λ r w. record { answer = w.answer; steps = r.steps; turning = r.turning; page = w.page }) (e₁ ∙ routed) e₂
      ∙ same ((write_of c forms page content).answer) (written_ok c forms page content (fault ∙ ap result_err is))
      ∙ sym file_is
    where
      same : (x : Result ℕ Fault) → is_ok x ≡ true → let l = listed c net steps turning plan.halves in record { answer = x; steps = l.steps; turning = l.turning; page = (write_of c forms page content).page } ≡ filed_by c forms n e found run steps turning page l x ((write_of c forms page content).page)
      same (Ok len) h = refl
      same (Err f) h = absurd (true≢false (sym h))

  -- the route stands in the first places of the list
  pub listed_first : (r : Routed L) (k : ℕ) (ss : List (Step L)) → k ≡ h.behind + h.ahead → ss ≡ take k r.steps → r ≡ route_of c net steps turning found.meeting sheet → ss ≡ route
  listed_first r k ss count is e =
      is ∙ ap (λ x. take k x.steps) (e ∙ routed) ∙ first_places route (drop (length route) steps) k (count ∙ count_is)

  -- what is put in is what File puts in
  pub content_is : (at : N) (given : E) (a : L) (taken : ℕ) (ss : List (Step L)) → at ≡ found.net → given ≡ found.estimates → ss ≡ route → a ≡ last_cost c.ops.zero ss → taken ≡ found.taken → filed_with c forms n e at given (record { run = run; outcome = outcome.Found; cost = a; taken = taken; steps = ss }) ≡ content
  content_is at given a taken ss e₁ e₂ e₃ e₄ e₅ =
      ap₂ (λ x y. filed_with c forms n e x y (record { run = run; outcome = outcome.Found; cost = a; taken = taken; steps = ss })) e₁ e₂
      ∙ ap₂ (λ b t. filed_with c forms n e found.net found.estimates (record { run = run; outcome = outcome.Found; cost = b; taken = t; steps = ss })) e₄ e₅
      ∙ ap (λ xs. filed_with c forms n e found.net found.estimates (route_filed c run found.taken xs)) e₃

  -- What stands on the page ------------------------------------------------------------------------

  module _ (page_laws : PageLaws c forms) (labels : LabelLaws c.ops forms c.estimate_range) (given : GivenInRange c.estimate_range (e.meaning found.estimates)) (fits : run < 2 ^ 32) (none : write_fault c forms (length page) content ≡ None) where
    told : (length content.estimates ≡ net.stations) × (needed content ≤ length page) × (answer_fault c forms net (10 + 12 * length net.sections + 21 * length content.estimates) content.answer ≡ None)
    told = nothing_refused c forms page content (length page) none

    taken_few : found.taken < net.stations
    taken_few = taken_below c forms net run found.taken route stands range.few (ap is_some shown.1) (10 + 12 * length net.sections + 21 * length content.estimates) told.2

    valid : Valid c forms content
    valid =
        record {
          network = range;
          counted = told.0;
          estimates = given;
          answer = record { run = fits; filed = record { cost = shown; few = omega (arith, stands.few, range.few); taken = taken_few; nothing = tt }; each = stands.each };
        }

    abbrev pub size : ℕ
    size = 10 + 12 * length net.sections + 21 * length content.estimates + (20 + 13 * length route) + 1

    abbrev pub after : List ℕ
    after = encode c forms content ++ drop (length (encode c forms content)) page

    pub back : Back c forms content (take size after)
    back = write_back c forms page content size after refl refl page_laws valid

    -- what File answers, and what lists and page then hold
    pub done : record { answer = Ok size; steps = route ++ drop (length route) steps; turning = (listed c net steps turning plan.halves).turning; page = after } ≡ file_of c forms n e found run sheet steps turning page
    done =
        ap (λ w. filed_by c forms n e found run steps turning page (listed c net steps turning plan.halves) w.answer w.page) (write_left c forms page content size after refl refl told.0 told.1 told.2)
        ∙ sym file_is

    pub filed : Filed c forms n e found.net found.estimates answer (take size after)
    filed =
        let j = line_joined (record { kind = c; net = net; estimates = [] }) (take net.stations sheet) found.meeting plan.halves plan.found in
        record {
          back = back;
          retraces = subst (λ x. retraced c x.network x.answer ≡ true) (sym back.same) (along_walks c net laws c.ops.zero net.launcher (through plan.halves) j.route);
          right = subst (λ x. RetracedIn c x.network x.answer) (sym back.same) (along_retraced c forms laws fit totals net range (through plan.halves) j.route j.few run found.taken);
        }

    pub filed_by_it : FiledBy c forms n e found run (Ok size) (route ++ drop (length route) steps) after
    filed_by_it =
        let whole = sym (first_places route (drop (length route) steps) (length route) refl) in
        (length route, subst (Listed c forms net) whole stands, subst (λ ss. Filed c forms n e found.net found.estimates (route_filed c run found.taken ss) (take size after)) whole filed)

    -- the page shows this answer
    answer_shown : (m : Meant L) → answer_of c forms (take size after) ≡ Some m → m ≡ answer
    answer_shown m is = sym (some_same (sym (ap (λ x. x.answer) back.same) ∙ is))

    pub route_shown : Shows c forms (take size after) (SaysRoute run found.taken (last_cost c.ops.zero route))
    route_shown m is = subst (SaysRoute run found.taken (last_cost c.ops.zero route)) (sym (answer_shown m is)) (record { found = refl; under = refl; costs = refl; took = refl })

-- Beyond its answer ------------------------------------------------------------------------------

module _ {C N E L S : Type 0} (c : cost.Ghosts C L S) (forms : Forms L S) (n : network.Ghosts N C L S) (e : estimates.Ghosts E C L S) (laws : Laws c.ops) (page_laws : PageLaws c forms) (totals : TotalsOnPage c.ops c.worth c.section_range forms) where
  module _ (found : Found C N E L S) (run : ℕ) (fits : run < 2 ^ 32) (sheet : List (Row C L S)) (steps turning : List (Step L)) (page : List ℕ) (range : InRange c.section_range (n.meaning found.net)) (given : GivenInRange c.estimate_range (e.meaning found.estimates)) where
    abbrev whole : Filing L
    whole = file_of c forms n e found run sheet steps turning page

    abbrev Holds : Filing L → Type 0
    Holds r = FiledBy c forms n e found run r.answer r.steps r.page

    by_line : (x : Result Line Fault) → lined (n.meaning found.net) found.meeting sheet (min (length steps) (length turning)) ≡ x → Holds whole
    by_line (Err f) is = subst Holds (sym (ap (λ x. let r = routed_by c (n.meaning found.net) steps turning x in filing_by c forms n e found run steps turning page r r.answer) is)) tt
    by_line (Ok l) is = by_fault (write_fault c forms (length page) (content c forms n e laws page_laws.ranges totals found run sheet steps turning page range (halves_of l) plan)) refl
      where
        plan : Planned (n.meaning found.net) found.meeting sheet (min (length steps) (length turning)) (halves_of l)
        plan = line_planned (n.meaning found.net) found.meeting sheet (min (length steps) (length turning)) (halves_of l) l is refl

        by_fault : (o : Option Fault) → write_fault c forms (length page) (content c forms n e laws page_laws.ranges totals found run sheet steps turning page range (halves_of l) plan) ≡ o → Holds whole
        by_fault (Some f) at = subst Holds (fault_stands c forms n e laws page_laws.ranges totals found run sheet steps turning page range (halves_of l) plan f at) tt
        by_fault None at = subst Holds (done c forms n e laws page_laws.ranges totals found run sheet steps turning page range (halves_of l) plan page_laws page_laws.labels given fits at) (filed_by_it c forms n e laws page_laws.ranges totals found run sheet steps turning page range (halves_of l) plan page_laws page_laws.labels given fits at)

    pub filed_all : (r : Filing L) → r ≡ whole → FiledBy c forms n e found run r.answer r.steps r.page
    filed_all r is = subst Holds (sym is) (by_line (lined (n.meaning found.net) found.meeting sheet (min (length steps) (length turning))) refl)
