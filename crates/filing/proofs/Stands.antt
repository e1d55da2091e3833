-- What File says where the search had its sheet to itself.
use Rattle.std.proofs.Common.{◌≡◌, ℕ, ◌+◌, ◌*◌, ◌^◌, ◌<◌, ◌≤◌, ◌==◌, inl, inr, Bool, true, false, cond, min, ◌&&◌, List, length, is_some, unwrap_or, Some, None, Option, Ok, Err, Result, nat_le, nat_lt, refl, sym, ap, ap₂, ◌∙◌, subst, arith}
use Rattle.std.proofs.lemmas.Bool.{eq-eqb, eqb-true, lt-ltb, ltb-true, ltb-false}
use Rattle.std.proofs.lemmas.Option.{none-some}
use Rattle.amounts.specs.declared.cost.Cost as cost
use Rattle.amounts.specs.declared.forms.LabelForm.{LabelForm}
use Rattle.amounts.specs.Amount.{Laws}
use Rattle.amounts.specs.Forms.{Forms, TotalsOnPage, label_form}
use Rattle.networks.specs.declared.network.Network as network
use Rattle.networks.specs.declared.estimates.Estimates as estimates
use Rattle.networks.specs.Given.{GivenInRange}
use Rattle.networks.specs.Nets.{InRange}
use Rattle.faults.specs.declared.Fault.{Fault}
use Rattle.faults.specs.declared.Refusal.TheVariants.{ListTooShort, PageTooShort, EstimateCount, TooFewRows, FieldOutOfRange}
use Rattle.records.specs.Due.{page_fault}
use Rattle.contents.specs.declared.answer.Step.{Step}
use Rattle.contents.specs.Content.{Content}
use Rattle.contents.specs.Encoding.{PageLaws, encode}
use Rattle.contents.specs.Writing.{Written, answer_size, needed, answer_fault, write_of, write_fault, written_by, refused_by}
use Rattle.contents.proofs.Returning.{encode_length}
use Rattle.contents.proofs.Wrote.{write_faulty, answer_size_lem}
use Rattle.optimality.specs.declared.sheet.Row.{Row}
use Rattle.optimality.specs.declared.sheet.Ceiling.{Ceiling}
use Rattle.optimality.specs.declared.sheet.Ceiling.TheVariants.{Absent, Met}
use Rattle.optimality.specs.Problems.{Problem}
use Rattle.search.specs.declared.running.Running.{Running}
use Rattle.search.specs.declared.running.Found.{Found}
use Rattle.search.specs.declared.running.NoRoute.{NoRoute}
use Rattle.search.specs.declared.running.Finished.{Finished}
use Rattle.search.specs.declared.running.Finished.TheVariants as finished
use Rattle.search.specs.Calls.{problem, standing, first_broken, unfit, unfinished, conclusion}
use Rattle.search.specs.Claims.{Call, HasItsSheet}
use Rattle.search.proofs.Main.{sound}
use Rattle.filing.specs.Arrivals.{Line, through}
use Rattle.filing.specs.Halves.{halves_of}
use Rattle.filing.specs.Listing.{filing_fault, last_cost, steps_along, lined, routed_by}
use Rattle.filing.specs.Filing.{Filing, filed_with, none_filed, filing_by, file_of, file_none_of}
use Rattle.filing.specs.Claims.{SaysRoute, SaysNone, Shows, FoundBy, NoneBy, RouteFollowed, PageShort, filed_along, FileStands, NoneFiledBy, FileNoneStands}
use Rattle.filing.proofs.Halving.{Planned, line_planned}
use Rattle.filing.proofs.Held.{answer_holds}
use Rattle.filing.proofs.Routed.{finished_from, found_at, found_from, fair, good, along, lined_is, cost_listed, no_less}
use Rattle.filing.proofs.Filed.{some_same, content, shown, stands, fault_stands, done, route_shown}

-- what Finish gives where no ceiling stands
abbrev none_at : {C N E L S : Type 0} → Running C N E L S → NoRoute C N E L S
none_at s = record { net = s.net; estimates = s.estimates; taken = s.taken; tag = record {} }

same_line : {k l : Line} → ◌≡◌ {A = Result Line Fault} (Ok k) (Ok l) → k ≡ l
same_line e = cc

-- The bytes that are needed are those of the content -----------------------------------------------

module _ {C L S : Type 0} (c : cost.Ghosts C L S) (forms : Forms L S) (x : Content L S) where
  needed_is : length x.network.sections ≤ 16384 → length x.estimates ≤ 4096 → answer_size x.answer ≤ 20 + 13 * 4095 → needed x ≡ length (encode c forms x)
  needed_is a b d = omega (arith, encode_length c forms x, answer_size_lem c forms x.answer)

module _ {C L S : Type 0} (c : cost.Ghosts C L S) (forms : Forms L S) (page : List ℕ) (x : Content L S) where
  -- what is turned down for too short a page alone
  abbrev PageOnly : Result ℕ Fault → Type 0
  PageOnly (Ok len) = Unit {0}
  PageOnly (Err f) = PageShort c forms x (length page) f

  -- where the estimates count the stations, and a page can hold the answer
  page_only : needed x ≡ length (encode c forms x) → length x.estimates ≡ x.network.stations → answer_fault c forms x.network (10 + 12 * length x.network.sections + 21 * length x.estimates) x.answer ≡ None → PageOnly ((write_of c forms page x).answer)
  page_only size counted holds =
      subst (λ w. PageOnly w.answer)
      (sym (ap₂ (λ a o. cond a (cond (nat_lt (length page) (needed x)) (refused_by c forms page (page_fault (PageTooShort (needed x)))) (written_by c forms page x o)) (refused_by c forms page (page_fault (EstimateCount (length x.estimates))))) (eq-eqb _ _ counted) holds))
      (by (nat_lt (length page) (needed x)) refl)
    where
      by : (b : Bool) → nat_lt (length page) (needed x) ≡ b → PageOnly ((cond b (refused_by c forms page (page_fault (PageTooShort (needed x)))) (written_by c forms page x None)).answer)
      by true is = record { short = subst (λ k. length page < k) size (ltb-true _ _ is); fault = ap (λ k. page_fault (PageTooShort k)) size }
      by false is = tt

-- the estimates of an opened search count its stations
counted : {C L S : Type 0} (p : Problem C L S) (rows : ℕ) → unfit p rows ≡ None → length p.estimates ≡ p.net.stations
counted p rows e = by (nat_lt rows p.net.stations) (length p.estimates == p.net.stations) refl e
  where
    by : (a b : Bool) → (length p.estimates == p.net.stations) ≡ b → cond a (Some (TooFewRows rows)) (cond b (first_broken p 0 p.net.sections) (Some (EstimateCount (length p.estimates)))) ≡ None → length p.estimates ≡ p.net.stations
    by true b is z = absurd (none-some _ (sym z))
    by false true is z = eqb-true _ _ is
    by false false is z = absurd (none-some _ (sym z))

module _ {C N E L S : Type 0} (c : cost.Ghosts C L S) (forms : Forms L S) (n : network.Ghosts N C L S) (e : estimates.Ghosts E C L S) (laws : Laws c.ops) (page_laws : PageLaws c forms) (totals : TotalsOnPage c.ops c.worth c.section_range forms) (run : ℕ) (fits : run < 2 ^ 32) (page : List ℕ) where
  module _ (s : Running C N E L S) (sheet : List (Row C L S)) (range : InRange c.section_range (n.meaning s.net)) (given : GivenInRange c.estimate_range (e.meaning s.estimates)) (calls : List Call) (owned : HasItsSheet c n e calls s sheet) where
    abbrev p : Problem C L S
    p = problem c n e s

    few : s.taken < p.net.stations
    few = (good c n e forms laws page_laws.ranges totals s sheet range given calls owned).stands.few

    -- Found ------------------------------------------------------------------------------------------

    module _ (a : L) (m : ℕ) (at_ceiling : s.ceiling ≡ Met a m) (over : unfinished p (standing s sheet) ≡ None) (steps turning : List (Step L)) where
      abbrev whole : Filing L
      whole = file_of c forms n e (found_at c n e s a m) run sheet steps turning page

      abbrev room : ℕ
      room = min (length steps) (length turning)

      abbrev route : RouteFollowed c n e (found_at c n e s a m) sheet
      route = along c n e forms laws page_laws.ranges totals s sheet range given calls owned a m at_ceiling over

      abbrev halves : Line
      halves = route.halves

      abbrev Stands : Filing L → Type 0
      Stands r = FileStands c forms n e (found_at c n e s a m) run sheet room (length page) r.answer r.page

      on_short : room < length (through halves) → lined p.net m sheet room ≡ Err (filing_fault (ListTooShort room)) → Stands whole
      on_short short is = subst Stands (sym (ap (λ x. let r = routed_by c p.net steps turning x in filing_by c forms n e (found_at c n e s a m) run steps turning page r r.answer) is)) (inl (record { route = route; short = short; fault = refl }))

      module _ (enough : length (through halves) ≤ room) (is : lined p.net m sheet room ≡ Ok halves) where
        plan : Planned p.net m sheet room (halves_of halves)
        plan = line_planned p.net m sheet room (halves_of halves) halves is refl

        halves_are : plan.halves ≡ halves
        halves_are = same_line (sym plan.planned ∙ is)

        abbrev put_in : Content L S
        put_in = content c forms n e laws page_laws.ranges totals (found_at c n e s a m) run sheet steps turning page range (halves_of halves) plan

        page_holds : (at : ℕ) → answer_fault c forms p.net at put_in.answer ≡ None
        page_holds at =
            answer_holds c forms p.net run s.taken _ (stands c forms n e laws page_laws.ranges totals (found_at c n e s a m) run sheet steps turning page range (halves_of halves) plan) range.few
            (ap is_some (shown c forms n e laws page_laws.ranges totals (found_at c n e s a m) run sheet steps turning page range (halves_of halves) plan).1) at
            ∙ ap (λ t. cond t None (Some (page_fault (FieldOutOfRange at)))) (lt-ltb s.taken p.net.stations few)

        size : needed put_in ≡ length (encode c forms put_in)
        size =
            let listed = stands c forms n e laws page_laws.ranges totals (found_at c n e s a m) run sheet steps turning page range (halves_of halves) plan in
            needed_is c forms put_in range.short (omega (arith, counted p (length owned.sheet) owned.accepts, range.few)) (omega (arith, listed.few, range.few))

        by_fault : (o : Option Fault) → write_fault c forms (length page) put_in ≡ o → Stands whole
        by_fault (Some f) at =
            let short = subst (λ w. PageOnly c forms page put_in w.answer) (sym (write_faulty c forms page put_in f at)) (page_only c forms page put_in size (counted p (length owned.sheet) owned.accepts) (page_holds _)) in
            subst Stands (fault_stands c forms n e laws page_laws.ranges totals (found_at c n e s a m) run sheet steps turning page range (halves_of halves) plan f at)
            (inr (record { route = route; fits = enough; page = subst (λ l. PageShort c forms (filed_along c forms n e (found_at c n e s a m) run (through l)) (length page) f) halves_are short }))
        by_fault None at =
            let cost_is : last_cost c.ops.zero (steps_along c p.net c.ops.zero (through plan.halves)) ≡ a =
            ap (λ l. last_cost c.ops.zero (steps_along c p.net c.ops.zero (through l))) halves_are
            ∙ cost_listed c n e forms laws page_laws.ranges totals s sheet range given calls owned a m at_ceiling over in
            subst Stands (done c forms n e laws page_laws.ranges totals (found_at c n e s a m) run sheet steps turning page range (halves_of halves) plan page_laws page_laws.labels given fits at) (
              λ answer is.
                  subst (λ cost. SaysRoute run s.taken cost answer) cost_is
                  (route_shown c forms n e laws page_laws.ranges totals (found_at c n e s a m) run sheet steps turning page range (halves_of halves) plan page_laws page_laws.labels given fits at answer is),
              no_less c n e forms laws page_laws.ranges totals s sheet range given calls owned a m at_ceiling over,
              record { route = route; fits = enough },
            )

        on_line : Stands whole
        on_line = by_fault (write_fault c forms (length page) put_in) refl

      by_room : (b : Bool) → nat_lt room (length (through halves)) ≡ b → lined p.net m sheet room ≡ cond b (Err (filing_fault (ListTooShort room))) (Ok halves) → Stands whole
      by_room true so is = on_short (ltb-true _ _ so) is
      by_room false so is = on_line (ltb-false _ _ so) is

      pub file_stands_at : Stands whole
      file_stands_at = by_room (nat_lt room (length (through halves))) refl (lined_is c n e forms laws page_laws.ranges totals s sheet range given calls owned a m at_ceiling over room)

    -- None -------------------------------------------------------------------------------------------

    none_holds : (at : ℕ) → answer_fault c forms p.net at (Some (none_filed c run s.taken)) ≡ None
    none_holds at = ap₂ test page_laws.labels.zero_shown (lt-ltb s.taken p.net.stations few)
      where
        test : Option LabelForm → Bool → Option Fault
        test o t =
            let form = unwrap_or o (label_form 0 0) in
            cond (is_some o && (nat_le 0 4095 && (t && ((form.moves == 0 && form.samples == 0) && 0 == 0)))) None (Some (page_fault (FieldOutOfRange at)))

    pub none_stands_at : s.ceiling ≡ Absent → unfinished p (standing s sheet) ≡ None → (w : Written c forms) → w ≡ write_of c forms page (filed_with c forms n e s.net s.estimates (none_filed c run s.taken)) → NoneFiledBy c forms n e (none_at s) run w.answer w.page → FileNoneStands c forms n e (none_at s) run (length page) w.answer w.page
    none_stands_at at over w is filed =
        by w.answer w.page filed (subst (λ x. PageOnly c forms page put_in x.answer) (sym is) (page_only c forms page put_in size (counted p (length owned.sheet) owned.accepts) (none_holds _)))
      where
        put_in : Content L S
        put_in = filed_with c forms n e s.net s.estimates (none_filed c run s.taken)

        size : needed put_in ≡ length (encode c forms put_in)
        size = needed_is c forms put_in range.short (omega (arith, counted p (length owned.sheet) owned.accepts, range.few)) (omega arith)

        by : (r : Result ℕ Fault) (after : List ℕ) → NoneFiledBy c forms n e (none_at s) run r after → PageOnly c forms page put_in r → FileNoneStands c forms n e (none_at s) run (length page) r after
        by (Ok len) after back h = (
          ((sound p (fair c n e forms laws page_laws.ranges totals s sheet range given calls owned) calls (standing s sheet) owned).none over).0 at,
          λ m shown. subst (SaysNone run s.taken) (some_same (sym (ap (λ x. x.answer) back.same) ∙ shown)) (record { none = refl; under = refl; took = refl }),
        )
        by (Err f) after back h = h

  pub file_stands : (found : Found C N E L S) (sheet : List (Row C L S)) (steps turning : List (Step L)) → InRange c.section_range (n.meaning found.net) → GivenInRange c.estimate_range (e.meaning found.estimates) → (r : Filing L) → r ≡ file_of c forms n e found run sheet steps turning page → (calls : List Call) → FoundBy c n e calls found sheet → FileStands c forms n e found run sheet (min (length steps) (length turning)) (length page) r.answer r.page
  file_stands found sheet steps turning range given r is calls by =
      found_from c n e by.search sheet found (λ f. InRange c.section_range (n.meaning f.net) → GivenInRange c.estimate_range (e.meaning f.estimates) → r ≡ file_of c forms n e f run sheet steps turning page → FileStands c forms n e f run sheet (min (length steps) (length turning)) (length page) r.answer r.page) by.finished
      (λ a m at over range given is. subst (λ x. FileStands c forms n e (found_at c n e by.search a m) run sheet (min (length steps) (length turning)) (length page) x.answer x.page) (sym is) (file_stands_at by.search sheet range given calls by.own a m at over steps turning))
      range given is

  pub file_none_stands : (none : NoRoute C N E L S) → InRange c.section_range (n.meaning none.net) → GivenInRange c.estimate_range (e.meaning none.estimates) → (w : Written c forms) → w ≡ file_none_of c forms n e none run page → NoneFiledBy c forms n e none run w.answer w.page → (calls : List Call) → NoneBy c n e calls none → FileNoneStands c forms n e none run (length page) w.answer w.page
  file_none_stands none range given w is filed calls by = finished_from c n e by.search by.sheet (finished.NoRoute none) Q by.finished (λ over. by_ceiling over by.search.ceiling refl) range given is filed
    where
      Q : Finished C N E L S → Type 0
      Q (finished.Found r) = Unit {0}
      Q (finished.NoRoute r) = InRange c.section_range (n.meaning r.net) → GivenInRange c.estimate_range (e.meaning r.estimates) → w ≡ file_none_of c forms n e r run page → NoneFiledBy c forms n e r run w.answer w.page → FileNoneStands c forms n e r run (length page) w.answer w.page

      by_ceiling : unfinished (problem c n e by.search) (standing by.search by.sheet) ≡ None → (x : Ceiling L) → by.search.ceiling ≡ x → Q (conclusion (problem c n e by.search) by.search x)
      by_ceiling over (Met a m) at = tt
      by_ceiling over Absent at = λ range given is filed. none_stands_at by.search by.sheet range given calls by.own at over w is filed
