-- What is filed is what the search came to, and a page with room for it is not refused.
use Rattle.std.proofs.Common.{◌≡◌, ℕ, ◌+◌, ◌*◌, ◌≤◌, min, List, length, take, inl, inr, ◌⊎◌, IsOkAnd, Some, Ok, Err, Result, refl, sym, ap, ap₂, subst, ◌∙◌, arith}
use Rattle.std.proofs.lemmas.List.{length-replicate}
use Rattle.amounts.specs.declared.cost.Cost as cost
use Rattle.amounts.specs.Forms.{Forms}
use Rattle.networks.specs.declared.network.Network as network
use Rattle.networks.specs.declared.estimates.Estimates as estimates
use Rattle.faults.specs.declared.Fault.{Fault}
use Rattle.contents.specs.declared.answer.Step.{Step}
use Rattle.contents.specs.Content.{Meant}
use Rattle.contents.specs.Again.{Back}
use Rattle.contents.specs.Writing.{Written, write_of}
use Rattle.contents.proofs.Returning.{encode_length}
use Rattle.contents.proofs.Wrote.{answer_size_lem}
use Rattle.optimality.specs.declared.sheet.Row.{Row}
use Rattle.optimality.specs.Problems.{Problem}
use Rattle.search.specs.declared.running.Found.{Found}
use Rattle.search.specs.declared.running.NoRoute.{NoRoute}
use Rattle.search.specs.Calls.{posed}
use Rattle.search.specs.Claims.{Call, Least}
use Rattle.filing.specs.Arrivals.{through}
use Rattle.filing.specs.Listing.{Routed, steps_along, route_of, last_cost}
use Rattle.filing.proofs.Lists.{length_along}
use Rattle.filing.specs.Claims.{SaysRoute, SaysNone, FoundBy, NoneBy, FiledBy, FileStands, PageShort, NoneFiledBy, FileNoneStands}
use Rattle.filing.specs.Filing.{Filing, route_filed, none_filed, filed_by, filing_by, file_of, file_none_of}
use Rattle.planning.specs.Turns.{taken_in_turn}
use Rattle.planning.specs.Planned.{blank_steps}
use Rattle.planning.specs.Filed.{cut_to, blank_page, content_with, filed_listed, found_page, none_page}
use Rattle.planning.specs.Claims.{Suits, RouteFiled, NoneFiled, Filed}
use Rattle.planning.proofs.Telling.{never_short}

-- an answer with at most a step for each station has room on a blank page
enough : {C L S : Type 0} (p : Problem C L S) (forms : Forms L S) (m : Meant L) (f : Fault) → length m.steps ≤ p.net.stations → length p.estimates ≡ p.net.stations → PageShort p.kind forms (content_with p m) (length (blank_page p.net)) f → ⊥
enough p forms m f few counts short =
    let room = 10 + 12 * length p.net.sections + 21 * p.net.stations + 20 + 13 * p.net.stations + 1 in
    let nought : ℕ = 0 in
    omega (arith, encode_length p.kind forms (content_with p m), answer_size_lem p.kind forms (Some m), length-replicate room nought, few, counts, short.short)

-- A found route -------------------------------------------------------------------------------------

module _ {C N E L S : Type 0} (c : cost.Ghosts C L S) (forms : Forms L S) (n : network.Ghosts N C L S) (e : estimates.Ghosts E C L S) (found : Found C N E L S) (run : ℕ) (sheet : List (Row C L S)) where
  abbrev p : Problem C L S
  p = posed c n e found.net found.estimates

  module _ (steps turning : List (Step L)) (page : List ℕ) (r : Routed L) where
    abbrev filing : Result ℕ Fault → Filing L
    filing a = filing_by c forms n e found run steps turning page r a

    abbrev filed_so : Result ℕ Fault → List ℕ → Filing L
    filed_so b after = filed_by c forms n e found run steps turning page r b after

    abbrev answer : ℕ → Meant L
    answer count = route_filed c run found.taken (take count r.steps)

    cut_filed : (b : Result ℕ Fault) (after : List ℕ) → cut_to ((filed_so b after).page) ((filed_so b after).answer) ≡ cut_to after b
    cut_filed (Ok len) after = refl
    cut_filed (Err f) after = refl

    cut_filing : page ≡ blank_page p.net → (a : Result ℕ Fault) → cut_to ((filing a).page) ((filing a).answer) ≡ filed_listed p forms run found.taken r a
    cut_filing blank (Err f) = refl
    cut_filing blank (Ok count) =
        let w = write_of c forms page (content_with p (answer count)) in
        cut_filed w.answer w.page ∙ ap (λ page. let w = write_of c forms page (content_with p (answer count)) in cut_to w.page w.answer) blank

  -- File over lists and a page that nobody has written
  pub record FileOnBlank (steps turning : List (Step L)) (page : List ℕ) (done : Filing L) : Type 0 where
    pub blank : steps ≡ blank_steps c p.net.stations
    pub other : turning ≡ blank_steps c p.net.stations
    pub fresh : page ≡ blank_page p.net
    pub exact : done ≡ file_of c forms n e found run sheet steps turning page
    pub filed : FiledBy c forms n e found run done.answer done.steps done.page
    pub stands : (calls : List Call) → FoundBy c n e calls found sheet → FileStands c forms n e found run sheet (min (length steps) (length turning)) (length page) done.answer done.page

  module _ (steps turning : List (Step L)) (page : List ℕ) (done : Filing L) (on : FileOnBlank steps turning page done) where
    abbrev routed : Routed L
    routed = route_of c p.net steps turning found.meeting sheet

    pub found_same : cut_to done.page done.answer ≡ found_page p forms run found.cost found.taken found.meeting sheet
    found_same =
        ap (λ d. cut_to d.page d.answer) on.exact
        ∙ cut_filing steps turning page routed on.fresh routed.answer
        ∙ ap₂ (λ steps turning. let r = route_of c p.net steps turning found.meeting sheet in filed_listed p forms run found.taken r r.answer) on.blank on.other

    -- what is filed of these sections
    abbrev along : List ℕ → Meant L
    along ks = route_filed c run found.taken (steps_along c p.net c.ops.zero ks)

    -- lists and page have room
    never : Suits p p.net.stations → (f : Fault) → FileStands c forms n e found run sheet (min (length steps) (length turning)) (length page) (Err f) done.page → ⊥
    never suits f (inl short) = never_short c n e found sheet steps turning on.blank on.other f short
    never suits f (inr short) =
        let ks = through short.route.halves in
        enough p forms (along ks) f (omega (arith, length_along c p.net c.ops.zero ks, short.route.few)) suits.counts (subst (λ page. PageShort c forms (content_with p (along ks)) (length page) f) on.fresh short.page)

    pub found_right : (calls : List Call) → FoundBy c n e calls found sheet → found.taken ≡ taken_in_turn p → Filed p forms run (cut_to done.page done.answer)
    found_right calls by taken suits = by_answer done.answer on.filed (on.stands calls by)
      where
        by_answer : (a : Result ℕ Fault) → FiledBy c forms n e found run a done.steps done.page → FileStands c forms n e found run sheet (min (length steps) (length turning)) (length page) a done.page → IsOkAnd (cut_to done.page a) (λ bytes. RouteFiled p forms run bytes ⊎ NoneFiled p forms run bytes)
        by_answer (Err f) filed stands = absurd (never suits f stands)
        by_answer (Ok len) filed stands =
            let (count, right, page) = filed in
            let steps = take count done.steps in
            let cost : last_cost c.ops.zero steps ≡ found.cost = (stands.0 (route_filed c run found.taken steps) (ap (λ x. x.answer) page.back.same)).costs in
            inl (
            record {
              steps = steps;
              listed = right;
              least = subst (Least p) (sym cost) stands.1;
              back = subst (λ taken. Back c forms (content_with p (route_filed c run taken steps)) (take len done.page)) taken page.back;
              retraces = page.right;
              says = λ m is. subst (λ taken. SaysRoute run taken (last_cost c.ops.zero steps) m) taken (subst (λ cost. SaysRoute run found.taken cost m) (sym cost) (stands.0 m is));
            })

-- No route ------------------------------------------------------------------------------------------

module _ {C N E L S : Type 0} (c : cost.Ghosts C L S) (forms : Forms L S) (n : network.Ghosts N C L S) (e : estimates.Ghosts E C L S) (none : NoRoute C N E L S) (run : ℕ) where
  abbrev q : Problem C L S
  q = posed c n e none.net none.estimates

  abbrev nothing : Meant L
  nothing = none_filed c run none.taken

  -- File over a page that nobody has written
  pub record NoneOnBlank (page : List ℕ) (done : Written c forms) : Type 0 where
    pub fresh : page ≡ blank_page q.net
    pub exact : done ≡ file_none_of c forms n e none run page
    pub filed : NoneFiledBy c forms n e none run done.answer done.page
    pub stands : (calls : List Call) → NoneBy c n e calls none → FileNoneStands c forms n e none run (length page) done.answer done.page

  module _ (page : List ℕ) (done : Written c forms) (on : NoneOnBlank page done) where
    pub none_same : cut_to done.page done.answer ≡ none_page q forms run none.taken
    none_same = ap (λ w. cut_to w.page w.answer) on.exact ∙ ap (λ page. let w = write_of c forms page (content_with q nothing) in cut_to w.page w.answer) on.fresh

    pub none_right : (calls : List Call) → NoneBy c n e calls none → none.taken ≡ taken_in_turn q → Filed q forms run (cut_to done.page done.answer)
    none_right calls by taken suits = by_answer done.answer on.filed (on.stands calls by)
      where
        by_answer : (a : Result ℕ Fault) → NoneFiledBy c forms n e none run a done.page → FileNoneStands c forms n e none run (length page) a done.page → IsOkAnd (cut_to done.page a) (λ bytes. RouteFiled q forms run bytes ⊎ NoneFiled q forms run bytes)
        by_answer (Ok len) filed stands =
            inr (
            record {
              none = stands.0;
              back = subst (λ taken. Back c forms (content_with q (none_filed c run taken)) (take len done.page)) taken filed;
              says = λ m is. subst (λ taken. SaysNone run taken m) taken (stands.1 m is);
            })
        by_answer (Err f) filed short = absurd (enough q forms nothing f (omega arith) suits.counts (subst (λ page. PageShort c forms (content_with q nothing) (length page) f) on.fresh short))
