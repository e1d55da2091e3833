-- The text of an answer is that of what the search came to.
use Rattle.std.proofs.Common.{◌≡◌, ℕ, min, List, Ok, Err, Result, refl, arith, sym, ap, ap₂, subst, subst₂, ◌∙◌, take, drop, length, ◌++◌}
use Rattle.std.proofs.Math.Seq.{take-append_seam}
use Rattle.std.proofs.lemmas.List.{length-replicate, length-map}
use Rattle.records.specs.Shapes.{decoded_run}
use Rattle.records.specs.Layout.{estimate_shape}
use Rattle.records.proofs.Passing.{length-decoded_run}
use Rattle.contents.specs.Checks.{header_of, estimate_bytes}
use Rattle.contents.specs.Content.{pair_from}
use Rattle.amounts.specs.declared.cost.Cost as cost
use Rattle.amounts.specs.Forms.{Forms}
use Rattle.networks.specs.declared.network.Network as network
use Rattle.networks.specs.declared.estimates.Estimates as estimates
use Rattle.networks.specs.Nets.{Net}
use Rattle.faults.specs.declared.Fault.{Fault}
use Rattle.contents.specs.declared.answer.Step.{Step}
use Rattle.optimality.specs.declared.sheet.Row.{Row}
use Rattle.optimality.specs.declared.sheet.Ceiling.{Ceiling}
use Rattle.optimality.specs.declared.sheet.Ceiling.TheVariants.{Absent, Met}
use Rattle.optimality.specs.Sheets.{State, blank_row}
use Rattle.optimality.specs.Problems.{Problem, Consistent}
use Rattle.search.specs.declared.running.Found.{Found}
use Rattle.search.specs.declared.running.NoRoute.{NoRoute}
use Rattle.search.specs.declared.running.Finished.{Finished}
use Rattle.search.specs.declared.running.Finished.TheVariants as finished
use Rattle.search.specs.Calls.{running, conclusion, posed}
use Rattle.search.specs.Claims.{Least}
use Rattle.filing.specs.Listing.{last_cost}
use Rattle.filing.specs.Claims.{Listed, FoundBy, ListShort}
use Rattle.planning.specs.Turns.{blank_sheet, calls_in_turn, taken_in_turn, come_to, concluded_as, come_as, made_of, Searched, searched_by, searched_of}
use Rattle.planning.specs.Texts.{route_text}
use Rattle.planning.specs.Planned.{blank_steps, problem_on}
use Rattle.planning.specs.Claims.{Suits, NoneFound, SearchStands, RouteTold, Told, PlanStands, Filed, FiledStands}

-- a list that was lent whole holds what was written
pub written : {X : Type 0} (len : ℕ) (before after : List X) → len ≡ length before → length after ≡ length before → take len (after ++ drop (length after) before) ≡ after
written len before after all same = ap (λ n. take n (after ++ drop (length after) before)) (all ∙ sym same) ∙ take-append_seam after (drop (length after) before)

-- Route over lists that nobody has written --------------------------------------------------------

module _ {C N E L S : Type 0} (c : cost.Ghosts C L S) (n : network.Ghosts N C L S) (e : estimates.Ghosts E C L S) (found : Found C N E L S) (sheet : List (Row C L S)) (steps turning : List (Step L)) (blank : steps ≡ blank_steps c (n.meaning found.net).stations) (other : turning ≡ blank_steps c (n.meaning found.net).stations) where
  abbrev net : Net S
  net = n.meaning found.net

  -- they have a place for each station, so neither is too short
  pub never_short : (f : Fault) → ListShort c n e found sheet (min (length steps) (length turning)) f → ⊥
  never_short f short =
      let place : Step L = record { section = 0; from = 0; to = 0; so_far = c.ops.zero } in
      let one : length steps ≡ net.stations = ap length blank ∙ length-replicate net.stations place in
      let two : length turning ≡ net.stations = ap length other ∙ length-replicate net.stations place in
      omega (arith, one, two, short.short, short.route.few)

-- A search in turn over a sheet that nobody has written --------------------------------------------

module _ {C N E L S : Type 0} (c : cost.Ghosts C L S) (n : network.Ghosts N C L S) (e : estimates.Ghosts E C L S) (net : N) (given : E) where
  abbrev p : Problem C L S
  p = posed c n e net given

  pub record OnBlank (sheet : List (Row C L S)) (r : Searched C N E L S) : Type 0 where
    pub blank : sheet ≡ blank_sheet p.net
    pub exact : r ≡ searched_of c n e net given sheet
    pub stands : SearchStands c n e net given sheet r.answer r.sheet

  abbrev searched : Result (State C L S) Fault → Searched C N E L S
  searched x = searched_by p net given (blank_sheet p.net) x

  -- what is made of an answer is what is made of what the search came to
  module _ {X : Type 0} (found : L → ℕ → ℕ → List (Row C L S) → Result X Fault) (none : ℕ → Result X Fault) where
    abbrev answer_as : Result (Finished C N E L S) Fault → List (Row C L S) → Result X Fault
    answer_as (Ok (finished.Found r)) sheet = found r.cost r.taken r.meeting sheet
    answer_as (Ok (finished.NoRoute r)) sheet = none r.taken
    answer_as (Err f) sheet = Err f

    made_same : (x : Result (State C L S) Fault) → answer_as (searched x).answer (searched x).sheet ≡ come_as p found none x
    made_same (Err f) = refl
    made_same (Ok st) = go st.ceiling
      where
        go : (ceiling : Ceiling L) → answer_as (Ok (conclusion p (running net given st) ceiling)) st.rows ≡ concluded_as p found none st ceiling
        go Absent = refl
        go (Met a m) = refl

  -- the problem that is answered
  abbrev Same : Result (Finished C N E L S) Fault → Type 1
  Same (Ok (finished.Found r)) = posed c n e r.net r.estimates ≡ p
  Same (Ok (finished.NoRoute r)) = posed c n e r.net r.estimates ≡ p
  Same (Err f) = p ≡ p

  same_problem : (x : Result (State C L S) Fault) → Same ((searched x).answer)
  same_problem (Err f) = refl
  same_problem (Ok st) = go st.ceiling
    where
      go : (ceiling : Ceiling L) → Same (Ok (conclusion p (running net given st) ceiling))
      go Absent = refl
      go (Met a m) = refl

module _ {C N E L S : Type 0} {c : cost.Ghosts C L S} {n : network.Ghosts N C L S} {e : estimates.Ghosts E C L S} {net : N} {given : E} {sheet : List (Row C L S)} {r : Searched C N E L S} (on : OnBlank c n e net given sheet r) where
  abbrev q : Problem C L S
  q = posed c n e net given

  came : r ≡ searched c n e net given (come_to q (blank_sheet q.net))
  came = on.exact ∙ ap (searched_of c n e net given) on.blank

  same : Same c n e net given r.answer
  same = subst (λ r. Same c n e net given r.answer) (sym came) (same_problem c n e net given (come_to q (blank_sheet q.net)))

  stands_at : (answer : Result (Finished C N E L S) Fault) → r.answer ≡ answer → SearchStands c n e net given (blank_sheet q.net) answer r.sheet
  stands_at answer at = subst₂ (λ sheet a. SearchStands c n e net given sheet a r.sheet) on.blank at on.stands

  module _ {X : Type 0} (answer : Result (Finished C N E L S) Fault) (at : r.answer ≡ answer) (found : L → ℕ → ℕ → List (Row C L S) → Result X Fault) (none : ℕ → Result X Fault) where
    pub answer_made : answer_as c n e net given found none answer r.sheet ≡ made_of q found none
    answer_made =
        sym (ap (λ a. answer_as c n e net given found none a r.sheet) at)
        ∙ ap (λ r. answer_as c n e net given found none r.answer r.sheet) came
        ∙ made_same c n e net given found none (come_to q (blank_sheet q.net))

  -- a route was found
  module _ (found : Found C N E L S) (at : r.answer ≡ Ok (finished.Found found)) where
    pub same_found : posed c n e found.net found.estimates ≡ q
    same_found = subst (Same c n e net given) at same

    pub found_by_turns : FoundBy c n e (calls_in_turn q) found r.sheet
    found_by_turns = (stands_at (Ok (finished.Found found)) at).by_turns

    pub found_taken : found.taken ≡ taken_in_turn (posed c n e found.net found.estimates)
    found_taken = (stands_at (Ok (finished.Found found)) at).taken ∙ sym (ap taken_in_turn same_found)

  -- there is none
  module _ (none : NoRoute C N E L S) (at : r.answer ≡ Ok (finished.NoRoute none)) where
    pub same_none : posed c n e none.net none.estimates ≡ q
    same_none = subst (Same c n e net given) at same

    pub none_stands : NoneFound c n e net given (blank_sheet q.net) none
    none_stands = stands_at (Ok (finished.NoRoute none)) at

    pub none_taken : none.taken ≡ taken_in_turn (posed c n e none.net none.estimates)
    none_taken = none_stands.taken ∙ sym (ap taken_in_turn same_none)

  -- it was turned down
  pub unsuited : (f : Fault) → r.answer ≡ Err f → Suits q q.net.stations → ⊥
  unsuited f at suits = stands_at (Err f) at (subst (Suits q) (sym (length-replicate q.net.stations blank_row)) suits)

-- what Route lists
pub route_told : {C N E L S : Type 0} (c : cost.Ghosts C L S) (forms : Forms L S) (n : network.Ghosts N C L S) (e : estimates.Ghosts E C L S) (found : Found C N E L S) (steps : List (Step L)) → Listed c forms (n.meaning found.net) steps → last_cost c.ops.zero steps ≡ found.cost → Least (posed c n e found.net found.estimates) found.cost → found.taken ≡ taken_in_turn (posed c n e found.net found.estimates) → (text : List ℕ) → text ≡ route_text c forms found.cost found.taken steps → RouteTold (posed c n e found.net found.estimates) forms text
route_told c forms n e found steps right cost least taken text told =
    record {
      steps = steps;
      listed = right;
      least = subst (Least (posed c n e found.net found.estimates)) (sym cost) least;
      told = told ∙ ap₂ (λ cost taken. route_text c forms cost taken steps) (sym cost) taken;
    }

-- a page that is accepted and whose estimates are consistent suits its network
pub page_suits : {C L S : Type 0} (c : cost.Ghosts C L S) (forms : Forms L S) (page : List ℕ) → Consistent (problem_on c forms page) → Suits (problem_on c forms page) (header_of page).stations
page_suits c forms page consistent =
    record {
      room = omega arith;
      counts = length-map (decoded_run estimate_shape (header_of page).stations (estimate_bytes page)) (pair_from c forms) ∙ length-decoded_run estimate_shape (header_of page).stations (estimate_bytes page);
      consistent = consistent;
    }

pub plan_stands : {C L S : Type 0} (c : cost.Ghosts C L S) (forms : Forms L S) (page bytes text : List ℕ) → bytes ≡ page → Told (problem_on c forms bytes) forms text → PlanStands c forms page text
plan_stands c forms page bytes text same told accepted consistent = subst (λ bytes. Told (problem_on c forms bytes) forms text) same told (page_suits c forms page consistent)

pub filed_stands : {C L S : Type 0} (c : cost.Ghosts C L S) (forms : Forms L S) (run : ℕ) (page bytes : List ℕ) (r : Result (List ℕ) Fault) → bytes ≡ page → Filed (problem_on c forms bytes) forms run r → FiledStands c forms run page r
filed_stands c forms run page bytes r same filed accepted consistent = subst (λ bytes. Filed (problem_on c forms bytes) forms run r) same filed (page_suits c forms page consistent)
