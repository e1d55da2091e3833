-- What the calls answer depends on what a network and a source of estimates mean alone: they are followed over the problem
-- that these pose.
use Rattle.std.proofs.Common.{◌≡◌, ℕ, List, [], ◌∷◌, length, replicate, Some, None, Option, Ok, Err, Result, refl, ap, ap₂, ◌∙◌}
use Rattle.amounts.specs.declared.cost.Cost as cost
use Rattle.amounts.specs.Forms.{Forms}
use Rattle.networks.specs.declared.network.Network as network
use Rattle.networks.specs.declared.estimates.Estimates as estimates
use Rattle.networks.specs.declared.estimates.Pair.{Pair}
use Rattle.networks.specs.Nets.{Net}
use Rattle.faults.specs.declared.Side.{Side}
use Rattle.faults.specs.declared.Fault.{Fault}
use Rattle.faults.specs.declared.Refusal.{Refusal}
use Rattle.contents.specs.declared.answer.Step.{Step}
use Rattle.optimality.specs.declared.sheet.Row.{Row}
use Rattle.optimality.specs.Sheets.{State, blank_row}
use Rattle.optimality.specs.Problems.{Problem}
use Rattle.search.specs.declared.running.Bounds.{Bounds}
use Rattle.search.specs.declared.running.Found.{Found}
use Rattle.search.specs.declared.running.Finished.{Finished}
use Rattle.search.specs.Calls.{running, search_fault, unfit, begun as begun_over, opening_by, step, bounds, finish, posed}
use Rattle.filing.specs.Listing.{Routed, route_of}
use Rattle.filing.specs.Filing.{filed_by, written, filing_by, file_of}
use Rattle.search.specs.declared.running.Finished.TheVariants as finished
use Rattle.table.specs.After.{Underway, opened_by, stepped_by, finished_by, sheet_of, of_found, stepped_on, bounds_in, finish_in, after, bounds_after, finish_after, route_after, file_after}

-- Over a problem ---------------------------------------------------------------------------------

module _ {C L S : Type 0} (p : Problem C L S) where
  abbrev pub blanks : List (Row C L S)
  blanks = replicate p.net.stations blank_row

  -- what Open leaves
  abbrev pub begun_by : Option Refusal → Result (State C L S) Fault
  begun_by (Some r) = Err (search_fault r)
  begun_by None = Ok (begun_over p blanks)

  abbrev pub moved : Result (Unit {0}) Fault → State C L S → Result (State C L S) Fault
  moved (Ok _) st = Ok st
  moved (Err f) st = Err f

  -- and then the steps
  abbrev pub on : List Side → Result (State C L S) Fault → Result (State C L S) Fault
  on [] r = r
  on (side ∷ sides) (Err f) = Err f
  on (side ∷ sides) (Ok st) = on sides (moved ((step p st side).answer) ((step p st side).state))

  abbrev pub path : List Side → Result (State C L S) Fault
  path sides = on sides (begun_by (unfit p (length blanks)))

  abbrev pub known : Result (State C L S) Fault → Result (Bounds L) Fault
  known (Ok st) = bounds p st
  known (Err f) = Err f

  abbrev pub concluded : {N E : Type 0} → N → E → Result (State C L S) Fault → Result (Finished C N E L S) Fault
  concluded net given (Ok st) = finished_by (finish p (running net given st) st.rows)
  concluded net given (Err f) = Err f

-- the search that holds so much, and its sheet
abbrev pub held : {C N E L S : Type 0} → N → E → Result (State C L S) Fault → Result (Underway C N E L S) Fault
held net given (Ok st) = Ok (record { search = running net given st; sheet = st.rows })
held net given (Err f) = Err f

-- A network that is its own meaning, and estimates likewise ------------------------------------------

abbrev pub plain_net : {C L S : Type 0} → network.Ghosts (Net S) C L S
plain_net = record { meaning = λ net. net }

abbrev pub plain_estimates : {C L S : Type 0} → estimates.Ghosts (List (Pair L)) C L S
plain_estimates = record { meaning = λ given. given }

module _ {C N E L S : Type 0} (c : cost.Ghosts C L S) (n : network.Ghosts N C L S) (e : estimates.Ghosts E C L S) (found : Found C N E L S) where
  -- the found search over what its network and estimates mean
  abbrev pub plainly : Net S → List (Pair L) → Found C (Net S) (List (Pair L)) L S
  plainly m g = record { net = m; estimates = g; taken = found.taken; cost = found.cost; meeting = found.meeting }

  module _ (forms : Forms L S) (run : ℕ) (steps turning : List (Step L)) (page : List ℕ) (r : Routed L) where
    filed_plainly :
        (a : Result ℕ Fault) (after : List ℕ)
        → filed_by c forms n e found run steps turning page r a after
        ≡ filed_by c forms plain_net plain_estimates (plainly (n.meaning found.net) (e.meaning found.estimates)) run steps turning page r a after
    filed_plainly (Err f) after = refl
    filed_plainly (Ok len) after = refl

    filing_plainly :
        (a : Result ℕ Fault)
        → filing_by c forms n e found run steps turning page r a
        ≡ filing_by c forms plain_net plain_estimates (plainly (n.meaning found.net) (e.meaning found.estimates)) run steps turning page r a
    filing_plainly (Err f) = refl
    filing_plainly (Ok count) = let w = written c forms n e found run steps turning page r count in filed_plainly w.answer w.page

  file_plainly :
      (forms : Forms L S) (run : ℕ) (sheet : List (Row C L S)) (steps turning : List (Step L)) (page : List ℕ)
      → file_of c forms n e found run sheet steps turning page
      ≡ file_of c forms plain_net plain_estimates (plainly (n.meaning found.net) (e.meaning found.estimates)) run sheet steps turning page
  file_plainly forms run sheet steps turning page = let r = route_of c (n.meaning found.net) steps turning found.meeting sheet in filing_plainly forms run steps turning page r r.answer

-- What a network and estimates mean ----------------------------------------------------------------

module _ {C N E L S : Type 0} (c : cost.Ghosts C L S) (n : network.Ghosts N C L S) (e : estimates.Ghosts E C L S) (net : N) (given : E) where
  abbrev p : Problem C L S
  p = posed c n e net given

  begun_held : (o : Option Refusal) → opened_by (opening_by p net given (blanks p) o).answer (opening_by p net given (blanks p) o).sheet ≡ held net given (begun_by p o)
  begun_held (Some r) = refl
  begun_held None = refl

  moved_held : (a : Result (Unit {0}) Fault) (st : State C L S) → stepped_by a (record { search = running net given st; sheet = st.rows }) ≡ held net given (moved p a st)
  moved_held (Ok u) st = refl
  moved_held (Err f) st = refl

  on_held : (sides : List Side) (r : Result (State C L S) Fault) → stepped_on c n e sides (held net given r) ≡ held net given (on p sides r)
  on_held [] r = refl
  on_held (side ∷ sides) (Err f) = refl
  on_held (side ∷ sides) (Ok st) =
      ap (stepped_on c n e sides) (moved_held ((step p st side).answer) ((step p st side).state))
      ∙ on_held sides (moved p ((step p st side).answer) ((step p st side).state))

  after_held : (sides : List Side) → after c n e net given sides ≡ held net given (path p sides)
  after_held sides =
      ap (stepped_on c n e sides) (begun_held (unfit p (length (blanks p))))
      ∙ on_held sides (path p [])

  bounds_held : (r : Result (State C L S) Fault) → bounds_in c n e (held net given r) ≡ known p r
  bounds_held (Ok st) = refl
  bounds_held (Err f) = refl

  finish_held : (r : Result (State C L S) Fault) → finish_in c n e (held net given r) ≡ concluded p net given r
  finish_held (Ok st) = refl
  finish_held (Err f) = refl

  module _ {m : Net S} {g : List (Pair L)} (net_means : n.meaning net ≡ m) (given_means : e.meaning given ≡ g) where
    -- the problem that they pose
    abbrev pub problem : Problem C L S
    problem = record { kind = c; net = m; estimates = g }

    is : p ≡ problem
    is = ap₂ (λ m g. record { kind = c; net = m; estimates = g }) net_means given_means

    pub after_is : (sides : List Side) → after c n e net given sides ≡ held net given (path problem sides)
    after_is sides = after_held sides ∙ ap (λ q. held net given (path q sides)) is

    pub bounds_is : (sides : List Side) → bounds_after c n e net given sides ≡ known problem (path problem sides)
    bounds_is sides = ap (bounds_in c n e) (after_held sides) ∙ bounds_held (path p sides) ∙ ap (λ q. known q (path q sides)) is

    pub finish_is : (sides : List Side) → finish_after c n e net given sides ≡ concluded problem net given (path problem sides)
    finish_is sides = ap (finish_in c n e) (after_held sides) ∙ finish_held (path p sides) ∙ ap (λ q. concluded q net given (path q sides)) is

    -- Of a found search ----------------------------------------------------------------------------

    abbrev pub found_at : ℕ → L → ℕ → Found C N E L S
    found_at taken a meeting = record { net = net; estimates = given; taken = taken; cost = a; meeting = meeting }

    module _
        (sides : List Side) (taken : ℕ) (a : L) (meeting : ℕ)
        (ended : concluded problem net given (path problem sides) ≡ Ok (finished.Found (found_at taken a meeting)))
        (steps turning : List (Step L)) where
      -- the sheet after the steps
      abbrev pub rows : List (Row C L S)
      rows = sheet_of (held net given (path problem sides))

      pub route_is : route_after c n e net given sides steps turning ≡ Some (route_of c m steps turning meeting rows)
      route_is =
          ap (of_found (λ found. route_of c (n.meaning found.net) steps turning found.meeting (sheet_of (after c n e net given sides)))) (finish_is sides ∙ ended)
          ∙ ap₂ (λ m u. Some (route_of c m steps turning meeting (sheet_of u))) net_means (after_is sides)

      pub file_is :
          (forms : Forms L S) (run : ℕ) (page : List ℕ)
          → file_after c n e net given sides steps turning forms run page
          ≡ Some (file_of c forms plain_net plain_estimates (plainly c n e (found_at taken a meeting) m g) run rows steps turning page)
      file_is forms run page =
          ap (of_found (λ found. file_of c forms n e found run (sheet_of (after c n e net given sides)) steps turning page)) (finish_is sides ∙ ended)
          ∙ ap (λ u. Some (file_of c forms n e (found_at taken a meeting) run (sheet_of u) steps turning page)) (after_is sides)
          ∙ ap Some (file_plainly c n e (found_at taken a meeting) forms run rows steps turning page)
          ∙ ap₂ (λ m g. Some (file_of c forms plain_net plain_estimates (plainly c n e (found_at taken a meeting) m g) run rows steps turning page)) net_means given_means
