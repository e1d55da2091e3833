-- A search that goes forward and backward in turn until it is ended.
use Rattle.std.specs.Prelude.{ℕ, zero, suc, cond, List, [], ◌∷◌, replicate, length, is_ok, Some, None, Option, Ok, Err, Result}
use Rattle.amounts.specs.declared.cost.Cost as cost
use Rattle.networks.specs.declared.network.Network as network
use Rattle.networks.specs.declared.estimates.Estimates as estimates
use Rattle.faults.specs.Faults.{opposite}
use Rattle.faults.specs.declared.Side.{Side}
use Rattle.faults.specs.declared.Side.TheVariants.{Forward}
use Rattle.faults.specs.declared.Fault.{Fault}
use Rattle.faults.specs.declared.Refusal.{Refusal}
use Rattle.networks.specs.Nets.{Net}
use Rattle.optimality.specs.declared.sheet.Row.{Row}
use Rattle.optimality.specs.declared.sheet.Ceiling.{Ceiling}
use Rattle.optimality.specs.declared.sheet.Ceiling.TheVariants.{Absent, Met}
use Rattle.optimality.specs.Sheets.{State, blank_row}
use Rattle.optimality.specs.Problems.{Problem}
use Rattle.search.specs.declared.running.Finished.{Finished}
use Rattle.search.specs.Calls.{search_fault, running, begun, unfit, step, conclusion, posed}
use Rattle.search.specs.Claims.{Call, step_by_side, accepted}

-- a sheet with a row for each station
abbrev pub blank_sheet : {C L S : Type 0} → Net S → List (Row C L S)
blank_sheet net = replicate net.stations blank_row

-- so many steps, on one side and the other in turn
abbrev pub steps_in_turn : ℕ → Side → List Call
steps_in_turn zero side = []
steps_in_turn (suc n) side = step_by_side side ∷ steps_in_turn n (opposite side)

module _ {C L S : Type 0} (p : Problem C L S) where
  -- The calls of a search in turn: as many steps as there are stations, forward first. Once one is turned down, so are
  -- those after it, and nothing changes.
  abbrev pub calls_in_turn : List Call
  calls_in_turn = steps_in_turn p.net.stations Forward

  -- how many of them are accepted, from what Open leaves on the sheet
  abbrev pub taken_on : List (Row C L S) → ℕ
  taken_on sheet = accepted p (begun p sheet) calls_in_turn

  -- the same on a sheet with a blank row for each station
  abbrev pub taken_in_turn : ℕ
  taken_in_turn = taken_on (blank_sheet p.net)

  -- steps on one side and the other, so many at most, until one is turned down
  abbrev pub in_turn : ℕ → Side → State C L S → State C L S
  in_turn zero side st = st
  in_turn (suc n) side st = let r = step p st side in cond (is_ok r.answer) (in_turn n (opposite side) r.state) r.state

  abbrev pub opened_to : List (Row C L S) → Option Refusal → Result (State C L S) Fault
  opened_to sheet (Some r) = Err (search_fault r)
  opened_to sheet None = Ok (in_turn p.net.stations Forward (begun p sheet))

  -- What the search comes to, forward first: no station is taken twice, so there are no more steps than stations.
  abbrev pub come_to : List (Row C L S) → Result (State C L S) Fault
  come_to sheet = opened_to sheet (unfit p (length sheet))

  -- What is made of what it comes to: of a route's cost, the stations taken, the station where its halves meet, and the
  -- sheet; or of the stations taken where there is no route. A fault is passed on.
  module _ {X : Type 0} (found : L → ℕ → ℕ → List (Row C L S) → Result X Fault) (none : ℕ → Result X Fault) where
    abbrev pub concluded_as : State C L S → Ceiling L → Result X Fault
    concluded_as st Absent = none st.taken
    concluded_as st (Met cost meeting) = found cost st.taken meeting st.rows

    abbrev pub come_as : Result (State C L S) Fault → Result X Fault
    come_as (Ok st) = concluded_as st st.ceiling
    come_as (Err f) = Err f

    -- over a sheet with a blank row for each station
    abbrev pub made_of : Result X Fault
    made_of = come_as (come_to (blank_sheet p.net))

-- What a search in turn answers, and what the sheet then holds.
pub record Searched (C N E L S : Type 0) : Type 0 where
  pub answer : Result (Finished C N E L S) Fault
  pub sheet : List (Row C L S)

module _ {C N E L S : Type 0} (p : Problem C L S) (net : N) (given : E) (sheet : List (Row C L S)) where
  -- only Open turns it down, and then the sheet stands
  abbrev pub searched_by : Result (State C L S) Fault → Searched C N E L S
  searched_by (Err f) = record { answer = Err f; sheet = sheet }
  searched_by (Ok st) = record { answer = Ok (conclusion p (running net given st) st.ceiling); sheet = st.rows }

module _ {C N E L S : Type 0} (c : cost.Ghosts C L S) (n : network.Ghosts N C L S) (e : estimates.Ghosts E C L S) where
  abbrev pub searched_of : N → E → List (Row C L S) → Searched C N E L S
  searched_of net given sheet = let p = posed c n e net given in searched_by p net given sheet (come_to p sheet)
