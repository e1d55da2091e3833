-- What the calls of a search answer, and what search and sheet then hold; and which search has its sheet to itself.
use Rattle.std.specs.Prelude.{ℕ, ◌+◌, ◌^◌, ◌<◌, Bool, cond, List, [], ◌∷◌, ◌++◌, length, take, drop, Some, None, Option, Ok, Err, Result, ◌==◌, nat_lt}
use Rattle.amounts.specs.declared.cost.Cost as cost
use Rattle.networks.specs.declared.network.Network as network
use Rattle.networks.specs.declared.estimates.Estimates as estimates
use Rattle.faults.specs.declared.Side.{Side}
use Rattle.faults.specs.declared.Side.TheVariants.{Forward, Backward}
use Rattle.faults.specs.declared.Fault.{Fault}
use Rattle.faults.specs.declared.Layer.TheVariants as layer
use Rattle.faults.specs.declared.Refusal.{Refusal}
use Rattle.faults.specs.declared.Refusal.TheVariants.{TooFewRows, EstimateCount, Inconsistent, Ended, NotEnded, ForeignSheet}
use Rattle.faults.specs.Faults.{fault_of}
use Rattle.networks.specs.declared.section.Section.{Section}
use Rattle.optimality.specs.declared.sheet.Row.{Row}
use Rattle.optimality.specs.declared.sheet.Front.{Front}
use Rattle.optimality.specs.declared.sheet.Ceiling.{Ceiling}
use Rattle.optimality.specs.declared.sheet.Ceiling.TheVariants.{Absent, Met}
use Rattle.optimality.specs.Sheets.{State}
use Rattle.optimality.specs.Problems.{Problem}
use Rattle.optimality.specs.Keys.{breaks}
use Rattle.optimality.specs.Search.{front, floor, ended, taking, opened}
use Rattle.search.specs.declared.running.Running.{Running}
use Rattle.search.specs.declared.running.Finished.{Finished}
use Rattle.search.specs.declared.running.Finished.TheVariants as finished
use Rattle.search.specs.declared.running.Unopened.{Unopened}
use Rattle.search.specs.declared.running.Unfinished.{Unfinished}
use Rattle.search.specs.declared.running.Bounds.{Bounds}

abbrev pub search_fault : Refusal → Fault
search_fault r = fault_of layer.Search r

-- Searches and states --------------------------------------------------------------------------

module _ {C N E L S : Type 0} where
  -- what a search and its sheet hold
  abbrev pub standing : Running C N E L S → List (Row C L S) → State C L S
  standing s sheet = record { taken = s.taken; ceiling = s.ceiling; rows = sheet }

  -- a search over network and estimates that holds as much
  abbrev pub running : N → E → State C L S → Running C N E L S
  running net given st = record { net = net; estimates = given; taken = st.taken; ceiling = st.ceiling }

-- What an Open answers, and what the sheet then holds.
pub record Opening (C N E L S : Type 0) : Type 0 where
  pub answer : Result (Running C N E L S) (Unopened N E)
  pub sheet : List (Row C L S)

-- What a step answers, and what search and sheet then are.
pub record Left (C N E L S : Type 0) : Type 0 where
  pub answer : Result (Unit {0}) Fault
  pub search : Running C N E L S
  pub sheet : List (Row C L S)

-- The calls over a state, whose rows are the whole sheet -----------------------------------------

-- what a step answers, and what search and sheet then hold
pub record Stepped (C L S : Type 0) : Type 0 where
  pub answer : Result (Unit {0}) Fault
  pub state : State C L S

-- a front is one of the stations, and has a label that a row holds
pub record Ready {C L S : Type 0} (p : Problem C L S) (f : Front L) : Type 0 where
  pub station : f.station < p.net.stations
  pub label : p.kind.ops.size f.label < 2 ^ 44

module _ {C L S : Type 0} (p : Problem C L S) where
  -- the first section that breaks the estimates, counted from k, and the side, forward first
  abbrev pub first_broken : ℕ → List (Section S) → Option Refusal
  first_broken k [] = None
  first_broken k (s ∷ ss) =
      cond (breaks p.kind p.estimates Forward s) (Some (Inconsistent k Forward))
      (cond (breaks p.kind p.estimates Backward s) (Some (Inconsistent k Backward)) (first_broken (k + 1) ss))

  -- why no search can be opened over so many rows
  abbrev pub unfit : ℕ → Option Refusal
  unfit rows =
      cond (nat_lt rows p.net.stations) (Some (TooFewRows rows))
      (cond (length p.estimates == p.net.stations) (first_broken 0 p.net.sections) (Some (EstimateCount (length p.estimates))))

  -- the rows past the stations stay
  abbrev pub over : List (Row C L S) → State C L S → State C L S
  over sheet st = record { taken = st.taken; ceiling = st.ceiling; rows = st.rows ++ drop p.net.stations sheet }

  -- what an accepted Open leaves
  abbrev pub begun : List (Row C L S) → State C L S
  begun sheet = over sheet (opened p)

  module _ {N E : Type 0} (net : N) (given : E) (sheet : List (Row C L S)) where
    abbrev pub opening_by : Option Refusal → Opening C N E L S
    opening_by (Some r) = record { answer = Err (record { net = net; estimates = given; fault = search_fault r }); sheet = sheet }
    opening_by None = record { answer = Ok (running net given (begun sheet)); sheet = (begun sheet).rows }

    abbrev pub opening : Opening C N E L S
    opening = opening_by (unfit (length sheet))

  module _ (st : State C L S) where
    -- the search's own rows, one a station
    abbrev pub own : State C L S
    own = record { taken = st.taken; ceiling = st.ceiling; rows = take p.net.stations st.rows }

    abbrev pub short : Bool
    short = nat_lt (length st.rows) p.net.stations

    abbrev pub foreign : Fault
    foreign = search_fault (ForeignSheet (length st.rows))

    abbrev pub turned_down : Fault → Stepped C L S
    turned_down f = record { answer = Err f; state = st }

    -- the front that a step takes; none where the search is ended
    abbrev pub next : Side → Option (Front L)
    next side = cond (ended p own) None (front p own side)

    abbrev pub stepped_to : Option (State C L S) → Stepped C L S
    stepped_to None = turned_down foreign
    stepped_to (Some after) = record { answer = Ok tt; state = over st.rows after }

    abbrev pub step_by : Side → Option (Front L) → Stepped C L S
    step_by side None = turned_down (search_fault (Ended st.taken))
    step_by side (Some f) = stepped_to (taking p side f own)

    abbrev pub step : Side → Stepped C L S
    step side = cond short (turned_down foreign) (step_by side (next side))

    abbrev pub bounds : Result (Bounds L) Fault
    bounds = cond short (Err foreign) (Ok (record { floor = floor p own; ceiling = st.ceiling }))

    -- why a search cannot be finished
    abbrev pub unfinished : Option Fault
    unfinished = cond short (Some foreign) (cond (ended p own) None (Some (search_fault (NotEnded st.taken))))

  -- Finish ---------------------------------------------------------------------------------------

  module _ {N E : Type 0} (s : Running C N E L S) where
    abbrev pub conclusion : Ceiling L → Finished C N E L S
    conclusion Absent = finished.NoRoute (record { net = s.net; estimates = s.estimates; taken = s.taken; tag = record {} })
    conclusion (Met a m) = finished.Found (record { net = s.net; estimates = s.estimates; taken = s.taken; cost = a; meeting = m })

    abbrev pub finish_by : Option Fault → Result (Finished C N E L S) (Unfinished C N E L S)
    finish_by (Some f) = Err (record { search = s; fault = f })
    finish_by None = Ok (conclusion s.ceiling)

    abbrev pub finish : List (Row C L S) → Result (Finished C N E L S) (Unfinished C N E L S)
    finish sheet = finish_by (unfinished (standing s sheet))

-- The calls, by what a kind of cost, a network and estimates mean ---------------------------------

module _ {C N E L S : Type 0} (c : cost.Ghosts C L S) (n : network.Ghosts N C L S) (e : estimates.Ghosts E C L S) where
  -- the problem that a network and estimates pose
  abbrev pub posed : N → E → Problem C L S
  posed net given = record { kind = c; net = n.meaning net; estimates = e.meaning given }

  -- the problem of a search
  abbrev pub problem : Running C N E L S → Problem C L S
  problem s = posed s.net s.estimates

  abbrev pub open_of : N → E → List (Row C L S) → Opening C N E L S
  open_of net given sheet = opening (posed net given) net given sheet

  abbrev pub left_by : Running C N E L S → Stepped C L S → Left C N E L S
  left_by s r = record { answer = r.answer; search = running s.net s.estimates r.state; sheet = r.state.rows }

  -- Forward or Backward
  abbrev pub step_of : Side → Running C N E L S → List (Row C L S) → Left C N E L S
  step_of side s sheet = left_by s (step (problem s) (standing s sheet) side)

  abbrev pub bounds_of : Running C N E L S → List (Row C L S) → Result (Bounds L) Fault
  bounds_of s sheet = bounds (problem s) (standing s sheet)

  abbrev pub finish_of : Running C N E L S → List (Row C L S) → Result (Finished C N E L S) (Unfinished C N E L S)
  finish_of s sheet = finish (problem s) s sheet
