-- What the calls answer one after the other: Open on blank rows, then steps, then Bounds, Finish, Route or File.
use Rattle.std.specs.Prelude.{ℕ, zero, suc, List, [], ◌∷◌, replicate, Some, None, Option, Ok, Err, Result}
use Rattle.amounts.specs.declared.cost.Cost as cost
use Rattle.amounts.specs.Forms.{Forms}
use Rattle.networks.specs.declared.network.Network as network
use Rattle.networks.specs.declared.estimates.Estimates as estimates
use Rattle.faults.specs.declared.Side.{Side}
use Rattle.faults.specs.declared.Side.TheVariants.{Forward}
use Rattle.faults.specs.declared.Fault.{Fault}
use Rattle.faults.specs.Faults.{opposite}
use Rattle.contents.specs.declared.answer.Step.{Step}
use Rattle.optimality.specs.declared.sheet.Row.{Row}
use Rattle.optimality.specs.Sheets.{blank_row}
use Rattle.search.specs.declared.running.Bounds.{Bounds}
use Rattle.search.specs.declared.running.Running.{Running}
use Rattle.search.specs.declared.running.Found.{Found}
use Rattle.search.specs.declared.running.Finished.{Finished}
use Rattle.search.specs.declared.running.Finished.TheVariants as finished
use Rattle.search.specs.declared.running.Unfinished.{Unfinished}
use Rattle.search.specs.declared.running.Unopened.{Unopened}
use Rattle.search.specs.Calls.{open_of, step_of, bounds_of, finish_of}
use Rattle.filing.specs.Listing.{Routed, route_of}
use Rattle.filing.specs.Filing.{Filing, file_of}

-- Forward and Backward in turn, so many steps
abbrev pub turns : Side → ℕ → List Side
turns side zero = []
turns side (suc n) = side ∷ turns (opposite side) n

abbrev pub in_turn : ℕ → List Side
in_turn n = turns Forward n

-- a search and its sheet
pub record Underway (C N E L S : Type 0) : Type 0 where
  pub search : Running C N E L S
  pub sheet : List (Row C L S)

module _ {C N E L S : Type 0} where
  -- the search that an Open gave, or why it gave none
  abbrev pub opened_by : Result (Running C N E L S) (Unopened N E) → List (Row C L S) → Result (Underway C N E L S) Fault
  opened_by (Ok s) sheet = Ok (record { search = s; sheet = sheet })
  opened_by (Err back) sheet = Err back.fault

  abbrev pub stepped_by : Result (Unit {0}) Fault → Underway C N E L S → Result (Underway C N E L S) Fault
  stepped_by (Ok _) after = Ok after
  stepped_by (Err f) after = Err f

  abbrev pub finished_by : Result (Finished C N E L S) (Unfinished C N E L S) → Result (Finished C N E L S) Fault
  finished_by (Ok x) = Ok x
  finished_by (Err back) = Err back.fault

  abbrev pub sheet_of : Result (Underway C N E L S) Fault → List (Row C L S)
  sheet_of (Ok u) = u.sheet
  sheet_of (Err f) = []

  -- what is asked of a found search; nothing where a call was turned down, or there is no route
  abbrev pub of_found : {X : Type 0} → (Found C N E L S → X) → Result (Finished C N E L S) Fault → Option X
  of_found ask (Ok (finished.Found found)) = Some (ask found)
  of_found ask (Ok (finished.NoRoute none)) = None
  of_found ask (Err f) = None

module _ {C N E L S : Type 0} (c : cost.Ghosts C L S) (n : network.Ghosts N C L S) (e : estimates.Ghosts E C L S) where
  abbrev pub stepped : Side → Underway C N E L S → Result (Underway C N E L S) Fault
  stepped side u = let l = step_of c n e side u.search u.sheet in stepped_by l.answer (record { search = l.search; sheet = l.sheet })

  -- the steps, up to the first that is turned down
  abbrev pub stepped_on : List Side → Result (Underway C N E L S) Fault → Result (Underway C N E L S) Fault
  stepped_on [] r = r
  stepped_on (side ∷ sides) (Err f) = Err f
  stepped_on (side ∷ sides) (Ok u) = stepped_on sides (stepped side u)

  abbrev pub bounds_in : Result (Underway C N E L S) Fault → Result (Bounds L) Fault
  bounds_in (Err f) = Err f
  bounds_in (Ok u) = bounds_of c n e u.search u.sheet

  abbrev pub finish_in : Result (Underway C N E L S) Fault → Result (Finished C N E L S) Fault
  finish_in (Err f) = Err f
  finish_in (Ok u) = finished_by (finish_of c n e u.search u.sheet)

  module _ (net : N) (given : E) where
    -- Open, on a blank row for each station
    abbrev pub begun : Result (Underway C N E L S) Fault
    begun = let o = open_of c n e net given (replicate (n.meaning net).stations blank_row) in opened_by o.answer o.sheet

    -- and then the steps
    abbrev pub after : List Side → Result (Underway C N E L S) Fault
    after sides = stepped_on sides begun

    -- What Bounds, Finish, Route and File answer after the steps ---------------------------------

    abbrev pub bounds_after : List Side → Result (Bounds L) Fault
    bounds_after sides = bounds_in (after sides)

    abbrev pub finish_after : List Side → Result (Finished C N E L S) Fault
    finish_after sides = finish_in (after sides)

    module _ (sides : List Side) (steps turning : List (Step L)) where
      abbrev pub route_after : Option (Routed L)
      route_after = of_found (λ found. route_of c (n.meaning found.net) steps turning found.meeting (sheet_of (after sides))) (finish_after sides)

      abbrev pub file_after : Forms L S → ℕ → List ℕ → Option (Filing L)
      file_after forms run page = of_found (λ found. file_of c forms n e found run (sheet_of (after sides)) steps turning page) (finish_after sides)
