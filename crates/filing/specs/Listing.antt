-- What Route answers, and what the two lists of steps then hold.
use Rattle.std.specs.Prelude.{ℕ, cond, min, List, [], ◌∷◌, ◌++◌, length, take, drop, reverse, Some, None, Option, Ok, Err, Result, nat_lt}
use Rattle.std.specs.List.{slice_get}
use Rattle.amounts.specs.Amount.{computed}
use Rattle.amounts.specs.declared.cost.Cost as cost
use Rattle.faults.specs.declared.Fault.{Fault}
use Rattle.faults.specs.declared.Layer.TheVariants as layer
use Rattle.faults.specs.declared.Refusal.{Refusal}
use Rattle.faults.specs.declared.Refusal.TheVariants.{ForeignSheet, ListTooShort}
use Rattle.faults.specs.Faults.{fault_of}
use Rattle.networks.specs.Nets.{Net}
use Rattle.networks.specs.Routes.{worth_in}
use Rattle.contents.specs.declared.answer.Step.{Step}
use Rattle.contents.specs.Content.{from_of, to_of}
use Rattle.optimality.specs.declared.sheet.Row.{Row}
use Rattle.filing.specs.Arrivals.{Line, through, line}

abbrev pub filing_fault : Refusal → Fault
filing_fault r = fault_of layer.Filing r

-- Steps ------------------------------------------------------------------------------------------

module _ {C L S : Type 0} (c : cost.Ghosts C L S) (net : Net S) where
  -- the numbered section as a step, with the cost so far
  abbrev pub step_at : ℕ → L → Step L
  step_at k a = let s = slice_get net.sections k in record { section = k; from = from_of s; to = to_of s; so_far = a }

  -- the cost up to the section's end, where it is a up to its start
  abbrev pub cost_along : L → ℕ → L
  cost_along a k = (computed c.ops).plus a (worth_in c.ops c.worth (slice_get net.sections k))

  -- the sections one after the other, each with the cost up to its end
  abbrev pub steps_along : L → List ℕ → List (Step L)
  steps_along a [] = []
  steps_along a (k ∷ ks) = step_at k (cost_along a k) ∷ steps_along (cost_along a k) ks

-- the last cost so far; a where there is no step
abbrev pub last_cost : {L : Type 0} → L → List (Step L) → L
last_cost a [] = a
last_cost a (s ∷ ss) = last_cost s.so_far ss

-- Route ------------------------------------------------------------------------------------------

-- the two halves, where either list has so many places; or why there is nothing to list
abbrev pub with_room : ℕ → ℕ → Option Line → Result Line Fault
with_room rows room None = Err (filing_fault (ForeignSheet rows))
with_room rows room (Some l) = cond (nat_lt room (length (through l))) (Err (filing_fault (ListTooShort room))) (Ok l)

abbrev pub lined : {C L S : Type 0} → Net S → ℕ → List (Row C L S) → ℕ → Result Line Fault
lined net meeting sheet room =
    cond (nat_lt (length sheet) net.stations) (Err (filing_fault (ForeignSheet (length sheet))))
    (with_room (length sheet) room (line net (take net.stations sheet) meeting))

-- what Route answers, and what the list of the route and the turning list then hold
pub record Routed (L : Type 0) : Type 0 where
  pub answer : Result ℕ Fault
  pub steps : List (Step L)
  pub turning : List (Step L)

module _ {C L S : Type 0} (c : cost.Ghosts C L S) (net : Net S) (steps turning : List (Step L)) where
  -- the first places of the one hold the route, those of the other its steps behind the meeting station, turned
  abbrev pub listed : Line → Routed L
  listed l =
      let route = steps_along c net c.ops.zero (through l) in
      let behind = length l.behind in
      record {
        answer = Ok (length route);
        steps = route ++ drop (length route) steps;
        turning = reverse (take behind route) ++ drop behind turning;
      }

  abbrev pub routed_by : Result Line Fault → Routed L
  routed_by (Err f) = record { answer = Err f; steps = steps; turning = turning }
  routed_by (Ok l) = listed l

  abbrev pub route_of : ℕ → List (Row C L S) → Routed L
  route_of meeting sheet = routed_by (lined net meeting sheet (min (length steps) (length turning)))
