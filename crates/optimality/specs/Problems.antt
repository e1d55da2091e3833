-- A problem: a network and estimates in a kind of cost.
use Rattle.std.specs.Prelude.{◌≡◌, ℕ, ◌^◌, ◌<◌, ◌≤◌, false, List, Some, None, Option}
use Rattle.std.specs.List.{slice_get}
use Rattle.amounts.specs.Amount.{Laws, Le, SectionFit}
use Rattle.amounts.specs.declared.cost.Cost as cost
use Rattle.faults.specs.declared.Side.{Side}
use Rattle.faults.specs.declared.Side.TheVariants.{Forward, Backward}
use Rattle.networks.specs.declared.section.Section.{Section}
use Rattle.networks.specs.declared.estimates.Pair.{Pair}
use Rattle.networks.specs.Nets.{Net, tail, head}
use Rattle.networks.specs.Routes.{cost_of}

-- a kind of cost, what a network means, and what a source of estimates means
pub record Problem (C L S : Type 0) : Type 1 where
  pub kind : cost.Ghosts C L S
  pub net : Net S
  pub estimates : List (Pair L)

-- where a side starts
abbrev pub start : {S : Type 0} → Net S → Side → ℕ
start net Forward = net.launcher
start net Backward = net.trap

abbrev pub of_pair : {L : Type 0} → Side → Pair L → L
of_pair Forward e = e.forward
of_pair Backward e = e.backward

module _ {C L S : Type 0} (c : cost.Ghosts C L S) (estimates : List (Pair L)) where
  abbrev estimate_in : Side → Option (Pair L) → L
  estimate_in side None = c.ops.zero
  estimate_in side (Some e) = of_pair side e

  -- a side's estimate at a station; zero beyond the last one
  abbrev pub estimate : Side → ℕ → L
  estimate side u = estimate_in side (slice_get estimates u)

module _ {C L S : Type 0} (p : Problem C L S) where
  -- a route's cost
  abbrev pub route_cost : List ℕ → L
  route_cost ks = cost_of p.kind.ops p.kind.worth p.net ks

  -- what a side's estimate is at a station
  abbrev pub guess : Side → ℕ → L
  guess side u = estimate p.kind p.estimates side u

  -- section k is there, and open
  abbrev pub Arc : ℕ → Section S → Type 0
  Arc k s = (slice_get p.net.sections k ≡ Some s) × (s.shut ≡ false)

  -- along each open section an estimate falls by at most its amount, the forward ones as it goes, the backward ones
  -- against it
  abbrev pub Consistent : Type 0
  Consistent = (side : Side) (k : ℕ) (s : Section S) → Arc k s → Le p.kind.ops (p.kind.ops.minus (guess side (tail side s)) (guess side (head side s))) (p.kind.worth s.amount)

  -- what a kind, a network and estimates promise
  pub record Fair : Type 0 where
    pub laws : Laws p.kind.ops
    pub starts : (side : Side) → start p.net side < p.net.stations
    pub ends : (k : ℕ) (s : Section S) (side : Side) → slice_get p.net.sections k ≡ Some s → tail side s < p.net.stations
    pub fit : (k : ℕ) (s : Section S) → slice_get p.net.sections k ≡ Some s → SectionFit p.kind.ops (p.kind.worth s.amount)
    pub few : p.net.stations ≤ 4096
    pub small : (side : Side) (u : ℕ) → p.kind.ops.size (guess side u) < 2 ^ 44
