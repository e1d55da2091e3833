-- The calls on every sheet, as relations: why one is turned down, what an accepted one answers, and what it changes.
use Rattle.std.specs.Prelude.{◌≡◌, ℕ, ◌+◌, ◌<◌, ◌≤◌, List, length, drop, Some, None, Option, Ok, Err, Result, ◌⊎◌}
use Rattle.amounts.specs.Amount.{Le}
use Rattle.faults.specs.declared.Side.{Side}
use Rattle.faults.specs.declared.Side.TheVariants.{Forward, Backward}
use Rattle.faults.specs.declared.Fault.{Fault}
use Rattle.faults.specs.declared.Layer.TheVariants as layer
use Rattle.faults.specs.declared.Refusal.TheVariants.{TooFewRows, EstimateCount, Inconsistent, Ended, NotEnded, ForeignSheet}
use Rattle.faults.specs.Reasons.{Reasons, refused_if, else_accepted, FirstReason}
use Rattle.networks.specs.declared.section.Section.{Section}
use Rattle.networks.specs.Nets.{tail, head}
use Rattle.optimality.specs.declared.sheet.Row.{Row}
use Rattle.optimality.specs.declared.sheet.Front.{Front}
use Rattle.optimality.specs.declared.sheet.Ceiling.TheVariants.{Absent, Met}
use Rattle.optimality.specs.Sheets.{State}
use Rattle.optimality.specs.Problems.{Problem, Arc, guess}
use Rattle.optimality.specs.Published.{IsNext, TooLarge, TakenByRule}
use Rattle.optimality.specs.Bounded.{IsFloor, IsEnded, IsGoingOn}
use Rattle.search.specs.declared.running.Bounds.{Bounds}
use Rattle.search.specs.declared.running.Running.{Running}
use Rattle.search.specs.declared.running.Unopened.{Unopened}
use Rattle.search.specs.declared.running.Found.{Found}
use Rattle.search.specs.declared.running.NoRoute.{NoRoute as NoneFound}
use Rattle.search.specs.declared.running.Finished.{Finished}
use Rattle.search.specs.declared.running.Finished.TheVariants as finished
use Rattle.search.specs.declared.running.Unfinished.{Unfinished}
use Rattle.search.specs.Calls.{standing, own}

-- Faults and answers -----------------------------------------------------------------------------

module _ {C N E L S : Type 0} where
  -- the fault of an Open that is turned down
  abbrev pub open_fault : Result (Running C N E L S) (Unopened N E) → Option Fault
  open_fault (Ok s) = None
  open_fault (Err back) = Some back.fault

  -- the fault of a Finish that is turned down
  abbrev pub finish_fault : Result (Finished C N E L S) (Unfinished C N E L S) → Option Fault
  finish_fault (Ok done) = None
  finish_fault (Err back) = Some back.fault

module _ {C N E L S : Type 0} (s : Running C N E L S) where
  -- What is told of a route is the search's: the taken count, and as the cost the ceiling, with its station.
  pub record FoundKeeps (r : Found C N E L S) : Type 0 where
    pub network : r.net ≡ s.net
    pub estimates : r.estimates ≡ s.estimates
    pub taken : r.taken ≡ s.taken
    pub ceiling : s.ceiling ≡ Met r.cost r.meeting

  -- What is told where there is no route is the search's too, and the search has no ceiling.
  pub record NoneKeeps (r : NoneFound C N E L S) : Type 0 where
    pub network : r.net ≡ s.net
    pub estimates : r.estimates ≡ s.estimates
    pub taken : r.taken ≡ s.taken
    pub ceiling : s.ceiling ≡ Absent

  -- what an accepted Finish tells is the search's
  abbrev pub Keeps : Finished C N E L S → Type 0
  Keeps (finished.Found r) = FoundKeeps r
  Keeps (finished.NoRoute r) = NoneKeeps r

module _ {C L S : Type 0} (p : Problem C L S) where
  -- Open -----------------------------------------------------------------------------------------

  -- the side's estimate falls by more than its amount along section k, which is open
  abbrev pub Breaks : ℕ → Side → Type 0
  Breaks k side = (s : Section S) × Arc p k s × (Le p.kind.ops (p.kind.ops.minus (guess p side (tail side s)) (guess p side (head side s))) (p.kind.worth s.amount) → ⊥)

  -- the first section along which one does, and the first side, forward before backward
  pub record FirstBreak (k : ℕ) (side : Side) : Type 0 where
    pub breaks : Breaks k side
    pub earlier : (j : ℕ) (s : Side) → j < k → Breaks j s → ⊥
    pub forward_first : side ≡ Backward → Breaks k Forward → ⊥

  -- why no search is opened over so many rows; the last reason is about one section and one side
  abbrev pub open_reasons : ℕ → ℕ → Side → Reasons
  open_reasons rows k side =
      refused_if (rows < p.net.stations) (TooFewRows rows)
      (refused_if (length p.estimates ≡ p.net.stations → ⊥) (EstimateCount (length p.estimates))
      (refused_if (FirstBreak k side) (Inconsistent k side) else_accepted))

  -- Accepted, none of them is so, of any section and any side. Turned down, the fault names the first that is so, of one
  -- section and one side.
  abbrev pub OpenReason : ℕ → Option Fault → Type 0
  OpenReason rows None = (k : ℕ) (side : Side) → FirstReason layer.Search (open_reasons rows k side) None
  OpenReason rows (Some f) = (k : ℕ) × (side : Side) × FirstReason layer.Search (open_reasons rows k side) (Some f)

  -- The other calls ------------------------------------------------------------------------------

  -- An accepted step takes the side's front by the rule, on the rows of the stations; those past them stay.
  pub record StepRule (side : Side) (before after : State C L S) : Type 0 where
    pub taken_front : Front L
    pub rule : TakenByRule p side taken_front (own p before) (own p after)
    pub past : drop p.net.stations after.rows ≡ drop p.net.stations before.rows

  -- Bounds answers the floor, and the ceiling of the search.
  pub record BoundsRule (st : State C L S) (b : Bounds L) : Type 0 where
    pub floor : IsFloor p (own p st) b.floor
    pub ceiling : b.ceiling ≡ st.ceiling

  -- An accepted Finish is that of an ended search, and what it tells is the search's.
  pub record FinishRule {N E : Type 0} (s : Running C N E L S) (sheet : List (Row C L S)) (done : Finished C N E L S) : Type 0 where
    pub ended : IsEnded p (own p (standing s sheet))
    pub told : Keeps s done

  module _ (st : State C L S) where
    -- fewer rows than stations are turned down, whatever else is so
    abbrev pub with_rows : Reasons → Reasons
    with_rows rest = refused_if (length st.rows < p.net.stations) (ForeignSheet (length st.rows)) rest

    -- the station that comes next leads to a label that would be written, and that no row holds
    abbrev pub WritesTooLarge : Side → Type 0
    WritesTooLarge side = (f : Front L) × (v : ℕ) × (k : ℕ) × (a : L) × IsNext p ((own p st).rows) side f × TooLarge p side f (own p st) v k a

    -- why a step is turned down
    abbrev pub step_reasons : Side → Reasons
    step_reasons side =
        with_rows
        (refused_if (IsEnded p (own p st)) (Ended st.taken)
        (refused_if ((p.net.stations ≤ st.taken + 1) ⊎ WritesTooLarge side) (ForeignSheet (length st.rows)) else_accepted))

    -- why Bounds is not answered
    abbrev pub bounds_reasons : Reasons
    bounds_reasons = with_rows else_accepted

    -- why a search is not finished
    abbrev pub finish_reasons : Reasons
    finish_reasons = with_rows (refused_if (IsGoingOn p (own p st)) (NotEnded st.taken) else_accepted)
