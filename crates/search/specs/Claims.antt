-- What is claimed of every search that has its sheet to itself, whatever the network, the estimates and the kind of cost.
--
-- Open accepted the sheet, and then came any list of calls of Forward, Backward, Bounds and Finish, in any order, some of
-- them turned down, each with the sheet as the last one left it. At the start and after each call:
-- * Bounds is answered; twice the cost of every route is at least its floor, and some route costs its ceiling;
-- * over whatever calls come later the floor never falls, and the ceiling never rises;
-- * a Finish that is accepted answers that there is no route exactly if there is none; else its cost is that of a route,
--   and every route costs at least as much. What it tells is the search's: the taken count, and as the cost the ceiling.
--   All else that stood before it stands after it;
-- * no station is taken twice, both ends together; the taken count is that of the accepted steps, and below the number of
--   stations; and only an ended search turns a step down.
use Rattle.std.specs.Prelude.{◌≡◌, ℕ, ◌+◌, ◌<◌, true, List, [], ◌∷◌, ◌++◌, length, is_some, Some, None, Option, Ok, Err, Result, ◌⊎◌, ◌↔◌}
use Rattle.std.specs.List.{slice_get}
use Rattle.amounts.specs.Amount.{Le}
use Rattle.amounts.specs.declared.cost.Cost as cost
use Rattle.networks.specs.declared.network.Network as network
use Rattle.networks.specs.declared.estimates.Estimates as estimates
use Rattle.faults.specs.declared.Side.{Side}
use Rattle.faults.specs.declared.Fault.{Fault}
use Rattle.faults.specs.declared.Refusal.TheVariants.{Ended, Inconsistent}
use Rattle.networks.specs.Routes.{Route}
use Rattle.optimality.specs.declared.sheet.Row.{Row}
use Rattle.optimality.specs.declared.sheet.Ceiling.TheVariants.{Absent, Met}
use Rattle.optimality.specs.Sheets.{is_closed, State}
use Rattle.optimality.specs.Problems.{Problem, Consistent, route_cost}
use Rattle.optimality.specs.Keys.{within}
use Rattle.optimality.specs.Search.{mark_in}
use Rattle.optimality.specs.Published.{amount_of}
use Rattle.search.specs.declared.running.Bounds.{Bounds}
use Rattle.search.specs.declared.running.Running.{Running}
use Rattle.search.specs.declared.running.Unopened.{Unopened}
use Rattle.search.specs.declared.running.Found.{Found}
use Rattle.search.specs.declared.running.NoRoute.{NoRoute as NoneFound}
use Rattle.search.specs.declared.running.Finished.{Finished}
use Rattle.search.specs.declared.running.Finished.TheVariants as finished
use Rattle.search.specs.declared.running.Unfinished.{Unfinished}
use Rattle.search.specs.Rules.{FirstBreak, FoundKeeps, NoneKeeps}
use Rattle.search.specs.Calls.{posed, problem, standing, begun, unfit, step, bounds, unfinished, turned_down, search_fault}

-- Lists of calls ---------------------------------------------------------------------------------

-- Forward or Backward, Bounds, or Finish
pub data Call : Type 0 where
  step_by_side : Side → Call
  ask_bounds : Call
  try_finish : Call

-- one for a step that was accepted
abbrev pub one_if : Result (Unit {0}) Fault → ℕ
one_if (Ok _) = 1
one_if (Err _) = 0

module _ {C L S : Type 0} (p : Problem C L S) where
  -- what a call leaves; Bounds writes nothing, nor does a Finish that is turned down
  abbrev pub left : State C L S → Call → State C L S
  left st (step_by_side side) = (step p st side).state
  left st ask_bounds = st
  left st try_finish = st

  -- a Finish that is accepted ends the list of calls
  abbrev pub GoesOn : State C L S → Call → Type 0
  GoesOn st (step_by_side side) = Unit {0}
  GoesOn st ask_bounds = Unit {0}
  GoesOn st try_finish = is_some (unfinished p st) ≡ true

  -- the calls, one after the other, lead to the last state
  abbrev pub Leads : State C L S → List Call → State C L S → Type 0
  Leads st [] last = st ≡ last
  Leads st (c ∷ cs) last = GoesOn st c × Leads (left st c) cs last

  -- how many of the calls are steps that were accepted
  abbrev pub accepted_by : State C L S → Call → ℕ
  accepted_by st (step_by_side side) = one_if ((step p st side).answer)
  accepted_by st ask_bounds = 0
  accepted_by st try_finish = 0

  abbrev pub accepted : State C L S → List Call → ℕ
  accepted st [] = 0
  accepted st (c ∷ cs) = accepted_by st c + accepted (left st c) cs

  -- A search has its sheet to itself: Open accepted the sheet, and the calls led from what it left to this.
  pub record Own (calls : List Call) (st : State C L S) : Type 0 where
    pub sheet : List (Row C L S)
    pub accepts : unfit p (length sheet) ≡ None
    pub led : Leads (begun p sheet) calls st

-- Taken stations ---------------------------------------------------------------------------------

-- a side has closed the station
abbrev pub Closed : {C L S : Type 0} → State C L S → Side → ℕ → Type 0
Closed st side u = is_closed (mark_in side (slice_get st.rows u)) ≡ true

module _ {C L S : Type 0} (p : Problem C L S) where
  -- the call takes the station for the side: it closes it
  pub record Takes (st : State C L S) (c : Call) (side : Side) (u : ℕ) : Type 0 where
    pub before : Closed st side u → ⊥
    pub after : Closed (left p st c) side u

  -- one of the calls takes the station for the side
  abbrev pub TakenBy : State C L S → List Call → Side → ℕ → Type 0
  TakenBy st [] side u = ⊥
  TakenBy st (c ∷ cs) side u = Takes st c side u ⊎ TakenBy (left p st c) cs side u

  -- what one call takes, no later one takes, for either side
  abbrev pub NoneTwice : State C L S → List Call → Type 0
  NoneTwice st [] = Unit {0}
  NoneTwice st (c ∷ cs) = ((a b : Side) (u : ℕ) → Takes st c a u → TakenBy (left p st c) cs b u → ⊥) × NoneTwice (left p st c) cs

  -- Routes ---------------------------------------------------------------------------------------

  abbrev pub NoRoute : Type 0
  NoRoute = (ks : List ℕ) → Route p.net ks → ⊥

  -- some route costs as much
  abbrev pub Reachable : L → Type 0
  Reachable a = (ks : List ℕ) × Route p.net ks × (route_cost p ks ≡ a)

  -- every route costs at least as much
  abbrev pub Least : L → Type 0
  Least a = (ks : List ℕ) → Route p.net ks → Le p.kind.ops a (route_cost p ks)

  -- a bound is at most another; what is absent counts as above every amount
  abbrev pub AtMost : Option L → Option L → Type 0
  AtMost x y = within p.kind x y ≡ true

  -- twice every route's cost is at least this; where it is absent, there is no route
  abbrev pub Floor : Option L → Type 0
  Floor x = (ks : List ℕ) → Route p.net ks → AtMost x (Some (p.kind.ops.plus (route_cost p ks) (route_cost p ks)))

  -- What is claimed --------------------------------------------------------------------------------

  -- the step is accepted, and takes one station, which neither side had closed
  pub record StepAccepted (st : State C L S) (side : Side) : Type 0 where
    pub answer : (step p st side).answer ≡ Ok tt
    pub station : ℕ
    pub within : station < p.net.stations
    pub open_still : (s : Side) → Closed st s station → ⊥
    pub takes : Takes st (step_by_side side) side station
    pub nothing_else : (s : Side) (u : ℕ) → Takes st (step_by_side side) s u → (s ≡ side) × (u ≡ station)

  -- the search is ended, and turns the step down
  pub record StepRefused (st : State C L S) (side : Side) : Type 0 where
    pub ended : unfinished p st ≡ None
    pub answer : step p st side ≡ turned_down p st (search_fault (Ended st.taken))

  pub record Sound (calls : List Call) (st : State C L S) (own : Own p calls st) : Type 0 where
    -- Bounds is answered: twice every route's cost is at least the floor, and some route costs the ceiling
    pub answered : (b : Bounds L) × (bounds p st ≡ Ok b)
    pub floor : (b : Bounds L) → bounds p st ≡ Ok b → Floor b.floor
    pub ceiling : (b : Bounds L) (a : L) (m : ℕ) → bounds p st ≡ Ok b → b.ceiling ≡ Met a m → Reachable a
    -- whatever calls come later, the floor does not fall, and the ceiling does not rise
    pub rising :
        (more : List Call) (last : State C L S) (b d : Bounds L)
        → Leads p st more last → bounds p st ≡ Ok b → bounds p last ≡ Ok d
        → AtMost b.floor d.floor × AtMost (amount_of d.ceiling) (amount_of b.ceiling)
    -- where Finish would be accepted: no ceiling just if no route; and no route costs less than the ceiling
    pub none : unfinished p st ≡ None → (st.ceiling ≡ Absent) ↔ NoRoute
    pub least : (a : L) (m : ℕ) → unfinished p st ≡ None → st.ceiling ≡ Met a m → Reachable a × Least a
    -- no station is taken twice, both ends together
    pub none_twice : NoneTwice (begun p own.sheet) calls
    -- the taken count is that of the accepted steps, and stays below the number of stations
    pub counted : st.taken ≡ accepted p (begun p own.sheet) calls
    pub few : st.taken < p.net.stations
    -- only an ended search turns a step down
    pub steps : (side : Side) → StepAccepted st side ⊎ StepRefused st side

-- What the contract of each call says of it ------------------------------------------------------

module _ {C N E L S : Type 0} (c : cost.Ghosts C L S) (n : network.Ghosts N C L S) (e : estimates.Ghosts E C L S) where
  -- the search has its sheet to itself, by these calls
  abbrev pub HasItsSheet : List Call → Running C N E L S → List (Row C L S) → Type 0
  HasItsSheet calls s sheet = Own (problem c n e s) calls (standing s sheet)

  -- and all stands that is claimed
  pub record AllStands (calls : List Call) (s : Running C N E L S) (sheet : List (Row C L S)) : Type 0 where
    pub own : HasItsSheet calls s sheet
    pub sound : Sound (problem c n e s) calls (standing s sheet) own

  -- Accepted, the estimates are consistent, and the search has its sheet to itself. Turned down for the estimates, they
  -- break first where the fault says.
  abbrev pub OpenStands : N → E → Result (Running C N E L S) (Unopened N E) → List (Row C L S) → Type 0
  OpenStands net given (Ok s) sheet = Consistent (posed c n e net given) × AllStands [] s sheet
  OpenStands net given (Err back) sheet = (k : ℕ) (side : Side) → back.fault ≡ search_fault (Inconsistent k side) → FirstBreak (posed c n e net given) k side

  -- All stands after the step too; and only an ended search turns it down.
  pub record StepStands (calls : List Call) (side : Side) (s : Running C N E L S) (sheet : List (Row C L S)) (answer : Result (Unit {0}) Fault) (t : Running C N E L S) (after : List (Row C L S)) : Type 0 where
    pub before : AllStands calls s sheet
    pub after_it : AllStands (calls ++ (step_by_side side ∷ [])) t after
    pub only_ended : (f : Fault) → answer ≡ Err f → unfinished (problem c n e s) (standing s sheet) ≡ None

  -- Bounds is answered, and all stands still: twice every route's cost is at least the floor, and some route costs the
  -- ceiling.
  abbrev pub BoundsStand : List Call → Running C N E L S → List (Row C L S) → Result (Bounds L) Fault → Type 0
  BoundsStand calls s sheet (Ok b) = Floor (problem c n e s) b.floor × ((a : L) (m : ℕ) → b.ceiling ≡ Met a m → Reachable (problem c n e s) a) × AllStands (calls ++ (ask_bounds ∷ [])) s sheet
  BoundsStand calls s sheet (Err f) = ⊥

  -- A route was found, and what stood before stands: some route costs what is told, and every route at least as much.
  pub record FoundStands (calls : List Call) (s : Running C N E L S) (sheet : List (Row C L S)) (r : Found C N E L S) : Type 0 where
    pub before : AllStands calls s sheet
    pub told : FoundKeeps s r
    pub reachable : Reachable (problem c n e s) r.cost
    pub least : Least (problem c n e s) r.cost

  -- No route was found, and what stood before stands: there is none.
  pub record NoneStands (calls : List Call) (s : Running C N E L S) (sheet : List (Row C L S)) (r : NoneFound C N E L S) : Type 0 where
    pub before : AllStands calls s sheet
    pub told : NoneKeeps s r
    pub no_route : NoRoute (problem c n e s)

  -- Accepted, all stands still, and the answer is right. Turned down, the search goes on.
  abbrev pub FinishStands : List Call → Running C N E L S → List (Row C L S) → Result (Finished C N E L S) (Unfinished C N E L S) → Type 0
  FinishStands calls s sheet (Ok (finished.Found r)) = FoundStands calls s sheet r
  FinishStands calls s sheet (Ok (finished.NoRoute r)) = NoneStands calls s sheet r
  FinishStands calls s sheet (Err back) = AllStands (calls ++ (try_finish ∷ [])) back.search sheet
