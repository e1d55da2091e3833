-- What is claimed of a search in turn, and of what is printed and filed of it, whatever the network, the estimates and the
-- kind of cost.
--
-- Where the sheet has a row for each station and the estimates count the stations and are consistent, it is turned down
-- neither by a step nor by Finish: it answers the cost of a route that no route undercuts, or none where there is none,
-- and how many of its steps were accepted. What is printed then is such a route with every cost so far, or that there is
-- none, with this count, and no refusal. What is filed is a page that Read accepts, that means network, estimates and
-- this answer, and that Retrace confirms where it has a route.
use Rattle.std.specs.Prelude.{◌≡◌, ℕ, ◌≤◌, List, length, is_ok, IsOkAnd, true, Ok, Err, Result, ◌⊎◌}
use Rattle.amounts.specs.declared.cost.Cost as cost
use Rattle.amounts.specs.Forms.{Forms}
use Rattle.networks.specs.declared.network.Network as network
use Rattle.networks.specs.declared.estimates.Estimates as estimates
use Rattle.faults.specs.declared.Fault.{Fault}
use Rattle.optimality.specs.declared.sheet.Row.{Row}
use Rattle.optimality.specs.Problems.{Problem, Consistent}
use Rattle.search.specs.declared.running.Found.{Found}
use Rattle.search.specs.declared.running.NoRoute.{NoRoute}
use Rattle.search.specs.declared.running.Finished.{Finished}
use Rattle.search.specs.declared.running.Finished.TheVariants as finished
use Rattle.search.specs.Calls.{posed}
use Rattle.search.specs.Claims.{Reachable, Least, NoRoute as No}
use Rattle.filing.specs.Listing.{last_cost}
use Rattle.filing.specs.Claims.{Shows, SaysRoute, SaysNone, Listed, FoundBy, NoneBy}
use Rattle.contents.specs.declared.answer.Step.{Step}
use Rattle.contents.specs.Again.{Back}
use Rattle.contents.specs.Checks.{check_page}
use Rattle.contents.specs.Content.{net_of, answer_of}
use Rattle.contents.specs.Retracing.{RetracedIn}
use Rattle.filing.specs.Filing.{route_filed, none_filed}
use Rattle.planning.specs.Turns.{calls_in_turn, taken_on, taken_in_turn}
use Rattle.planning.specs.Texts.{route_text, none_text}
use Rattle.planning.specs.Planned.{problem_on}
use Rattle.planning.specs.Filed.{content_with}

-- a sheet of so many rows, and the estimates, suit the network
pub record Suits {C L S : Type 0} (p : Problem C L S) (rows : ℕ) : Type 0 where
  pub room : p.net.stations ≤ rows
  pub counts : length p.estimates ≡ p.net.stations
  pub consistent : Consistent p

module _ {C N E L S : Type 0} (c : cost.Ghosts C L S) (n : network.Ghosts N C L S) (e : estimates.Ghosts E C L S) where
  module _ (net : N) (given : E) (before : List (Row C L S)) where
    abbrev pub searched : Problem C L S
    searched = posed c n e net given

    -- The search had its sheet to itself, by steps in turn, and Finish found a route of least cost. The taken count is
    -- that of the accepted steps.
    pub record RouteFound (found : Found C N E L S) (after : List (Row C L S)) : Type 0 where
      pub by_turns : FoundBy c n e (calls_in_turn searched) found after
      pub taken : found.taken ≡ taken_on searched before
      pub reachable : Reachable searched found.cost
      pub least : Least searched found.cost

    -- the same where there is no route
    pub record NoneFound (none : NoRoute C N E L S) : Type 0 where
      pub by_turns : NoneBy c n e (calls_in_turn searched) none
      pub taken : none.taken ≡ taken_on searched before
      pub no_route : No searched

    -- Either; turned down, sheet or estimates do not suit the network.
    abbrev pub SearchStands : Result (Finished C N E L S) Fault → List (Row C L S) → Type 0
    SearchStands (Ok (finished.Found r)) after = RouteFound r after
    SearchStands (Ok (finished.NoRoute r)) after = NoneFound r
    SearchStands (Err f) after = Suits searched (length before) → ⊥

-- What is printed ---------------------------------------------------------------------------------

module _ {C L S : Type 0} (p : Problem C L S) (forms : Forms L S) (text : List ℕ) where
  -- A route, with every cost so far, and every route costs at least as much. The count is that of the accepted steps.
  pub record RouteTold : Type 0 where
    pub steps : List (Step L)
    pub listed : Listed p.kind forms p.net steps
    pub least : Least p (last_cost p.kind.ops.zero steps)
    pub told : text ≡ route_text p.kind forms (last_cost p.kind.ops.zero steps) (taken_in_turn p) steps

  pub record NoneTold : Type 0 where
    pub none : No p
    pub told : text ≡ none_text (taken_in_turn p)

  -- where the estimates suit the network, either is told
  abbrev pub Told : Type 0
  Told = Suits p p.net.stations → RouteTold ⊎ NoneTold

-- of a page that is accepted, and whose estimates are consistent
abbrev pub PlanStands : {C L S : Type 0} → cost.Ghosts C L S → Forms L S → List ℕ → List ℕ → Type 0
PlanStands c forms page text = let p = problem_on c forms page in is_ok (check_page c.KIND page) ≡ true → Consistent p → RouteTold p forms text ⊎ NoneTold p forms text

-- What is filed -----------------------------------------------------------------------------------

module _ {C L S : Type 0} (p : Problem C L S) (forms : Forms L S) (run : ℕ) where
  -- a page with such a route, which Read accepts, and Retrace confirms
  pub record RouteFiled (bytes : List ℕ) : Type 0 where
    pub steps : List (Step L)
    pub listed : Listed p.kind forms p.net steps
    pub least : Least p (last_cost p.kind.ops.zero steps)
    pub back : Back p.kind forms (content_with p (route_filed p.kind run (taken_in_turn p) steps)) bytes
    pub retraces : RetracedIn p.kind (net_of p.kind forms bytes) (answer_of p.kind forms bytes)
    pub says : Shows p.kind forms bytes (SaysRoute run (taken_in_turn p) (last_cost p.kind.ops.zero steps))

  pub record NoneFiled (bytes : List ℕ) : Type 0 where
    pub none : No p
    pub back : Back p.kind forms (content_with p (none_filed p.kind run (taken_in_turn p))) bytes
    pub says : Shows p.kind forms bytes (SaysNone run (taken_in_turn p))

  -- where the estimates suit the network, either is filed
  abbrev pub Filed : Result (List ℕ) Fault → Type 0
  Filed r = Suits p p.net.stations → IsOkAnd r (λ bytes. RouteFiled bytes ⊎ NoneFiled bytes)

-- of a page that is accepted, and whose estimates are consistent
abbrev pub FiledStands : {C L S : Type 0} → cost.Ghosts C L S → Forms L S → ℕ → List ℕ → Result (List ℕ) Fault → Type 0
FiledStands c forms run page r = let p = problem_on c forms page in is_ok (check_page c.KIND page) ≡ true → Consistent p → IsOkAnd r (λ bytes. RouteFiled p forms run bytes ⊎ NoneFiled p forms run bytes)
