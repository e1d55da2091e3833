-- What is claimed of what Route lists and File files, whatever the network, the estimates and the kind of cost.
--
-- On every sheet, also one that another hand has written: what is listed is a route from launcher to trap through open
-- sections, in fewer steps than stations, and every cost so far is right; what was filed, Read accepts, it means what was
-- put in, and Retrace confirms it.
--
-- And where the search has its sheet to itself, after any list of calls, the arrivals on it lead along a route of the cost
-- that Finish told. Route is turned down only where the shorter list has fewer places than this route has steps, and names
-- these places; File only for that, or where the page has fewer bytes than the page with this route, and names those that
-- are needed. Else this route is listed and filed, with what Finish told, and every route costs at least as much.
use Rattle.std.specs.Prelude.{◌≡◌, ℕ, suc, ◌<◌, ◌≤◌, true, List, length, take, reverse, Some, Ok, Err, Result, ◌⊎◌}
use Rattle.std.specs.List.{slice_get, AllByRecursion}
use Rattle.amounts.specs.declared.cost.Cost as cost
use Rattle.amounts.specs.Forms.{Forms}
use Rattle.networks.specs.declared.network.Network as network
use Rattle.networks.specs.declared.estimates.Estimates as estimates
use Rattle.networks.specs.Nets.{Net}
use Rattle.networks.specs.Routes.{Joins, Route, cost_of}
use Rattle.faults.specs.declared.Fault.{Fault}
use Rattle.faults.specs.declared.Refusal.TheVariants.{ListTooShort, PageTooShort}
use Rattle.records.specs.Due.{page_fault}
use Rattle.contents.specs.declared.answer.Outcome.TheVariants as outcome
use Rattle.contents.specs.declared.answer.Step.{Step}
use Rattle.contents.specs.Again.{Back}
use Rattle.contents.specs.Content.{Meant, Content, net_of, answer_of}
use Rattle.contents.specs.Encoding.{StepValid, encode}
use Rattle.contents.specs.Retracing.{sections_of, retraced, RetracedIn}
use Rattle.optimality.specs.declared.sheet.Row.{Row}
use Rattle.search.specs.declared.running.Running.{Running}
use Rattle.search.specs.declared.running.Found.{Found}
use Rattle.search.specs.declared.running.NoRoute.{NoRoute}
use Rattle.search.specs.declared.running.Finished.TheVariants as finished
use Rattle.search.specs.Calls.{posed, finish_of}
use Rattle.search.specs.Claims.{Call, HasItsSheet, Least, NoRoute as No}
use Rattle.filing.specs.Arrivals.{Line, through, line}
use Rattle.filing.specs.Listing.{filing_fault, last_cost, steps_along}
use Rattle.filing.specs.Filing.{filed_with, route_filed, none_filed}

-- On every sheet ---------------------------------------------------------------------------------

module _ {C L S : Type 0} (c : cost.Ghosts C L S) (forms : Forms L S) (net : Net S) where
  -- The steps are a route whose every cost so far is right.
  pub record Listed (steps : List (Step L)) : Type 0 where
    -- open sections, joined from launcher to trap
    pub route : Route net (sections_of steps)
    pub few : length steps < net.stations
    -- each step has the ends of its section, and its cost so far stands on a page
    pub each : AllByRecursion (StepValid c forms net.sections) steps
    -- which is the sum up to the step's end
    pub so_far : (k : ℕ) (s : Step L) → slice_get steps k ≡ Some s → s.so_far ≡ cost_of c.ops c.worth net (take (suc k) (sections_of steps))
    pub total : last_cost c.ops.zero steps ≡ cost_of c.ops c.worth net (sections_of steps)

  -- The first so many of them lead to the meeting station, and the turning list starts with these, the last one first.
  pub record Turned (meeting : ℕ) (steps turning : List (Step L)) : Type 0 where
    pub behind : ℕ
    pub to_meeting : Joins net net.launcher (sections_of (take behind steps)) meeting
    pub turned : take behind turning ≡ reverse (take behind steps)

  -- accepted, the first places hold such steps, and the turning list starts with those behind the meeting station
  abbrev pub ListedBy : ℕ → Result ℕ Fault → List (Step L) → List (Step L) → Type 0
  ListedBy meeting (Err f) steps turning = Unit {0}
  ListedBy meeting (Ok count) steps turning = Listed (take count steps) × Turned meeting (take count steps) turning

-- Where the search has its sheet to itself ---------------------------------------------------------

module _ {C N E L S : Type 0} (c : cost.Ghosts C L S) (n : network.Ghosts N C L S) (e : estimates.Ghosts E C L S) where
  -- Finish found it on this sheet, which the search had to itself, by these calls
  pub record FoundBy (calls : List Call) (found : Found C N E L S) (sheet : List (Row C L S)) : Type 0 where
    pub search : Running C N E L S
    pub own : HasItsSheet c n e calls search sheet
    pub finished : finish_of c n e search sheet ≡ Ok (finished.Found found)

  -- the same where there is no route, on some sheet
  pub record NoneBy (calls : List Call) (none : NoRoute C N E L S) : Type 0 where
    pub search : Running C N E L S
    pub sheet : List (Row C L S)
    pub own : HasItsSheet c n e calls search sheet
    pub finished : finish_of c n e search sheet ≡ Ok (finished.NoRoute none)

  -- From the meeting station the arrivals on the sheet are followed back to the launcher and on to the trap: a route, in
  -- fewer steps than stations, which costs what Finish told.
  pub record RouteFollowed (found : Found C N E L S) (sheet : List (Row C L S)) : Type 0 where
    pub halves : Line
    pub followed : line (n.meaning found.net) (take (n.meaning found.net).stations sheet) found.meeting ≡ Some halves
    pub route : Route (n.meaning found.net) (through halves)
    pub few : length (through halves) < (n.meaning found.net).stations
    pub cost : cost_of c.ops c.worth (n.meaning found.net) (through halves) ≡ found.cost

  -- Both lists have so many places, and the route has no more steps.
  pub record RouteFits (found : Found C N E L S) (sheet : List (Row C L S)) (places : ℕ) : Type 0 where
    pub route : RouteFollowed found sheet
    pub fits : length (through route.halves) ≤ places

  -- The steps go along this route, and both lists have so many places.
  pub record ListFits (found : Found C N E L S) (sheet : List (Row C L S)) (places : ℕ) (steps : List (Step L)) : Type 0 where
    pub route : RouteFollowed found sheet
    pub along : sections_of steps ≡ through route.halves
    pub fits : length (through route.halves) ≤ places

  -- The shorter list has fewer places than the route has steps, and the fault names the places.
  pub record ListShort (found : Found C N E L S) (sheet : List (Row C L S)) (places : ℕ) (f : Fault) : Type 0 where
    pub route : RouteFollowed found sheet
    pub short : places < length (through route.halves)
    pub fault : f ≡ filing_fault (ListTooShort places)

  -- The steps cost what Finish told, every route costs at least as much, and they fit; else a list is too short.
  abbrev pub RouteStands : Found C N E L S → List (Row C L S) → ℕ → Result ℕ Fault → List (Step L) → Type 0
  RouteStands found sheet places (Ok count) steps = (last_cost c.ops.zero (take count steps) ≡ found.cost) × Least (posed c n e found.net found.estimates) found.cost × ListFits found sheet places (take count steps)
  RouteStands found sheet places (Err f) steps = ListShort found sheet places f

-- an answer with a route of this cost, under this run, with so many stations taken
pub record SaysRoute {L : Type 0} (run taken : ℕ) (cost : L) (m : Meant L) : Type 0 where
  pub found : m.outcome ≡ outcome.Found
  pub under : m.run ≡ run
  pub costs : m.cost ≡ cost
  pub took : m.taken ≡ taken

-- an answer that there is no route, under this run, with so many stations taken
pub record SaysNone {L : Type 0} (run taken : ℕ) (m : Meant L) : Type 0 where
  pub none : m.outcome ≡ outcome.NoRoute
  pub under : m.run ≡ run
  pub took : m.taken ≡ taken

module _ {C L S : Type 0} (c : cost.Ghosts C L S) (forms : Forms L S) where
  -- the answer that stands on the page is such an answer
  abbrev pub Shows : List ℕ → (Meant L → Type 0) → Type 0
  Shows page Such = (m : Meant L) → answer_of c forms page ≡ Some m → Such m

  -- The page has fewer bytes than the content takes, and the fault names those that are needed.
  pub record PageShort (x : Content L S) (bytes : ℕ) (f : Fault) : Type 0 where
    pub short : bytes < length (encode c forms x)
    pub fault : f ≡ page_fault (PageTooShort (length (encode c forms x)))

module _ {C N E L S : Type 0} (c : cost.Ghosts C L S) (forms : Forms L S) (n : network.Ghosts N C L S) (e : estimates.Ghosts E C L S) where
  -- What was filed --------------------------------------------------------------------------------

  -- Read accepts the bytes, they mean the network, the estimates and the answer, and Retrace says yes
  pub record Filed (net : N) (given : E) (m : Meant L) (bs : List ℕ) : Type 0 where
    pub back : Back c forms (filed_with c forms n e net given m) bs
    pub retraces : retraced c (net_of c forms bs) (answer_of c forms bs) ≡ true
    pub right : RetracedIn c (net_of c forms bs) (answer_of c forms bs)

  abbrev pub FiledBy : Found C N E L S → ℕ → Result ℕ Fault → List (Step L) → List ℕ → Type 0
  FiledBy found run (Err f) steps page = Unit {0}
  FiledBy found run (Ok len) steps page = (count : ℕ) × Listed c forms (n.meaning found.net) (take count steps) × Filed found.net found.estimates (route_filed c run found.taken (take count steps)) (take len page)

  -- what is put on the page with the steps along these sections
  abbrev pub filed_along : Found C N E L S → ℕ → List ℕ → Content L S
  filed_along found run ks = filed_with c forms n e found.net found.estimates (route_filed c run found.taken (steps_along c (n.meaning found.net) c.ops.zero ks))

  -- The lists have places for the route, and the page is too short for it.
  pub record RoutePageShort (found : Found C N E L S) (run : ℕ) (sheet : List (Row C L S)) (places bytes : ℕ) (f : Fault) : Type 0 where
    pub route : RouteFollowed c n e found sheet
    pub fits : length (through route.halves) ≤ places
    pub page : PageShort c forms (filed_along found run (through route.halves)) bytes f

  -- The page shows a route under this run, with the cost and the taken count that Finish told; every route costs at least as
  -- much, and the lists have places for the route. Else a list or the page is too short.
  abbrev pub FileStands : Found C N E L S → ℕ → List (Row C L S) → ℕ → ℕ → Result ℕ Fault → List ℕ → Type 0
  FileStands found run sheet places bytes (Ok len) page = Shows c forms (take len page) (SaysRoute run found.taken found.cost) × Least (posed c n e found.net found.estimates) found.cost × RouteFits c n e found sheet places
  FileStands found run sheet places bytes (Err f) page = ListShort c n e found sheet places f ⊎ RoutePageShort found run sheet places bytes f

  -- Without a route ---------------------------------------------------------------------------------

  abbrev pub NoneFiledBy : NoRoute C N E L S → ℕ → Result ℕ Fault → List ℕ → Type 0
  NoneFiledBy none run (Err f) page = Unit {0}
  NoneFiledBy none run (Ok len) page = Back c forms (filed_with c forms n e none.net none.estimates (none_filed c run none.taken)) (take len page)

  -- There is none, and the page says so under this run, with the taken count that Finish told; else the page is too short.
  abbrev pub FileNoneStands : NoRoute C N E L S → ℕ → ℕ → Result ℕ Fault → List ℕ → Type 0
  FileNoneStands none run bytes (Ok len) page = No (posed c n e none.net none.estimates) × Shows c forms (take len page) (SaysNone run none.taken)
  FileNoneStands none run bytes (Err f) page = PageShort c forms (filed_with c forms n e none.net none.estimates (none_filed c run none.taken)) bytes f
