-- What the contract of Route says beyond its answer.
use Rattle.std.proofs.Common.{◌≡◌, ℕ, ◌≤◌, Bool, true, false, true≢false, cond, min, List, [], ◌++◌, length, take, drop, reverse, Some, None, Option, Ok, Err, Result, nat_lt, is_ok, refl, sym, ap, ◌∙◌, subst, length-append, length-take, arith}
use Rattle.std.proofs.lemmas.List.{length-reverse, take-map}
use Rattle.std.proofs.Math.Seq.{take-append_seam}
use Rattle.std.proofs.lemmas.Bool.{le-ltb, ltb-true, ltb-false}
use Rattle.amounts.specs.declared.cost.Cost as cost
use Rattle.amounts.specs.Amount.{RangeLaws, Laws}
use Rattle.amounts.specs.Forms.{Forms, TotalsOnPage}
use Rattle.networks.specs.declared.network.Network as network
use Rattle.networks.specs.declared.estimates.Estimates as estimates
use Rattle.networks.specs.Given.{GivenInRange}
use Rattle.networks.specs.Nets.{Net, InRange}
use Rattle.networks.specs.Routes.{Joins, cost_of}
use Rattle.faults.specs.declared.Fault.{Fault}
use Rattle.faults.specs.declared.Refusal.TheVariants.{ForeignSheet, ListTooShort}
use Rattle.contents.specs.declared.answer.Step.{Step}
use Rattle.contents.specs.Retracing.{sections_of}
use Rattle.optimality.specs.declared.sheet.Row.{Row}
use Rattle.optimality.specs.declared.sheet.Ceiling.{Ceiling}
use Rattle.optimality.specs.declared.sheet.Ceiling.TheVariants.{Absent, Met}
use Rattle.optimality.specs.Problems.{Problem, Fair}
use Rattle.optimality.proofs.Ranges.{fair_of}
use Rattle.search.specs.declared.running.Running.{Running}
use Rattle.search.specs.declared.running.Found.{Found}
use Rattle.search.specs.declared.running.Finished.{Finished}
use Rattle.search.specs.declared.running.Finished.TheVariants as finished
use Rattle.search.specs.Calls.{problem, standing, begun, own, unfinished, conclusion, finish_by, finish_of}
use Rattle.search.specs.Claims.{Call, HasItsSheet, Least}
use Rattle.search.proofs.Consistency.{unfit_consistent, unfit_room}
use Rattle.search.proofs.Runs.{Good, begun_good, through as gone_on}
use Rattle.search.proofs.Main.{sound}
use Rattle.filing.specs.Arrivals.{Line, through, line}
use Rattle.filing.specs.Listing.{filing_fault, steps_along, last_cost, with_room, lined, Routed, routed_by, route_of}
use Rattle.filing.specs.Claims.{Listed, ListedBy, FoundBy, RouteFollowed, RouteStands}
use Rattle.filing.proofs.Halving.{lined_ok}
use Rattle.filing.proofs.Lists.{length_along}
use Rattle.filing.proofs.Joined.{line_joined}
use Rattle.filing.proofs.Listed.{along_sections, along_listed}
use Rattle.filing.proofs.Reached.{ceiling_reached}

-- The first places -------------------------------------------------------------------------------

-- what was put over the first places of a list
pub first_places : {X : Type 0} (xs ys : List X) (n : ℕ) → n ≡ length xs → take n (xs ++ ys) ≡ xs
first_places xs ys n e = ap (λ k. take k (xs ++ ys)) e ∙ take-append_seam xs ys

-- On every sheet ---------------------------------------------------------------------------------

module _ {C L S : Type 0} (c : cost.Ghosts C L S) (forms : Forms L S) (laws : Laws c.ops) (fit : RangeLaws c.ops c.worth c.section_range c.estimate_range) (totals : TotalsOnPage c.ops c.worth c.section_range forms) (net : Net S) (range : InRange c.section_range net) where
  -- what joins launcher to trap, listed
  pub line_listed : (rows : List (Row C L S)) (meeting : ℕ) (l : Line) → line net rows meeting ≡ Some l → Listed c forms net (steps_along c net c.ops.zero (through l))
  line_listed rows meeting l e =
      let p : Problem C L S = record { kind = c; net = net; estimates = [] } in
      let j = line_joined p rows meeting l e in
      along_listed c forms laws fit totals net range (through l) j.route j.few

  module _ (steps turning : List (Step L)) (meeting : ℕ) (sheet : List (Row C L S)) where
    lined_listed : (r : Result Line Fault) → lined net meeting sheet (min (length steps) (length turning)) ≡ r → ListedBy c forms net meeting ((routed_by c net steps turning r).answer) ((routed_by c net steps turning r).steps) ((routed_by c net steps turning r).turning)
    lined_listed (Err f) is = tt
    lined_listed (Ok l) is =
        let route = steps_along c net c.ops.zero (through l) in
        let behind = length l.behind in
        let there = lined_ok net meeting sheet (min (length steps) (length turning)) (record { behind = 0; ahead = 0 }) l is in
        let within : behind ≤ length route = omega (arith, length_along c net c.ops.zero (through l), length-append (reverse l.behind) l.ahead, length-reverse l.behind) in
        let count : behind ≡ length (reverse (take behind route)) = omega (arith, length-reverse (take behind route), length-take behind route) in
        let half = (line_joined (record { kind = c; net = net; estimates = [] }) (take net.stations sheet) meeting l there.0).half in
        let whole = first_places route (drop (length route) steps) (length route) refl in (
          subst (Listed c forms net) (sym whole) (line_listed (take net.stations sheet) meeting l there.0),
          record {
            behind = behind;
            to_meeting = subst (λ ks. Joins net net.launcher ks meeting) (sym (ap (λ ss. sections_of (take behind ss)) whole ∙ sym (take-map (λ s. s.section) behind route) ∙ ap (take behind) (along_sections c net c.ops.zero (through l)) ∙ first_places (reverse l.behind) l.ahead behind (sym (length-reverse l.behind)))) half;
            turned = first_places (reverse (take behind route)) (drop behind turning) behind count ∙ ap (λ ss. reverse (take behind ss)) (sym whole);
          },
        )

    pub listed_by : (r : Routed L) → r ≡ route_of c net steps turning meeting sheet → ListedBy c forms net meeting r.answer r.steps r.turning
    listed_by r is = subst (λ x. ListedBy c forms net meeting x.answer x.steps x.turning) (sym is) (lined_listed (lined net meeting sheet (min (length steps) (length turning))) refl)

-- Where the search has its sheet to itself -----------------------------------------------------------

module _ {C N E L S : Type 0} (c : cost.Ghosts C L S) (n : network.Ghosts N C L S) (e : estimates.Ghosts E C L S) where
  -- what holds of what a search over just these concludes, holds of what Finish gave
  pub finished_from : (s : Running C N E L S) (sheet : List (Row C L S)) (fin : Finished C N E L S) (P : Finished C N E L S → Type 0) → finish_of c n e s sheet ≡ Ok fin → (unfinished (problem c n e s) (standing s sheet) ≡ None → P (conclusion (problem c n e s) s s.ceiling)) → P fin
  finished_from s sheet fin P is h = by_fault (unfinished (problem c n e s) (standing s sheet)) refl is
    where
      by_fault : (f : Option Fault) → unfinished (problem c n e s) (standing s sheet) ≡ f → finish_by (problem c n e s) s f ≡ Ok fin → P fin
      by_fault (Some f) at z = absurd (true≢false (sym (ap is_ok z)))
      by_fault None at z = let same : conclusion (problem c n e s) s s.ceiling ≡ fin = cc in subst P same (h at)

  -- what Finish gives where a ceiling stands
  abbrev pub found_at : Running C N E L S → L → ℕ → Found C N E L S
  found_at s a m = record { net = s.net; estimates = s.estimates; taken = s.taken; cost = a; meeting = m }

  pub found_from : (s : Running C N E L S) (sheet : List (Row C L S)) (found : Found C N E L S) (P : Found C N E L S → Type 0) → finish_of c n e s sheet ≡ Ok (finished.Found found) → ((a : L) (m : ℕ) → s.ceiling ≡ Met a m → unfinished (problem c n e s) (standing s sheet) ≡ None → P (found_at s a m)) → P found
  found_from s sheet found P is h = finished_from s sheet (finished.Found found) Q is (λ over. by_ceiling over s.ceiling refl)
    where
      Q : Finished C N E L S → Type 0
      Q (finished.Found r) = P r
      Q (finished.NoRoute r) = Unit {0}

      by_ceiling : unfinished (problem c n e s) (standing s sheet) ≡ None → (x : Ceiling L) → s.ceiling ≡ x → Q (conclusion (problem c n e s) s x)
      by_ceiling over Absent at = tt
      by_ceiling over (Met a m) at = h a m at over

  module _ (forms : Forms L S) (laws : Laws c.ops) (fit : RangeLaws c.ops c.worth c.section_range c.estimate_range) (totals : TotalsOnPage c.ops c.worth c.section_range forms) where
    -- after any list of calls the search stands
    pub good_of : (calls : List Call) (s : Running C N E L S) (sheet : List (Row C L S)) → Fair (problem c n e s) → HasItsSheet c n e calls s sheet → Good (problem c n e s) (standing s sheet)
    good_of calls s sheet fair own_sheet =
        let p = problem c n e s in
        let con = unfit_consistent p fair (length own_sheet.sheet) own_sheet.accepts in
        let first = begun_good p fair own_sheet.sheet (unfit_room p fair (length own_sheet.sheet) own_sheet.accepts) in
        (gone_on p fair con calls (begun p own_sheet.sheet) (standing s sheet) first own_sheet.led).good_last

    module _ (s : Running C N E L S) (sheet : List (Row C L S)) (range : InRange c.section_range (n.meaning s.net)) (given : GivenInRange c.estimate_range (e.meaning s.estimates)) (calls : List Call) (owned : HasItsSheet c n e calls s sheet) where
      abbrev p : Problem C L S
      p = problem c n e s

      pub fair : Fair p
      fair = fair_of p laws fit range given

      pub good : Good p (standing s sheet)
      good = good_of calls s sheet fair owned

      pub enough_rows : nat_lt (length sheet) p.net.stations ≡ false
      enough_rows = le-ltb (length sheet) p.net.stations good.long

      module _ (a : L) (m : ℕ) (at : s.ceiling ≡ Met a m) (over : unfinished p (standing s sheet) ≡ None) where
        -- what the arrivals are followed along
        pub along : RouteFollowed c n e (found_at s a m) sheet
        along =
            let reached = ceiling_reached p fair (own p (standing s sheet)) good.closings good.stands a m at in
            let joined = line_joined p (take p.net.stations sheet) m reached.halves reached.found in
            record { halves = reached.halves; followed = reached.found; route = joined.route; few = joined.few; cost = reached.cost }

        -- the steps that are listed cost the ceiling
        pub cost_listed : last_cost c.ops.zero (steps_along c p.net c.ops.zero (through along.halves)) ≡ a
        cost_listed =
            (line_listed c forms laws fit totals p.net range (take p.net.stations sheet) m along.halves along.followed).total
            ∙ ap (cost_of c.ops c.worth p.net) (along_sections c p.net c.ops.zero (through along.halves))
            ∙ along.cost

        -- and no route costs less
        pub no_less : Least p a
        no_less = ((sound p fair calls (standing s sheet) owned).least a m over at).1

        -- the halves, or a list that is too short
        pub lined_is : (room : ℕ) → lined p.net m sheet room ≡ cond (nat_lt room (length (through along.halves))) (Err (filing_fault (ListTooShort room))) (Ok along.halves)
        lined_is room =
            ap (λ b. cond b (Err (filing_fault (ForeignSheet (length sheet)))) (with_room (length sheet) room (line p.net (take p.net.stations sheet) m))) enough_rows
            ∙ ap (with_room (length sheet) room) along.followed

        route_stands_by : (steps turning : List (Step L)) (b : Bool) → nat_lt (min (length steps) (length turning)) (length (through along.halves)) ≡ b → let r = routed_by c p.net steps turning (cond b (Err (filing_fault (ListTooShort (min (length steps) (length turning))))) (Ok along.halves)) in RouteStands c n e (found_at s a m) sheet (min (length steps) (length turning)) r.answer r.steps
        route_stands_by steps turning true is = record { route = along; short = ltb-true _ _ is; fault = refl }
        route_stands_by steps turning false is =
            let route = steps_along c p.net c.ops.zero (through along.halves) in
            let whole = first_places route (drop (length route) steps) (length route) refl in (
              ap (last_cost c.ops.zero) whole ∙ cost_listed,
              no_less,
              record { route = along; along = ap sections_of whole ∙ along_sections c p.net c.ops.zero (through along.halves); fits = ltb-false _ _ is },
            )

        pub route_stands_at : (steps turning : List (Step L)) (r : Routed L) → r ≡ route_of c p.net steps turning m sheet → RouteStands c n e (found_at s a m) sheet (min (length steps) (length turning)) r.answer r.steps
        route_stands_at steps turning r is =
            let room = min (length steps) (length turning) in
            subst (λ x. RouteStands c n e (found_at s a m) sheet room x.answer x.steps) (sym (is ∙ ap (routed_by c p.net steps turning) (lined_is room)))
            (route_stands_by steps turning (nat_lt room (length (through along.halves))) refl)

    pub route_stands : (found : Found C N E L S) (sheet : List (Row C L S)) (steps turning : List (Step L)) → InRange c.section_range (n.meaning found.net) → GivenInRange c.estimate_range (e.meaning found.estimates) → (r : Routed L) → r ≡ route_of c (n.meaning found.net) steps turning found.meeting sheet → (calls : List Call) → FoundBy c n e calls found sheet → RouteStands c n e found sheet (min (length steps) (length turning)) r.answer r.steps
    route_stands found sheet steps turning range given r is calls by =
        found_from by.search sheet found (λ f. InRange c.section_range (n.meaning f.net) → GivenInRange c.estimate_range (e.meaning f.estimates) → r ≡ route_of c (n.meaning f.net) steps turning f.meeting sheet → RouteStands c n e f sheet (min (length steps) (length turning)) r.answer r.steps) by.finished
        (λ a m at over range given is. route_stands_at by.search sheet range given calls by.own a m at over steps turning r is)
        range given is
