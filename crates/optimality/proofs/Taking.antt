-- A front is taken: the search stands after it, its ceiling has not risen, and its floor has not fallen.
use Rattle.std.proofs.Common.{◌≡◌, ℕ, zero, suc, ◌+◌, ◌<◌, true, false, true≢false, List, length, Some, None, Option, sym, refl, ap, ap₂, ◌∙◌, subst, subst₂, arith}
use Rattle.std.proofs.lemmas.Bool.{false_from_ne_true, lt-ltb}
use Rattle.amounts.specs.Amount.{Le}
use Rattle.amounts.specs.declared.cost.Cost as cost
use Rattle.faults.specs.Faults.{opposite}
use Rattle.faults.specs.declared.Side.{Side}
use Rattle.networks.specs.declared.estimates.Pair.{Pair}
use Rattle.networks.specs.Nets.{starters}
use Rattle.networks.specs.Routes.{Route}
use Rattle.optimality.specs.declared.sheet.Row.{Row}
use Rattle.optimality.specs.declared.sheet.Front.{Front}
use Rattle.optimality.specs.declared.sheet.Ceiling.{Ceiling}
use Rattle.optimality.specs.declared.sheet.Ceiling.TheVariants.{Absent, Met}
use Rattle.optimality.specs.Sheets.{is_closed, State}
use Rattle.optimality.specs.Problems.{Problem, Fair, Consistent, route_cost}
use Rattle.optimality.specs.Keys.{front_of, nearer, key_sum, twice}
use Rattle.optimality.specs.Search.{mark_at, least, Spread, spread, closing, after, front, least_sum, floor, ended, taking}
use Rattle.optimality.proofs.Marked.{OnMet}
use Rattle.optimality.proofs.Having.{has_parts, on_at}
use Rattle.optimality.proofs.Fronts.{front_stands}
use Rattle.optimality.proofs.Bounds.{Below, Small, below_trans, smaller_left, smaller_most, least_sum_by, least_sum_is, twice_is, ceil_below, ceiling_small}
use Rattle.optimality.proofs.Lower.{floor_bounds, ceiling_route}
use Rattle.optimality.proofs.Invariant.{Marks, SideStands, Joint, Meeting, Next, Stands}
use Rattle.optimality.proofs.Sides.{by_side, both_ways, bump, bump_here, bump_there, bump_total}
use Rattle.optimality.proofs.Putting.{puts_ind}
use Rattle.optimality.proofs.Ceilings.{Falls, joint_turned, meeting_turned}
use Rattle.optimality.proofs.Closing.{closing_puts, closing_other, closing_long, closing_counted}
use Rattle.optimality.proofs.Spreading.{Gone, spread_leaves}
use Rattle.optimality.proofs.Running.{has_front, fresh, room}

-- What taking a side's front does.
pub record Takes {C L S : Type 0} (p : Problem C L S) (side : Side) (r : Front L) (st : State C L S) (n : Side → ℕ) : Type 0 where
  pub result : State C L S
  pub taken : taking p side r st ≡ Some result
  pub stands : Stands p result (bump side n)
  pub counted : result.taken ≡ st.taken + 1
  -- the ceiling has not risen, and the floor has not fallen
  pub falls : Falls p.kind.ops st.ceiling result.ceiling
  pub lowers : Below p (twice p.kind result.ceiling) (twice p.kind st.ceiling)
  pub rises : Below p (floor p st) (floor p result)
  -- the front's station is closed now, and was on neither side; all else that was closed or not is so still
  pub inside : r.station < p.net.stations
  pub was_open : (s : Side) → is_closed (mark_at p.kind st.rows s r.station) ≡ false
  pub closed : is_closed (mark_at p.kind result.rows side r.station) ≡ true
  pub elsewhere : (i : ℕ) → (i ≡ r.station → ⊥) → is_closed (mark_at p.kind result.rows side i) ≡ is_closed (mark_at p.kind st.rows side i)
  pub other : mark_at p.kind result.rows (opposite side) ≡ mark_at p.kind st.rows (opposite side)

-- the same marks have the same front
least_same : {C L S : Type 0} (c : cost.Ghosts C L S) (estimates : List (Pair L)) (side : Side) (old new : List (Row C L S)) → mark_at c new side ≡ mark_at c old side → (n : ℕ) → least c estimates new side n ≡ least c estimates old side n
least_same c estimates side old new same zero = refl
least_same c estimates side old new same (suc n) = ap₂ (nearer c) (least_same c estimates side old new same n) (ap (λ f. front_of c estimates side n (f n)) same)

-- what is at most twice each route's cost is at most twice a ceiling that is a route's cost
under_ceiling : {C L S : Type 0} (p : Problem C L S) (fair : Fair p) (x : Option L) → ((ks : List ℕ) → Route p.net ks → Below p x (Some (p.kind.ops.plus (route_cost p ks) (route_cost p ks)))) → (ceiling : Ceiling L) → Small p ceiling → OnMet ceiling (λ a m. (ks : List ℕ) × Route p.net ks × (route_cost p ks ≡ a) × (length ks < p.net.stations)) → Below p x (twice p.kind ceiling)
under_ceiling p fair x bounds Absent small route = refl
under_ceiling p fair x bounds (Met a m) small route =
    let (ks, there, cost, short) = route in
    subst (Below p x) (ap (λ b. Some (p.kind.ops.plus b b)) cost ∙ sym (twice_is p fair a m small)) (bounds ks there)

-- a ceiling that has not risen is at most the old one
falls_twice : {C L S : Type 0} (p : Problem C L S) (fair : Fair p) (old new : Ceiling L) → Small p old → Small p new → Falls p.kind.ops old new → Below p (twice p.kind new) (twice p.kind old)
falls_twice p fair Absent new small less falls = refl
falls_twice p fair (Met a m) new small less falls = subst (Below p (twice p.kind new)) (sym (twice_is p fair a m small)) (ceil_below p fair new a less (falls a (fair.laws.le_refl a)))

module _ {C L S : Type 0} (p : Problem C L S) (fair : Fair p) (con : Consistent p) (st : State C L S) (n : Side → ℕ) (stands : Stands p st n) (going : ended p st ≡ false) (side : Side) (r : Front L) (here : front p st side ≡ Some r) where
  -- the front comes next, and so does the other side's front q
  abbrev next : Next p side (mark_at p.kind st.rows side) r
  next = front_stands p fair st side r stands.long here

  abbrev q : Front L
  q = (has_front p fair st n stands going (opposite side)).0

  abbrev there : front p st (opposite side) ≡ Some q
  there = (has_front p fair st n stands going (opposite side)).1

  -- its sections were gone through
  module _ (sp : Spread C L S) (gone : Gone p side r (n side) (closing side r st) (λ k. ⊥) sp) where
    abbrev result : State C L S
    result = after st sp

    abbrev marks : Side → Marks L
    marks s = mark_at p.kind sp.rows s

    -- what the result reads
    other : marks (opposite side) ≡ mark_at p.kind st.rows (opposite side)
    other = gone.keeps.other ∙ closing_other p fair st side r stands.long next

    closed : is_closed (marks side r.station) ≡ true
    closed = ap is_closed gone.going.taken

    elsewhere : (i : ℕ) → (i ≡ r.station → ⊥) → is_closed (marks side i) ≡ is_closed (mark_at p.kind st.rows side i)
    elsewhere i ne = gone.keeps.closed i ∙ ap is_closed ((closing_puts p fair st side r stands.long next).elsewhere i ne)

    -- the front's station was not closed on the other side, and no station is closed on both now
    fresh_here : is_closed (mark_at p.kind st.rows (opposite side) r.station) ≡ false
    fresh_here = fresh p fair st n stands going side r q here there

    once : (u : ℕ) → is_closed (marks side u) ≡ true → is_closed (marks (opposite side) u) ≡ false
    once u t =
        ap is_closed (ap (λ h. h u) other)
        ∙ puts_ind (closing_puts p fair st side r stands.long next) u (λ m. is_closed m ≡ true → is_closed (mark_at p.kind st.rows (opposite side) u) ≡ false) (λ e c. rw e fresh_here) (λ ne c. stands.once side u c) (sym (gone.keeps.closed u) ∙ t)

    -- the result stands
    result_stands : Stands p result (bump side n)
    result_stands = record {
      long = gone.keeps.long ∙ closing_long p fair st side r stands.long next;
      sides = by_side side (λ s. SideStands p s (marks s) (bump side n s) (λ k. ⊥)) (rw (bump_here side n) gone.going.stands) (rw (bump_there side n, other) (stands.sides (opposite side)));
      joint = both_ways (λ f w. Joint p f w sp.ceiling) (λ f w. joint_turned p fair.laws f w sp.ceiling) marks side (subst (λ w. Joint p (marks side) w sp.ceiling) (sym gone.keeps.other) gone.going.joint);
      meeting = both_ways (λ f w. Meeting p f w sp.ceiling) (λ f w. meeting_turned p fair.laws f w sp.ceiling) marks side (subst (λ w. Meeting p (marks side) w sp.ceiling) (sym gone.keeps.other) gone.going.meeting);
      once = both_ways (λ f w. (u : ℕ) → is_closed (f u) ≡ true → is_closed (w u) ≡ false) (λ f w h u t. false_from_ne_true _ (λ c. true≢false (sym t ∙ h u c))) marks side once;
      counted = omega (arith, bump_total side n, stands.counted);
      tallied = omega (arith, gone.keeps.counted, closing_counted p fair st side r stands.long next fresh_here, stands.tallied);
      few = room p fair st n stands going side r q here there;
    }

    -- its ceiling is small
    result_small : Small p sp.ceiling
    result_small = ceiling_small p fair sp.rows side sp.ceiling (result_stands.meeting side)

    -- the side's least key has not fallen, and the other side has the front that it had
    least_rises : Below p (least_sum p st) (least_sum p result)
    least_rises = go (front p result side) refl
      where
        go : (x : Option (Front L)) → front p result side ≡ x → Below p (least_sum p st) (least_sum p result)
        go None e = subst (Below p (least_sum p st)) (ap (λ x. key_sum p.kind x (front p result (opposite side))) (sym e) ∙ least_sum_by p fair.laws result side) refl
        go (Some a) e =
            let long = result_stands.long in
            let now = front_stands p fair result side a long e in
            let still = least_same p.kind p.estimates (opposite side) st.rows sp.rows other p.net.stations ∙ there in
            let sorted = on_at (marks side r.station) _ _ gone.going.taken (gone.going.stands.sorted r.station a.station) refl in
            let up = on_at (marks side a.station) _ _ now.marked sorted refl in
            let le : Le p.kind.ops r.key a.key = rw (next.its_key, now.its_key) up in
            subst₂ (Below p) (sym (least_sum_is p fair st side r q stands.long here there)) (sym (least_sum_is p fair result side a q long e still)) (fair.laws.le_plus r.key a.key q.key le)

    -- nor has the floor
    rises : Below p (floor p st) (floor p result)
    rises =
        smaller_most p fair.laws (floor p st) (least_sum p result) (twice p.kind sp.ceiling)
        (below_trans p fair.laws (floor p st) (least_sum p st) (least_sum p result) (smaller_left p fair.laws (least_sum p st) (twice p.kind st.ceiling)) least_rises)
        (under_ceiling p fair (floor p st) (floor_bounds p fair con st n stands) sp.ceiling result_small (ceiling_route p fair con result (bump side n) result_stands))

    -- and it is what taking the front answers
    result_taken : spread p.kind p.net side r.label (starters side p.net r.station) (closing side r st) ≡ Some sp → Takes p side r st n
    result_taken e = record {
      result = result;
      taken = rw (lt-ltb _ _ (room p fair st n stands going side r q here there), e) refl;
      stands = result_stands;
      counted = refl;
      falls = gone.keeps.falls;
      lowers = falls_twice p fair st.ceiling sp.ceiling (ceiling_small p fair st.rows side st.ceiling (stands.meeting side)) result_small gone.keeps.falls;
      rises = rises;
      inside = next.within;
      was_open = by_side side (λ s. is_closed (mark_at p.kind st.rows s r.station) ≡ false) (ap is_closed next.marked) fresh_here;
      closed = closed;
      elsewhere = elsewhere;
      other = other;
    }

  -- while the search goes on, a side's front can be taken
  pub takes : Takes p side r st n
  takes =
      let (sp, e, gone) = has_parts (spread p.kind p.net side r.label (starters side p.net r.station) (closing side r st)) _ (spread_leaves p fair con side r st n stands next) in
      result_taken sp gone e
