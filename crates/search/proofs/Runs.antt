-- A search that has its sheet to itself: what stands at the start and after each call, and what a list of calls adds up to.
use Rattle.std.proofs.Common.{◌≡◌, ℕ, ◌+◌, ◌<◌, ◌≤◌, Bool, true, false, true≢false, cond, ◌⊎◌, inl, inr, List, [], ◌∷◌, length, None, Ok, refl, sym, ap, subst, ◌∙◌, arith}
use Rattle.std.proofs.lemmas.Bool.{cases_eq, cases_lt, le-ltb}
use Rattle.faults.specs.Faults.{opposite}
use Rattle.faults.specs.declared.Side.{Side}
use Rattle.faults.specs.declared.Refusal.TheVariants.{Ended}
use Rattle.optimality.specs.declared.sheet.Row.{Row}
use Rattle.optimality.specs.declared.sheet.Front.{Front}
use Rattle.optimality.specs.declared.sheet.Ceiling.{Ceiling}
use Rattle.optimality.specs.declared.sheet.Ceiling.TheVariants.{Absent, Met}
use Rattle.optimality.specs.Sheets.{is_closed, State}
use Rattle.optimality.specs.Problems.{Problem, Fair, Consistent}
use Rattle.optimality.specs.Search.{mark_at, front, floor, ended, opened}
use Rattle.optimality.specs.Published.{amount_of}
use Rattle.optimality.proofs.Invariant.{Stands}
use Rattle.optimality.proofs.Bounds.{Below, below_refl, below_trans}
use Rattle.optimality.proofs.Ceilings.{Falls}
use Rattle.optimality.proofs.Sides.{by_side, bump, sides_differ}
use Rattle.optimality.proofs.Opening.{opened_stands}
use Rattle.optimality.proofs.Running.{has_front}
use Rattle.optimality.proofs.Taking.{Takes as Taken, takes}
use Rattle.search.specs.Calls.{search_fault, begun, over, own, short, foreign, turned_down, next, stepped_to, step_by, step}
use Rattle.search.specs.Claims.{Call, step_by_side, ask_bounds, try_finish, one_if, left, Leads, accepted_by, accepted, Closed, Takes, TakenBy, NoneTwice}
use Rattle.search.proofs.Owned.{own_over, over_long, closed_at, closed_own, closed_over, closed_past}

-- the search stands on its own rows, and none is missing
pub record Good {C L S : Type 0} (p : Problem C L S) (st : State C L S) : Type 0 where
  pub closings : Side → ℕ
  pub stands : Stands p (own p st) closings
  pub long : p.net.stations ≤ length st.rows

-- what an accepted step did
pub record Took {C L S : Type 0} (p : Problem C L S) (st : State C L S) (n : Side → ℕ) (side : Side) : Type 0 where
  pub front_taken : Front L
  pub taken : Taken p side front_taken (own p st) n
  pub is : step p st side ≡ record { answer = Ok tt; state = over p st.rows taken.result }

falls_amount : {C L S : Type 0} (p : Problem C L S) (fair : Fair p) (old new : Ceiling L) → Falls p.kind.ops old new → Below p (amount_of new) (amount_of old)
falls_amount p fair Absent new f = refl
falls_amount p fair (Met a u) Absent f = absurd (f a (fair.laws.le_refl a))
falls_amount p fair (Met a u) (Met b v) f = f a (fair.laws.le_refl a)

module _ {C L S : Type 0} (p : Problem C L S) (fair : Fair p) where
  pub begun_good : (sheet : List (Row C L S)) → p.net.stations ≤ length sheet → Good p (begun p sheet)
  begun_good sheet room =
      let stands = opened_stands p fair in
      record {
        closings = λ side. 0;
        stands = subst (λ st. Stands p st (λ side. 0)) (sym (own_over p sheet (opened p) stands.long)) stands;
        long = over_long p sheet (opened p) stands.long;
      }

  module _ (con : Consistent p) where
    module _ (st : State C L S) (good : Good p st) where
      pub not_short : short p st ≡ false
      not_short = le-ltb (length st.rows) p.net.stations good.long

      pub refused : ended p (own p st) ≡ true → (side : Side) → step p st side ≡ turned_down p st (search_fault (Ended st.taken))
      refused h side = ap (λ b. cond b (turned_down p st (foreign p st)) (step_by p st side (next p st side))) not_short ∙ ap (λ b. step_by p st side (cond b None (front p (own p st) side))) h

      pub took : ended p (own p st) ≡ false → (side : Side) → Took p st good.closings side
      took h side =
          let (r, here) = has_front p fair (own p st) good.closings good.stands h side in
          let t = takes p fair con (own p st) good.closings good.stands h side r here in
          record {
            front_taken = r;
            taken = t;
            is =
                ap (λ b. cond b (turned_down p st (foreign p st)) (step_by p st side (next p st side))) not_short
                ∙ ap (λ b. step_by p st side (cond b None (front p (own p st) side))) h
                ∙ ap (step_by p st side) here
                ∙ ap (stepped_to p st) t.taken;
          }

      -- a step is turned down since the search is ended, or it takes a front
      pub outcome : (side : Side) → ((ended p (own p st) ≡ true) × (step p st side ≡ turned_down p st (search_fault (Ended st.taken)))) ⊎ Took p st good.closings side
      outcome side = go (ended p (own p st)) refl
        where
          go : (b : Bool) → ended p (own p st) ≡ b → ((ended p (own p st) ≡ true) × (step p st side ≡ turned_down p st (search_fault (Ended st.taken)))) ⊎ Took p st good.closings side
          go true e = inl (e, refused e side)
          go false e = inr (took e side)

      -- Of a step that took a front ---------------------------------------------------------------

      module _ (side : Side) (t : Took p st good.closings side) where
        abbrev after : State C L S
        after = over p st.rows t.taken.result

        own_after : own p after ≡ t.taken.result
        own_after = own_over p st.rows t.taken.result t.taken.stands.long

        abbrev u : ℕ
        u = t.front_taken.station

        -- below the stations, a side has closed what its own rows say
        closed_after : (s : Side) (v : ℕ) → v < p.net.stations → closed_at p after s v ≡ is_closed (mark_at p.kind t.taken.result.rows s v)
        closed_after s v h = closed_over p st.rows t.taken.result s v t.taken.stands.long h

        closed_before : (s : Side) (v : ℕ) → v < p.net.stations → is_closed (mark_at p.kind ((own p st).rows) s v) ≡ closed_at p st s v
        closed_before s v h = closed_own p st s v h

        -- neither side had closed the station
        pub was_open : (s : Side) → closed_at p st s u ≡ false
        was_open s = sym (closed_before s u t.taken.inside) ∙ t.taken.was_open s

        -- the side has now
        pub is_taken : closed_at p after side u ≡ true
        is_taken = closed_after side u t.taken.inside ∙ t.taken.closed

        -- whatever else a side had closed or not, is so still
        pub else_same : (s : Side) (v : ℕ) → ((s ≡ side) × (v ≡ u) → ⊥) → closed_at p after s v ≡ closed_at p st s v
        else_same s v ne = elim (cases_lt v p.net.stations) [ inl h ↦ inside h | inr h ↦ closed_past p st t.taken.result s v t.taken.stands.long good.long h ]
          where
            own_side : v < p.net.stations → (v ≡ u → ⊥) → closed_at p after side v ≡ closed_at p st side v
            own_side h other = closed_after side v h ∙ t.taken.elsewhere v other ∙ closed_before side v h

            other_side : v < p.net.stations → closed_at p after (opposite side) v ≡ closed_at p st (opposite side) v
            other_side h = closed_after (opposite side) v h ∙ ap (λ f. is_closed (f v)) t.taken.other ∙ closed_before (opposite side) v h

            inside : v < p.net.stations → closed_at p after s v ≡ closed_at p st s v
            inside h = by_side side (λ s. ((s ≡ side) × (v ≡ u) → ⊥) → closed_at p after s v ≡ closed_at p st s v) (λ ne. own_side h (λ e. ne (refl, e))) (λ ne. other_side h) s ne

        -- it takes this station for this side, and nothing else
        pub only : (s : Side) (v : ℕ) → closed_at p after s v ≡ true → (closed_at p st s v ≡ true → ⊥) → (s ≡ side) × (v ≡ u)
        only s v now before = elim (cases_eq v u) [ inl e ↦ (by_side side (λ s. closed_at p after s v ≡ true → (closed_at p st s v ≡ true → ⊥) → s ≡ side) (λ x y. refl) other s now before, e) | inr ne ↦ absurd (before (sym (else_same s v (λ b. ne b.1)) ∙ now)) ]
          where
            other : closed_at p after (opposite side) v ≡ true → (closed_at p st (opposite side) v ≡ true → ⊥) → opposite side ≡ side
            other now before = absurd (before (sym (else_same (opposite side) v (λ b. sides_differ side b.0)) ∙ now))

      -- What a call leaves ------------------------------------------------------------------------

      pub record After (now : State C L S) (more : ℕ) : Type 0 where
        pub good_still : Good p now
        pub rises : Below p (floor p (own p st)) (floor p (own p now))
        pub falls : Below p (amount_of now.ceiling) (amount_of st.ceiling)
        pub counts : now.taken ≡ st.taken + more
        pub kept : (s : Side) (v : ℕ) → closed_at p st s v ≡ true → closed_at p now s v ≡ true

      after_none : After st 0
      after_none = record { good_still = good; rises = below_refl p fair.laws (floor p (own p st)); falls = below_refl p fair.laws (amount_of st.ceiling); counts = omega arith; kept = λ s v h. h }

      after_took : (side : Side) (t : Took p st good.closings side) → After (over p st.rows t.taken.result) 1
      after_took side t =
          record {
            good_still = record {
              closings = bump side good.closings;
              stands = subst (λ x. Stands p x (bump side good.closings)) (sym (own_after side t)) t.taken.stands;
              long = over_long p st.rows t.taken.result t.taken.stands.long;
            };
            rises = subst (λ x. Below p (floor p (own p st)) (floor p x)) (sym (own_after side t)) t.taken.rises;
            falls = falls_amount p fair st.ceiling t.taken.result.ceiling t.taken.falls;
            counts = t.taken.counted;
            kept = λ s v h. else_same side t s v (λ e. true≢false (sym h ∙ subst (λ x. closed_at p st s x ≡ false) (sym (e.1)) (was_open side t s))) ∙ h;
          }

      pub after_call : (c : Call) → After (left p st c) (accepted_by p st c)
      after_call (step_by_side side) = elim (outcome side) [ inl stop ↦ subst (λ x. After x.state (one_if x.answer)) (sym stop.1) after_none | inr t ↦ subst (λ x. After x.state (one_if x.answer)) (sym t.is) (after_took side t) ]
      after_call ask_bounds = after_none
      after_call try_finish = after_none

    -- Over a list of calls ------------------------------------------------------------------------

    pub record Through (st last : State C L S) (more : ℕ) : Type 0 where
      pub good_last : Good p last
      pub rises : Below p (floor p (own p st)) (floor p (own p last))
      pub falls : Below p (amount_of last.ceiling) (amount_of st.ceiling)
      pub counts : last.taken ≡ st.taken + more

    pub through : (cs : List Call) (st last : State C L S) → Good p st → Leads p st cs last → Through st last (accepted p st cs)
    through [] st last good led = subst (λ x. Through st x 0) led (record { good_last = good; rises = below_refl p fair.laws (floor p (own p st)); falls = below_refl p fair.laws (amount_of st.ceiling); counts = omega arith })
    through (c ∷ cs) st last good led =
        let now = left p st c in
        let one = after_call st good c in
        let rest = through cs now last one.good_still led.1 in
        record {
          good_last = rest.good_last;
          rises = below_trans p fair.laws (floor p (own p st)) (floor p (own p now)) (floor p (own p last)) one.rises rest.rises;
          falls = below_trans p fair.laws (amount_of last.ceiling) (amount_of now.ceiling) (amount_of st.ceiling) rest.falls one.falls;
          counts = omega (arith, one.counts, rest.counts);
        }

    -- what a call takes, no side had closed
    takes_open : (st : State C L S) → Good p st → (c : Call) (side : Side) (u : ℕ) → Takes p st c side u → (s : Side) → Closed st s u → ⊥
    takes_open st good (step_by_side x) side u takes s was = elim (outcome st good x) [ inl stop ↦ takes.before (subst (λ y. closed_at p y.state side u ≡ true) stop.1 takes.after) | inr t ↦ on_took t ]
      where
        on_took : Took p st good.closings x → ⊥
        on_took t =
            let at = only st good x t side u (subst (λ y. closed_at p y.state side u ≡ true) t.is takes.after) takes.before in
            true≢false (sym was ∙ subst (λ v. closed_at p st s v ≡ false) (sym at.1) (was_open st good x t s))
    takes_open st good ask_bounds side u takes s was = takes.before takes.after
    takes_open st good try_finish side u takes s was = takes.before takes.after

    -- nor does one of the calls take what was closed
    taken_open : (cs : List Call) (st last : State C L S) → Good p st → Leads p st cs last → (side : Side) (u : ℕ) → TakenBy p st cs side u → (s : Side) → Closed st s u → ⊥
    taken_open [] st last good led side u taken s was = taken
    taken_open (c ∷ cs) st last good led side u (inl takes) s was = takes_open st good c side u takes s was
    taken_open (c ∷ cs) st last good led side u (inr later) s was =
        let one = after_call st good c in
        taken_open cs (left p st c) last one.good_still led.1 side u later s (one.kept s u was)

    pub none_twice : (cs : List Call) (st last : State C L S) → Good p st → Leads p st cs last → NoneTwice p st cs
    none_twice [] st last good led = tt
    none_twice (c ∷ cs) st last good led =
        let one = after_call st good c in
        (λ a b u takes later. taken_open cs (left p st c) last one.good_still led.1 b u later a takes.after, none_twice cs (left p st c) last one.good_still led.1)
