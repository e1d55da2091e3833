-- The theorem: what is claimed of a search that has its sheet to itself holds.
use Rattle.std.proofs.Common.{◌≡◌, ℕ, ◌<◌, Bool, true, false, true≢false, cond, ◌⊎◌, inl, inr, ◌↔◌, List, [], ◌∷◌, ◌++◌, length, Some, None, Ok, Err, Result, refl, sym, ap, subst, subst₂, ◌∙◌, arith}
use Rattle.std.proofs.lemmas.Option.{none-some}
use Rattle.faults.specs.declared.Side.{Side}
use Rattle.faults.specs.declared.Refusal.TheVariants.{NotEnded}
use Rattle.networks.specs.Routes.{Route}
use Rattle.optimality.specs.declared.sheet.Ceiling.{Ceiling}
use Rattle.optimality.specs.declared.sheet.Ceiling.TheVariants.{Absent, Met}
use Rattle.optimality.specs.Sheets.{State}
use Rattle.optimality.specs.Problems.{Problem, Fair, Consistent, route_cost}
use Rattle.optimality.specs.Search.{floor, ended}
use Rattle.optimality.specs.Published.{amount_of}
use Rattle.optimality.proofs.Marked.{OnMet, CeilLe}
use Rattle.optimality.proofs.Lower.{floor_bounds, ended_bounds, ceiling_route}
use Rattle.search.specs.declared.running.Bounds.{Bounds}
use Rattle.search.specs.Calls.{begun, own, foreign, bounds, unfinished, search_fault}
use Rattle.search.specs.Claims.{Call, left, GoesOn, Leads, Own, Closed, Reachable, Least, NoRoute, AtMost, Floor, StepAccepted, StepRefused, Sound}
use Rattle.search.proofs.Consistency.{unfit_room, unfit_consistent}
use Rattle.search.proofs.Runs.{Good, Took, begun_good, not_short, outcome, was_open, is_taken, only, through, none_twice}

ok_same : {X Y : Type 0} (a b : X) → ◌≡◌ {A = Result X Y} (Ok a) (Ok b) → a ≡ b
ok_same a b e = cc

module _ {C L S : Type 0} (p : Problem C L S) (fair : Fair p) (con : Consistent p) (st : State C L S) (good : Good p st) where
  -- what Bounds answers
  abbrev pub known : Bounds L
  known = record { floor = floor p (own p st); ceiling = st.ceiling }

  pub bounds_known : bounds p st ≡ Ok known
  bounds_known = ap (λ b. cond b (Err (foreign p st)) (Ok known)) (not_short p fair con st good)

  known_by : (b : Bounds L) → bounds p st ≡ Ok b → known ≡ b
  known_by b e = ok_same known b (sym bounds_known ∙ e)

  pub floor_holds : (b : Bounds L) → bounds p st ≡ Ok b → Floor p b.floor
  floor_holds b e = subst (λ b. Floor p b.floor) (known_by b e) (floor_bounds p fair con (own p st) good.closings good.stands)

  met_route : (ceiling : Ceiling L) → OnMet ceiling (λ a m. (ks : List ℕ) × Route p.net ks × (route_cost p ks ≡ a) × (length ks < p.net.stations)) → (a : L) (m : ℕ) → ceiling ≡ Met a m → Reachable p a
  met_route Absent h a m e = absurd (none-some _ (ap amount_of e))
  met_route (Met b u) h a m e = let same : b ≡ a = cc in (h.0, h.1, h.2 ∙ same)

  pub ceiling_holds : (b : Bounds L) (a : L) (m : ℕ) → bounds p st ≡ Ok b → b.ceiling ≡ Met a m → Reachable p a
  ceiling_holds b a m e is = met_route st.ceiling (ceiling_route p fair con (own p st) good.closings good.stands) a m (ap (λ x. x.ceiling) (known_by b e) ∙ is)

  -- Finish would be accepted just where the search is ended
  ended_by : unfinished p st ≡ None → ended p (own p st) ≡ true
  ended_by h = go (ended p (own p st)) (sym (ap (λ b. cond b (Some (foreign p st)) (cond (ended p (own p st)) None (Some (search_fault (NotEnded st.taken))))) (not_short p fair con st good)) ∙ h)
    where
      go : (b : Bool) → cond b None (Some (search_fault (NotEnded st.taken))) ≡ None → b ≡ true
      go true e = refl
      go false e = absurd (none-some _ (sym e))

  unfinished_by : ended p (own p st) ≡ true → unfinished p st ≡ None
  unfinished_by h = ap (λ b. cond b (Some (foreign p st)) (cond (ended p (own p st)) None (Some (search_fault (NotEnded st.taken))))) (not_short p fair con st good) ∙ ap (λ b. cond b None (Some (search_fault (NotEnded st.taken)))) h

  under : unfinished p st ≡ None → (ks : List ℕ) → Route p.net ks → CeilLe p.kind.ops st.ceiling (route_cost p ks)
  under h = ended_bounds p fair con (own p st) good.closings good.stands (ended_by h)

  no_ceiling : (ceiling : Ceiling L) → ((ks : List ℕ) → Route p.net ks → CeilLe p.kind.ops ceiling (route_cost p ks)) → ((a : L) (m : ℕ) → ceiling ≡ Met a m → Reachable p a) → (ceiling ≡ Absent) ↔ NoRoute p
  no_ceiling Absent low met = (λ e ks route. low ks route, λ none. refl)
  no_ceiling (Met a m) low met = (λ e. absurd (none-some _ (sym (ap amount_of e))), λ none. let route = met a m refl in absurd (none route.0 route.1))

  pub none_holds : unfinished p st ≡ None → (st.ceiling ≡ Absent) ↔ NoRoute p
  none_holds h = no_ceiling st.ceiling (under h) (λ a m. ceiling_holds known a m bounds_known)

  least_by : (ceiling : Ceiling L) → ((ks : List ℕ) → Route p.net ks → CeilLe p.kind.ops ceiling (route_cost p ks)) → (a : L) (m : ℕ) → ceiling ≡ Met a m → Least p a
  least_by Absent low a m e = absurd (none-some _ (ap amount_of e))
  least_by (Met b u) low a m e = let same : b ≡ a = cc in subst (Least p) same low

  pub least_holds : (a : L) (m : ℕ) → unfinished p st ≡ None → st.ceiling ≡ Met a m → Reachable p a × Least p a
  least_holds a m h e = (ceiling_holds known a m bounds_known e, least_by st.ceiling (under h) a m e)

  pub steps_hold : (side : Side) → StepAccepted p st side ⊎ StepRefused p st side
  steps_hold side = elim (outcome p fair con st good side) [ inl stop ↦ inr (record { ended = unfinished_by stop.0; answer = stop.1 }) | inr t ↦ inl (accepted_by_it t) ]
    where
      accepted_by_it : Took p st good.closings side → StepAccepted p st side
      accepted_by_it t =
          let u = t.front_taken.station in
          record {
            answer = ap (λ x. x.answer) t.is;
            station = u;
            within = t.taken.inside;
            open_still = λ s closed. true≢false (sym closed ∙ was_open p fair con st good side t s);
            takes = record {
              before = λ closed. true≢false (sym closed ∙ was_open p fair con st good side t side);
              after = subst (λ x. Closed x.state side u) (sym t.is) (is_taken p fair con st good side t);
            };
            nothing_else = λ s v takes. only p fair con st good side t s v (subst (λ x. Closed x.state s v) t.is takes.after) takes.before;
          }

-- whatever calls come, the floor does not fall, and the ceiling does not rise
rising_holds : {C L S : Type 0} (p : Problem C L S) (fair : Fair p) (con : Consistent p) (st : State C L S) (good : Good p st) (more : List Call) (last : State C L S) (b d : Bounds L) → Leads p st more last → bounds p st ≡ Ok b → bounds p last ≡ Ok d → AtMost p b.floor d.floor × AtMost p (amount_of d.ceiling) (amount_of b.ceiling)
rising_holds p fair con st good more last b d led at_b at_d =
    let run = through p fair con more st last good led in
    let first = known_by p fair con st good b at_b in
    let then = known_by p fair con last run.good_last d at_d in
    (subst₂ (λ x y. AtMost p x y) (ap (λ x. x.floor) first) (ap (λ x. x.floor) then) run.rises, subst₂ (λ x y. AtMost p x y) (ap (λ x. amount_of x.ceiling) then) (ap (λ x. amount_of x.ceiling) first) run.falls)

pub sound : {C L S : Type 0} (p : Problem C L S) (fair : Fair p) (calls : List Call) (st : State C L S) (own : Own p calls st) → Sound p calls st own
sound p fair calls st own =
    let con = unfit_consistent p fair (length own.sheet) own.accepts in
    let first = begun_good p fair own.sheet (unfit_room p fair (length own.sheet) own.accepts) in
    let run = through p fair con calls (begun p own.sheet) st first own.led in
    let good = run.good_last in
    record {
      answered = (known p fair con st good, bounds_known p fair con st good);
      floor = floor_holds p fair con st good;
      ceiling = ceiling_holds p fair con st good;
      rising = rising_holds p fair con st good;
      none = none_holds p fair con st good;
      least = least_holds p fair con st good;
      none_twice = none_twice p fair con calls (begun p own.sheet) st first own.led;
      counted = omega (arith, run.counts);
      few = good.stands.few;
      steps = steps_hold p fair con st good;
    }

-- One call more ----------------------------------------------------------------------------------

module _ {C L S : Type 0} (p : Problem C L S) where
  leads_more : (cs : List Call) (c : Call) (st last : State C L S) → Leads p st cs last → GoesOn p last c → Leads p st (cs ++ (c ∷ [])) (left p last c)
  leads_more [] c st last led on = (subst (λ x. GoesOn p x c) (sym led) on, ap (λ x. left p x c) led)
  leads_more (d ∷ cs) c st last led on = (led.0, leads_more cs c (left p st d) last led.1 on)

  pub own_more : (calls : List Call) (c : Call) (st : State C L S) → Own p calls st → GoesOn p st c → Own p (calls ++ (c ∷ [])) (left p st c)
  own_more calls c st own on = record { sheet = own.sheet; accepts = own.accepts; led = leads_more calls c (begun p own.sheet) st own.led on }

  -- after one more call the search has its sheet to itself still, and all is as claimed
  pub record StillStands (calls : List Call) (st : State C L S) : Type 0 where
    pub own : Own p calls st
    pub sound : Sound p calls st own

  pub still : Fair p → (calls : List Call) (c : Call) (st : State C L S) → Own p calls st → GoesOn p st c → StillStands (calls ++ (c ∷ [])) (left p st c)
  still fair calls c st own on = let more = own_more calls c st own on in record { own = more; sound = sound p fair (calls ++ (c ∷ [])) (left p st c) more }
