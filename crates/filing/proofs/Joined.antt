-- On every sheet: arrivals that are followed to the end join launcher to trap.
use Rattle.std.proofs.Common.{◌≡◌, ℕ, zero, suc, ◌-◌, ◌<◌, Bool, true, false, cond, not, ◌&&◌, ◌==◌, List, [], ◌∷◌, ◌++◌, length, reverse, Some, None, Option, option_map, option_and_then, refl, sym, subst, length-append, arith}
use Rattle.std.proofs.lemmas.Bool.{and_parts, eqb-true, not-true}
use Rattle.std.proofs.lemmas.List.{length-reverse, reverse-append, reverse-reverse}
use Rattle.std.proofs.lemmas.Option.{none-some}
use Rattle.std.specs.List.{slice_get}
use Rattle.faults.specs.declared.Side.{Side}
use Rattle.faults.specs.declared.Side.TheVariants.{Forward, Backward}
use Rattle.networks.specs.declared.section.Section.{Section}
use Rattle.networks.specs.Nets.{tail, head}
use Rattle.networks.specs.Routes.{Joins, Route}
use Rattle.optimality.specs.declared.sheet.Row.{Row}
use Rattle.optimality.specs.Problems.{Problem, start}
use Rattle.optimality.proofs.Invariant.{Walk}
use Rattle.optimality.proofs.Walks.{walk_append, walk_turned, walk_joins}
use Rattle.filing.specs.Arrivals.{Line, through, arrival_at, before, back_from, followed, ahead_of, line}

module _ {C L S : Type 0} (p : Problem C L S) (rows : List (Row C L S)) (side : Side) where
  -- what is followed is a walk of the side, turned, in fewer steps than the limit
  pub record Back (n u : ℕ) (ks : List ℕ) : Type 0 where
    pub walk : Walk p side (start p.net side) (reverse ks) u
    pub short : length ks < n

  -- one section more
  back_more : (n u v k : ℕ) (js : List ℕ) → Back n v js → before side u (slice_get p.net.sections k) ≡ Some v → Back (suc n) u (k ∷ js)
  back_more n u v k js b e = by (slice_get p.net.sections k) refl e
    where
      by : (o : Option (Section S)) → slice_get p.net.sections k ≡ o → before side u o ≡ Some v → Back (suc n) u (k ∷ js)
      by None is z = absurd (none-some _ z)
      by (Some s) is z = by_test (not s.shut && head side s == u) refl z
        where
          by_test : (t : Bool) → (not s.shut && head side s == u) ≡ t → cond t (Some (tail side s)) None ≡ Some v → Back (suc n) u (k ∷ js)
          by_test false at y = absurd (none-some _ y)
          by_test true at y =
              let parts = and_parts (not s.shut) (head side s == u) at in
              let here : tail side s ≡ v = cc in
              record {
                walk = subst (λ xs. Walk p side (start p.net side) xs u) (sym (reverse-append (k ∷ []) js)) (walk_append p side (start p.net side) v u (reverse js) (k ∷ []) b.walk (s, (is, not-true s.shut parts.0), here, eqb-true (head side s) u parts.1));
                short = omega (arith, b.short);
              }

  pub followed_back : (n u : ℕ) (ks : List ℕ) → followed p.net rows side n u ≡ Some ks → Back n u ks
  followed_back zero u ks e = absurd (none-some _ e)
  followed_back (suc n) u ks e = by_arrival (followed_back n) (arrival_at rows side u) e
    where
      by_rest : ((v : ℕ) (js : List ℕ) → followed p.net rows side n v ≡ Some js → Back n v js) → (k v : ℕ) → before side u (slice_get p.net.sections k) ≡ Some v → (o : Option (List ℕ)) → followed p.net rows side n v ≡ o → option_map (λ js. k ∷ js) o ≡ Some ks → Back (suc n) u ks
      by_rest rec k v on None is z = absurd (none-some _ z)
      by_rest rec k v on (Some js) is z = let same : k ∷ js ≡ ks = cc in subst (Back (suc n) u) same (back_more n u v k js (rec v js is) on)

      by_before : ((v : ℕ) (js : List ℕ) → followed p.net rows side n v ≡ Some js → Back n v js) → (k : ℕ) (o : Option ℕ) → before side u (slice_get p.net.sections k) ≡ o → option_and_then (λ v. option_map (λ js. k ∷ js) (followed p.net rows side n v)) o ≡ Some ks → Back (suc n) u ks
      by_before rec k None is z = absurd (none-some _ z)
      by_before rec k (Some v) is z = by_rest rec k v is (followed p.net rows side n v) refl z

      by_start : (b : Bool) → (u == start p.net side) ≡ b → cond b (Some []) None ≡ Some ks → Back (suc n) u ks
      by_start false is z = absurd (none-some _ z)
      by_start true is z = let same : [] ≡ ks = cc in subst (Back (suc n) u) same (record { walk = sym (eqb-true u (start p.net side) is); short = omega arith })

      by_arrival : ((v : ℕ) (js : List ℕ) → followed p.net rows side n v ≡ Some js → Back n v js) → (a : Option ℕ) → back_from p.net rows side (followed p.net rows side n) u a ≡ Some ks → Back (suc n) u ks
      by_arrival rec None z = by_start (u == start p.net side) refl z
      by_arrival rec (Some k) z = by_before rec k (before side u (slice_get p.net.sections k)) refl z

module _ {C L S : Type 0} (p : Problem C L S) (rows : List (Row C L S)) (meeting : ℕ) where
  -- a line is a route, in fewer steps than stations
  pub record Joined (l : Line) : Type 0 where
    pub route : Route p.net (through l)
    pub few : length (through l) < p.net.stations
    -- whose first half leads to the meeting station
    pub half : Joins p.net p.net.launcher (reverse l.behind) meeting

  joins : (ks js : List ℕ) → Back p rows Forward p.net.stations meeting ks → Back p rows Backward (p.net.stations - length ks) meeting js → Joined (record { behind = ks; ahead = js })
  joins ks js b a =
      let on : Walk p Forward meeting js p.net.trap = subst (λ xs. Walk p Forward meeting xs p.net.trap) (reverse-reverse js) (walk_turned p Backward p.net.trap meeting (reverse js) a.walk) in
      record {
        route = walk_joins p p.net.launcher p.net.trap (reverse ks ++ js) (walk_append p Forward p.net.launcher meeting p.net.trap (reverse ks) js b.walk on);
        few = omega (arith, b.short, a.short, length-append (reverse ks) js, length-reverse ks);
        half = walk_joins p p.net.launcher meeting (reverse ks) b.walk;
      }

  pub line_joined : (l : Line) → line p.net rows meeting ≡ Some l → Joined l
  line_joined l e = by_behind (followed p.net rows Forward p.net.stations meeting) refl e
    where
      by_ahead : (ks : List ℕ) → followed p.net rows Forward p.net.stations meeting ≡ Some ks → (o : Option (List ℕ)) → followed p.net rows Backward (p.net.stations - length ks) meeting ≡ o → option_map (λ js. record { behind = ks; ahead = js }) o ≡ Some l → Joined l
      by_ahead ks is None at z = absurd (none-some _ z)
      by_ahead ks is (Some js) at z =
          let same : record { behind = ks; ahead = js } ≡ l = cc in
          subst Joined same (joins ks js (followed_back p rows Forward p.net.stations meeting ks is) (followed_back p rows Backward (p.net.stations - length ks) meeting js at))

      by_behind : (o : Option (List ℕ)) → followed p.net rows Forward p.net.stations meeting ≡ o → option_and_then (ahead_of p.net rows meeting) o ≡ Some l → Joined l
      by_behind None at z = absurd (none-some _ z)
      by_behind (Some ks) at z = by_ahead ks at (followed p.net rows Backward (p.net.stations - length ks) meeting) refl z
