-- What a search's sheet says of every route's cost.
use Rattle.std.proofs.Common.{◌≡◌, ℕ, ◌<◌, true, false, ◌⊎◌, inl, inr, ⊎_elim, List, [], ◌∷◌, ◌++◌, reverse, length, length-append, Some, Option, sym, refl, ap, ap₂, ◌∙◌, subst, arith}
use Rattle.std.proofs.lemmas.Bool.{cases_Bool}
use Rattle.std.proofs.lemmas.List.{length-reverse}
use Rattle.amounts.specs.Amount.{Le}
use Rattle.faults.specs.Faults.{opposite}
use Rattle.faults.specs.declared.Side.{Side}
use Rattle.faults.specs.declared.Side.TheVariants.{Forward, Backward}
use Rattle.networks.specs.declared.section.Section.{Section}
use Rattle.networks.specs.Nets.{tail, head}
use Rattle.networks.specs.Routes.{Route}
use Rattle.optimality.specs.declared.sheet.Mark.{Mark}
use Rattle.optimality.specs.declared.sheet.Ceiling.{Ceiling}
use Rattle.optimality.specs.declared.sheet.Ceiling.TheVariants.{Absent, Met}
use Rattle.optimality.specs.Sheets.{State}
use Rattle.optimality.specs.Problems.{Problem, Fair, Consistent, Arc, start, route_cost}
use Rattle.optimality.specs.Keys.{twice}
use Rattle.optimality.specs.Search.{mark_at, least_sum, floor, ended}
use Rattle.optimality.proofs.Marked.{Has, OnMet, CeilLe}
use Rattle.optimality.proofs.Having.{has_parts, has_from, on_at}
use Rattle.optimality.proofs.Group.{unit_left, le_add, le_left, le_double}
use Rattle.optimality.proofs.Exact.{keys_at, key_along}
use Rattle.optimality.proofs.Walks.{walk_append, walk_turned, joins_walk, walk_joins, step_cost, cost_append, cost_reverse, chain_walk}
use Rattle.optimality.proofs.Bounds.{Below, Small, below_trans, smaller_left, smaller_right, least_sum_below, ceil_below, below_ceil, ceiling_small}
use Rattle.optimality.proofs.Invariant.{Marks, Walk, key_at, SideStands, Stands, Joint, Meeting}

module _ {C L S : Type 0} (p : Problem C L S) where
  -- a walk of cost c to v comes through an open station, labelled at most what was walked before it
  record Cut (side : Side) (f : Marks L) (c : L) (v : ℕ) : Type 0 where
    station : ℕ
    before : L
    rest : List ℕ
    walk : Walk p side station rest v
    whole : p.kind.ops.plus before (route_cost p rest) ≡ c
    mark : Mark L
    marked : f station ≡ Some mark
    is_open : mark.closed ≡ false
    low : Le p.kind.ops mark.label before

  -- v is labelled at most c
  abbrev Reached : Marks L → L → ℕ → Type 0
  Reached f c v = Has (f v) (λ m. Le p.kind.ops m.label c)

module _ {C L S : Type 0} (p : Problem C L S) (fair : Fair p) where
  infixl 60 ◌⊕◌
  abbrev ◌⊕◌ : L → L → L
  a ⊕ b = p.kind.ops.plus a b

  -- an amount and a walk, with the first section added to the one or the other
  along : (x : L) (k : ℕ) (s : Section S) (ks : List ℕ) → Arc p k s → (x ⊕ p.kind.worth s.amount) ⊕ route_cost p ks ≡ x ⊕ route_cost p (k ∷ ks)
  along x k s ks arc = fair.laws.assoc _ _ _ ∙ ap (p.kind.ops.plus x) (sym (step_cost p k s ks arc))

  module _ (side : Side) (f : Marks L) (n : ℕ) (stands : SideStands p side f n (λ k. ⊥)) where
    -- along an open section from a closed station
    relaxed_to : (k : ℕ) (s : Section S) (m : Mark L) (x : L) → Arc p k s → f (tail side s) ≡ Some m → Le p.kind.ops m.label x → m.closed ≡ true → Reached p f (x ⊕ p.kind.worth s.amount) (head side s)
    relaxed_to k s m x arc is low closed =
        let next = on_at (f (tail side s)) _ m is (stands.relaxed k s arc (λ z. z)) closed in
        let (h, at, most) = has_parts (f (head side s)) _ next in
        has_from (f (head side s)) _ h at (fair.laws.le_trans _ _ _ most (fair.laws.le_plus m.label x (p.kind.worth s.amount) low))

    -- from a station labelled at most x
    walk_cut : (u v : ℕ) (x : L) (ks : List ℕ) → Reached p f x u → Walk p side u ks v → Cut p side f (x ⊕ route_cost p ks) v ⊎ Reached p f (x ⊕ route_cost p ks) v
    walk_cut u v x [] h a = inr (rw (fair.laws.unit x, ← a) h)
    walk_cut u v x (k ∷ ks) h a =
        let (m, is, low) = has_parts (f u) _ h in
        let (s, arc, here, rest) = a in
        elim (cases_Bool m.closed) [
          | inl o ↦
              subst (λ c. Cut p side f c v ⊎ Reached p f c v) (along x k s ks arc)
              (walk_cut (head side s) v (x ⊕ p.kind.worth s.amount) ks (relaxed_to k s m x arc (ap f here ∙ is) low o) rest)
          | inr o ↦ inl (record { station = u; before = x; rest = k ∷ ks; walk = a; whole = refl; mark = m; marked = is; is_open = o; low = low })
        ]

    -- from where the side starts
    start_cut : (v : ℕ) (ks : List ℕ) → Walk p side (start p.net side) ks v → Cut p side f (route_cost p ks) v ⊎ Reached p f (route_cost p ks) v
    start_cut v ks a =
        subst (λ c. Cut p side f c v ⊎ Reached p f c v) (unit_left fair.laws (route_cost p ks)) (walk_cut (start p.net side) v p.kind.ops.zero ks stands.begun a)

  -- the ceiling is at most the sum of bounds on one station's labels
  joint_at : (f w : Marks L) (ceiling : Ceiling L) → Joint p f w ceiling → (v : ℕ) (a b : L) → Reached p f a v → Reached p w b v → CeilLe p.kind.ops ceiling (a ⊕ b)
  joint_at f w ceiling joint v a b h k =
      let (x, e, low) = has_parts (f v) _ h in
      let (y, i, less) = has_parts (w v) _ k in
      raise ceiling (le_add fair.laws x.label a y.label b low less) (on_at (w v) _ y i (on_at (f v) _ x e (joint v)))
    where
      raise : (ceiling : Ceiling L) {x y : L} → Le p.kind.ops x y → CeilLe p.kind.ops ceiling x → CeilLe p.kind.ops ceiling y
      raise Absent h k = absurd k
      raise (Met a m) h k = fair.laws.le_trans _ _ _ k h

  -- keys do not fall along a walk
  walk_keys : Consistent p → (side : Side) (u v : ℕ) (g : L) (ks : List ℕ) → Walk p side u ks v → Le p.kind.ops (key_at p side u g) (key_at p side v (g ⊕ route_cost p ks))
  walk_keys con side u v g [] a = rw (a, fair.laws.unit g) (fair.laws.le_refl _)
  walk_keys con side u v g (k ∷ ks) a =
      let (s, arc, here, rest) = a in
      let first = rw here at (key_along p fair con side k s g arc) in
      rw (← along g k s ks arc) (fair.laws.le_trans _ _ _ first (walk_keys con side (head side s) v (g ⊕ p.kind.worth s.amount) ks rest))

  -- an open station on a walk, and one of the other side on what is left of it: their keys add up to at most twice the
  -- walk's cost
  cut_keys : Consistent p → (side : Side) (f w : Marks L) (c : L) (v : ℕ) (cut : Cut p side f c v) (other : Cut p (opposite side) w (route_cost p cut.rest) cut.station) → Le p.kind.ops (key_at p side cut.station cut.mark.label ⊕ key_at p (opposite side) other.station other.mark.label) (c ⊕ c)
  cut_keys con side f w c v cut other =
      let g = cut.mark.label in
      let h = other.mark.label in
      let b = route_cost p other.rest in
      let up = walk_keys con (opposite side) other.station cut.station h other.rest other.walk in
      let sum : Le p.kind.ops (g ⊕ (h ⊕ b)) c =
      rw (← cut.whole, ← other.whole) (le_add fair.laws _ _ _ _ cut.low (fair.laws.le_plus _ _ b other.low)) in
      fair.laws.le_trans _ _ _ (le_left fair.laws _ _ (key_at p side cut.station g) up)
      (rw (keys_at p fair side cut.station g (h ⊕ b)) (le_double fair.laws _ _ sum))

module _ {C L S : Type 0} (p : Problem C L S) (fair : Fair p) (con : Consistent p) (st : State C L S) (n : Side → ℕ) (stands : Stands p st n) where
  abbrev marks : Side → Marks L
  marks side = mark_at p.kind st.rows side

  -- twice what a route costs
  abbrev twofold : List ℕ → Option L
  twofold ks = Some (p.kind.ops.plus (route_cost p ks) (route_cost p ks))

  -- a walk of the sheet's own side, from its start
  cut_from : (side : Side) (v : ℕ) (ks : List ℕ) → Walk p side (start p.net side) ks v → Cut p side (marks side) (route_cost p ks) v ⊎ Reached p (marks side) (route_cost p ks) v
  cut_from side v ks a = start_cut p fair side (marks side) (n side) (stands.sides side) v ks a

  -- two open stations are on the route, one of each side, or the ceiling is at most its cost
  lower : (ks : List ℕ) → Route p.net ks → Below p (least_sum p st) (twofold ks) ⊎ CeilLe p.kind.ops st.ceiling (route_cost p ks)
  lower ks route = ⊎_elim first (λ h. inr (joined p.net.trap (route_cost p ks) p.kind.ops.zero h (stands.sides Backward).begun (fair.laws.unit _))) (cut_from Forward p.net.trap ks (joins_walk p p.net.launcher p.net.trap ks route))
    where
      joined : (v : ℕ) (a b : L) → Reached p (marks Forward) a v → Reached p (marks Backward) b v → p.kind.ops.plus a b ≡ route_cost p ks → CeilLe p.kind.ops st.ceiling (route_cost p ks)
      joined v a b h k e = rw (← e) (joint_at p fair (marks Forward) (marks Backward) st.ceiling (stands.joint Forward) v a b h k)

      second : (cut : Cut p Forward (marks Forward) (route_cost p ks) p.net.trap) → Cut p Backward (marks Backward) (route_cost p cut.rest) cut.station → Below p (least_sum p st) (twofold ks)
      second cut other =
          least_sum_below p fair st Forward stands.long cut.station other.station cut.mark other.mark _ cut.marked cut.is_open other.marked other.is_open
          (cut_keys p fair con Forward (marks Forward) (marks Backward) (route_cost p ks) p.net.trap cut other)

      first : Cut p Forward (marks Forward) (route_cost p ks) p.net.trap → Below p (least_sum p st) (twofold ks) ⊎ CeilLe p.kind.ops st.ceiling (route_cost p ks)
      first cut =
          let here : Reached p (marks Forward) cut.before cut.station = has_from (marks Forward cut.station) _ cut.mark cut.marked cut.low in
          let back = rw (cost_reverse p fair.laws cut.rest) at (cut_from Backward cut.station (reverse cut.rest) (walk_turned p Forward cut.station p.net.trap cut.rest cut.walk)) in
          ⊎_elim (λ other. inl (second cut other)) (λ h. inr (joined cut.station cut.before (route_cost p cut.rest) here h cut.whole)) back

  -- a small ceiling
  small : Small p st.ceiling
  small = ceiling_small p fair st.rows Forward st.ceiling (stands.meeting Forward)

  -- the floor is at most twice every route's cost
  pub floor_bounds : (ks : List ℕ) → Route p.net ks → Below p (floor p st) (Some (p.kind.ops.plus (route_cost p ks) (route_cost p ks)))
  floor_bounds ks route =
      let least = smaller_left p fair.laws (least_sum p st) (twice p.kind st.ceiling) in
      let top = smaller_right p fair.laws (least_sum p st) (twice p.kind st.ceiling) in
      elim (lower ks route) [
        | inl h ↦ below_trans p fair.laws (floor p st) (least_sum p st) (twofold ks) least h
        | inr h ↦ below_trans p fair.laws (floor p st) (twice p.kind st.ceiling) (twofold ks) top (ceil_below p fair st.ceiling (route_cost p ks) small h)
      ]

  -- once the search is ended the ceiling is at most every route's cost
  pub ended_bounds : ended p st ≡ true → (ks : List ℕ) → Route p.net ks → CeilLe p.kind.ops st.ceiling (route_cost p ks)
  ended_bounds e ks route =
      elim (lower ks route) [
        | inl h ↦ below_ceil p fair st.ceiling (route_cost p ks) small (below_trans p fair.laws (twice p.kind st.ceiling) (least_sum p st) (twofold ks) e h)
        | inr h ↦ h
      ]

  -- where the ceiling stands it is a route's cost
  pub ceiling_route : OnMet st.ceiling (λ a m. (ks : List ℕ) × Route p.net ks × (route_cost p ks ≡ a) × (length ks < p.net.stations))
  ceiling_route = go st.ceiling (stands.meeting Forward)
    where
      go : (ceiling : Ceiling L) → Meeting p (marks Forward) (marks Backward) ceiling → OnMet ceiling (λ a m. (ks : List ℕ) × Route p.net ks × (route_cost p ks ≡ a) × (length ks < p.net.stations))
      go Absent h = tt
      go (Met a m) h =
          let (x, e, has) = has_parts (marks Forward m) _ h in
          let (y, k, is) = has_parts (marks Backward m) _ has in
          let (ks, there, cost, long) = chain_walk p fair.laws Forward (marks Forward) (n Forward) m x.label x.arrival (on_at (marks Forward m) _ x e ((stands.sides Forward).chained m)) in
          let (js, back, rest, more) = chain_walk p fair.laws Backward (marks Backward) (n Backward) m y.label y.arrival (on_at (marks Backward m) _ y k ((stands.sides Backward).chained m)) in (
            ks ++ reverse js,
            walk_joins p p.net.launcher p.net.trap (ks ++ reverse js) (walk_append p Forward p.net.launcher m p.net.trap ks (reverse js) there (walk_turned p Backward p.net.trap m js back)),
            cost_append p fair.laws ks (reverse js) ∙ ap₂ p.kind.ops.plus cost (cost_reverse p fair.laws js ∙ rest) ∙ sym is,
            omega (arith, length-append ks (reverse js), length-reverse js, stands.counted, stands.few),
          )
