-- The floor, and whether a search is ended, are what the relations say, on any sheet.
use Rattle.std.proofs.Common.{◌≡◌, ℕ, ◌≤◌, Bool, true, false, true≢false, ◌⊎◌, inl, inr, Some, None, Option, List, refl, sym, ap, ap₂, ◌∙◌, subst, arith}
use Rattle.std.proofs.lemmas.Bool.{cond_both}
use Rattle.std.proofs.lemmas.Option.{none-some}
use Rattle.amounts.specs.Amount.{Laws, Le}
use Rattle.faults.specs.declared.Side.{Side}
use Rattle.faults.specs.declared.Side.TheVariants.{Forward, Backward}
use Rattle.optimality.specs.declared.sheet.Mark.{Mark}
use Rattle.optimality.specs.declared.sheet.Row.{Row}
use Rattle.optimality.specs.declared.sheet.Front.{Front}
use Rattle.optimality.specs.declared.sheet.Ceiling.{Ceiling}
use Rattle.optimality.specs.declared.sheet.Ceiling.TheVariants.{Absent, Met}
use Rattle.optimality.specs.Sheets.{State}
use Rattle.optimality.specs.Problems.{Problem}
use Rattle.optimality.specs.Keys.{opened_mark, computed_sum, within, key_sum, twice}
use Rattle.optimality.specs.Search.{mark_at, front, least_sum, floor, ended}
use Rattle.optimality.specs.Published.{amount_of, IsNext}
use Rattle.optimality.specs.Bounded.{LeastKey, LeastKeys, LeastSum, IsFloor, IsEnded, IsGoingOn}
use Rattle.optimality.proofs.Having.{on_at}
use Rattle.optimality.proofs.Fronts.{front_next, front_none}
use Rattle.optimality.proofs.Bounds.{smaller_left, smaller_right}

module _ {C L S : Type 0} (p : Problem C L S) (laws : Laws p.kind.ops) where
  -- one station comes next
  pub next_only : (rows : List (Row C L S)) (side : Side) (f g : Front L) → IsNext p rows side f → IsNext p rows side g → f ≡ g
  next_only rows side f g a b =
      let below : Le p.kind.ops f.key g.key = subst (Le p.kind.ops f.key) (sym b.its_key) (a.least g.station (opened_mark g.label g.arrival) b.within b.marked refl) in
      let above : Le p.kind.ops g.key f.key = subst (Le p.kind.ops g.key) (sym a.its_key) (b.least f.station (opened_mark f.label f.arrival) a.within a.marked refl) in
      let keys : f.key ≡ g.key = laws.le_anti f.key g.key below above in
      let near : f.station ≤ g.station = a.lowest g.station (opened_mark g.label g.arrival) b.within b.marked refl (sym b.its_key ∙ sym keys) in
      let far : g.station ≤ f.station = b.lowest f.station (opened_mark f.label f.arrival) a.within a.marked refl (sym a.its_key ∙ keys) in
      let at : f.station ≡ g.station = omega arith in
      let marks : opened_mark f.label f.arrival ≡ opened_mark g.label g.arrival = some_same (sym a.marked ∙ ap (mark_at p.kind rows side) at ∙ b.marked) in
      front_same f g at keys (ap (λ m. m.label) marks) (ap (λ m. m.arrival) marks)
    where
      some_same : {m w : Mark L} → ◌≡◌ {A = Option (Mark L)} (Some m) (Some w) → m ≡ w
      some_same e = cc

      front_same : (f g : Front L) → f.station ≡ g.station → f.key ≡ g.key → f.label ≡ g.label → f.arrival ≡ g.arrival → f ≡ g
      front_same f g a b c d =
          let first : f ≡ record { station = g.station; key = g.key; label = f.label; arrival = f.arrival } = ap₂ (λ x y. record { station = x; key = y; label = f.label; arrival = f.arrival }) a b in
          first ∙ ap₂ (λ x y. record { station = g.station; key = g.key; label = x; arrival = y }) c d

module _ {C L S : Type 0} (p : Problem C L S) (laws : Laws p.kind.ops) (st : State C L S) where
  abbrev next_key : Option (Front L) → Option L
  next_key None = None
  next_key (Some f) = Some f.key

  -- the front's key is the least
  least_key : (side : Side) (x : Option (Front L)) → front p st side ≡ x → LeastKey p st side (next_key x)
  least_key side None e = λ v m lt is. on_at (mark_at p.kind st.rows side v) _ m is (front_none p laws st side e v lt)
  least_key side (Some f) e = (f, front_next p laws st side f e, refl)

  -- the station that comes next is the front
  pub front_is : (side : Side) (f : Front L) → IsNext p st.rows side f → front p st side ≡ Some f
  front_is side f next = go (front p st side) refl
    where
      go : (x : Option (Front L)) → front p st side ≡ x → x ≡ Some f
      go None e = absurd (true≢false (sym (least_key side None e f.station (opened_mark f.label f.arrival) next.within next.marked)))
      go (Some g) e = ap Some (next_only p laws st.rows side g f (front_next p laws st side g e) next)

  -- and where none is open there is no front
  no_front : (side : Side) → LeastKey p st side None → front p st side ≡ None
  no_front side none = go (front p st side) refl
    where
      go : (x : Option (Front L)) → front p st side ≡ x → x ≡ None
      go None e = refl
      go (Some g) e = let next = front_next p laws st side g e in absurd (true≢false (sym (none g.station (opened_mark g.label g.arrival) next.within next.marked)))

  -- The floor ----------------------------------------------------------------------------------

  sums_up : (x y : Option (Front L)) → front p st Forward ≡ x → front p st Backward ≡ y → LeastSum p st (key_sum p.kind x y)
  sums_up None y e k = (Forward, least_key Forward None e)
  sums_up (Some a) None e k = (Backward, least_key Backward None k)
  sums_up (Some a) (Some b) e k = (a.key, b.key, (least_key Forward (Some a) e, least_key Backward (Some b) k), refl)

  pub is_floor : IsFloor p st (floor p st)
  is_floor =
      record {
        sum = least_sum p st;
        adds_up = sums_up (front p st Forward) (front p st Backward) refl refl;
        at_most_sum = smaller_left p laws (least_sum p st) (twice p.kind st.ceiling);
        at_most_twice = smaller_right p laws (least_sum p st) (twice p.kind st.ceiling);
        one_of_both = cond_both (within p.kind (least_sum p st) (twice p.kind st.ceiling)) (least_sum p st) (twice p.kind st.ceiling) (λ x. (x ≡ least_sum p st) ⊎ (x ≡ twice p.kind st.ceiling)) (λ e. inl refl) (λ e. inr refl);
      }

  -- Ended, or going on -------------------------------------------------------------------------

  abbrev Tells : Bool → Type 0
  Tells true = IsEnded p st
  Tells false = IsGoingOn p st

  same_amount : (a b : L) (m n : ℕ) → ◌≡◌ {A = Ceiling L} (Met a m) (Met b n) → a ≡ b
  same_amount a b m n e = cc

  told : (x y : Option (Front L)) (z : Ceiling L) → front p st Forward ≡ x → front p st Backward ≡ y → st.ceiling ≡ z → (t : Bool) → within p.kind (twice p.kind z) (key_sum p.kind x y) ≡ t → Tells t
  told None y z e k q true h = inl (Forward, least_key Forward None e)
  told None y z e k q false h = absurd (true≢false h)
  told (Some f) None z e k q true h = inl (Backward, least_key Backward None k)
  told (Some f) None z e k q false h = absurd (true≢false h)
  told (Some f) (Some g) Absent e k q true h = absurd (true≢false (sym h))
  told (Some f) (Some g) Absent e k q false h =
      record { forward_key = f.key; backward_key = g.key; keys = (least_key Forward (Some f) e, least_key Backward (Some g) k); less = λ a m is. absurd (none-some a (ap amount_of (sym q ∙ is))) }
  told (Some f) (Some g) (Met a m) e k q true h =
      inr (record { forward_key = f.key; backward_key = g.key; keys = (least_key Forward (Some f) e, least_key Backward (Some g) k); amount = a; station = m; ceiling = q; at_least = h })
  told (Some f) (Some g) (Met a m) e k q false h =
      record {
        forward_key = f.key;
        backward_key = g.key;
        keys = (least_key Forward (Some f) e, least_key Backward (Some g) k);
        less = λ b n is le. true≢false (sym (subst (λ x. Le p.kind.ops (computed_sum p.kind x x) (computed_sum p.kind f.key g.key)) (same_amount b a n m (sym is ∙ q)) le) ∙ h);
      }

  -- what is found to be ended is ended
  pub is_ended : ended p st ≡ true → IsEnded p st
  is_ended h = told (front p st Forward) (front p st Backward) st.ceiling refl refl refl true h

  -- and what is not goes on
  pub is_going_on : ended p st ≡ false → IsGoingOn p st
  is_going_on h = told (front p st Forward) (front p st Backward) st.ceiling refl refl refl false h

  no_sum : (x : Option (Front L)) → key_sum p.kind x None ≡ None
  no_sum None = refl
  no_sum (Some f) = refl

  -- the least keys add up to what is computed of the fronts
  sum_at : (a b : L) → LeastKeys p st a b → least_sum p st ≡ Some (computed_sum p.kind a b)
  sum_at a b keys =
      let (f, next_f, at_f) = keys.0 in
      let (g, next_g, at_g) = keys.1 in
      ap₂ (key_sum p.kind) (front_is Forward f next_f) (front_is Backward g next_g) ∙ ap₂ (λ x y. Some (computed_sum p.kind x y)) (sym at_f) (sym at_g)

  found_by : (a b : L) (z : Ceiling L) → LeastKeys p st a b → st.ceiling ≡ z → ended p st ≡ within p.kind (twice p.kind z) (Some (computed_sum p.kind a b))
  found_by a b z keys is = ap₂ (within p.kind) (ap (twice p.kind) is) (sum_at a b keys)

  -- an ended search is found to be
  pub ended_found : IsEnded p st → ended p st ≡ true
  ended_found (inl (Forward, none)) = ap (λ x. within p.kind (twice p.kind st.ceiling) (key_sum p.kind x (front p st Backward))) (no_front Forward none)
  ended_found (inl (Backward, none)) = ap (λ x. within p.kind (twice p.kind st.ceiling) x) (ap (key_sum p.kind (front p st Forward)) (no_front Backward none) ∙ no_sum (front p st Forward))
  ended_found (inr meet) = found_by meet.forward_key meet.backward_key (Met meet.amount meet.station) meet.keys meet.ceiling ∙ meet.at_least

  -- and no search is both
  pub not_both : IsGoingOn p st → ended p st ≡ true → ⊥
  not_both on h = go st.ceiling refl
    where
      go : (z : Ceiling L) → st.ceiling ≡ z → ⊥
      go Absent is = true≢false (sym h ∙ found_by on.forward_key on.backward_key Absent on.keys is)
      go (Met a m) is = on.less a m is (sym (found_by on.forward_key on.backward_key (Met a m) on.keys is) ∙ h)
