-- A search that is not ended: both sides have an open station, and the two that come next are apart.
use Rattle.std.proofs.Common.{◌≡◌, ℕ, ◌+◌, ◌<◌, true, false, true≢false, Some, None, Option, sym, refl, ap, ◌∙◌, subst, arith}
use Rattle.std.proofs.lemmas.Bool.{false_from_ne_true}
use Rattle.amounts.specs.Amount.{Le}
use Rattle.faults.specs.Faults.{opposite}
use Rattle.faults.specs.declared.Side.{Side}
use Rattle.optimality.specs.declared.sheet.Mark.{Mark}
use Rattle.optimality.specs.declared.sheet.Front.{Front}
use Rattle.optimality.specs.Sheets.{is_closed, State}
use Rattle.optimality.specs.Problems.{Problem, Fair}
use Rattle.optimality.specs.Keys.{within, key_sum, twice}
use Rattle.optimality.specs.Search.{mark_at, closing, front, ended}
use Rattle.optimality.proofs.Marked.{Has, CeilLe}
use Rattle.optimality.proofs.Having.{has_parts, on_at}
use Rattle.optimality.proofs.Group.{le_left}
use Rattle.optimality.proofs.Exact.{keys_at}
use Rattle.optimality.proofs.Fronts.{front_stands}
use Rattle.optimality.proofs.Bounds.{below_trans, least_sum_by, least_sum_is, ceil_below, ceiling_small}
use Rattle.optimality.proofs.Invariant.{Marks, key_at, Next, Stands}
use Rattle.optimality.proofs.Sides.{opposite_twice}
use Rattle.optimality.proofs.Putting.{puts_ind, count_short}
use Rattle.optimality.proofs.Closing.{closing_puts, closing_other, closing_long, closing_counted}

-- a mark that is closed is there
closed_has : {L : Type 0} (x : Option (Mark L)) → is_closed x ≡ true → Has x (λ m. m.closed ≡ true)
closed_has None t = true≢false (sym t)
closed_has (Some m) t = t

module _ {C L S : Type 0} (p : Problem C L S) (fair : Fair p) (st : State C L S) (n : Side → ℕ) (stands : Stands p st n) (going : ended p st ≡ false) where
  abbrev marks : Side → Marks L
  marks side = mark_at p.kind st.rows side

  -- each side has a front
  pub has_front : (side : Side) → (r : Front L) × (front p st side ≡ Some r)
  has_front side = go (front p st side) refl
    where
      go : (x : Option (Front L)) → front p st side ≡ x → (r : Front L) × (front p st side ≡ Some r)
      go None e = absurd (true≢false (sym (ap (within p.kind (twice p.kind st.ceiling)) (sym (least_sum_by p fair.laws st side) ∙ ap (λ x. key_sum p.kind x (front p st (opposite side))) e)) ∙ going))
      go (Some r) e = (r, e)

  -- a side's front r, and the other side's q
  module _ (side : Side) (r q : Front L) (here : front p st side ≡ Some r) (there : front p st (opposite side) ≡ Some q) where
    -- each comes next on its side
    abbrev first : Next p side (marks side) r
    first = front_stands p fair st side r stands.long here

    abbrev other : Next p (opposite side) (marks (opposite side)) q
    other = front_stands p fair st (opposite side) q stands.long there

    -- a ceiling at most x, where twice x is at most the two keys, would have ended the search
    over : (x : L) → CeilLe p.kind.ops st.ceiling x → Le p.kind.ops (p.kind.ops.plus x x) (p.kind.ops.plus r.key q.key) → ⊥
    over x h le =
        let top = ceil_below p fair st.ceiling x (ceiling_small p fair st.rows side st.ceiling (stands.meeting side)) h in
        true≢false (sym (rw (least_sum_is p fair st side r q stands.long here there) (below_trans p fair.laws (twice p.kind st.ceiling) (Some (p.kind.ops.plus x x)) (Some (p.kind.ops.plus r.key q.key)) top le)) ∙ going)

    -- the ceiling is at most the front's label and any label of the other side at its station
    with_label : (m : Mark L) → marks (opposite side) r.station ≡ Some m → CeilLe p.kind.ops st.ceiling (p.kind.ops.plus r.label m.label)
    with_label m is = on_at (marks (opposite side) r.station) _ m is (on_at (marks side r.station) _ _ first.marked (stands.joint side r.station))

    -- the front's station is not closed on the other side
    pub fresh : is_closed (marks (opposite side) r.station) ≡ false
    fresh =
        false_from_ne_true _ (λ t.
        let (m, is, closed) = has_parts (marks (opposite side) r.station) _ (closed_has (marks (opposite side) r.station) t) in
        let under = on_at (marks (opposite side) q.station) (λ b. b.closed ≡ false → Le p.kind.ops (key_at p (opposite side) r.station m.label) (key_at p (opposite side) q.station b.label)) _ other.marked (on_at (marks (opposite side) r.station) _ m is ((stands.sides (opposite side)).sorted r.station q.station) closed) refl in
        over (p.kind.ops.plus r.label m.label) (with_label m is)
        (rw (first.its_key, other.its_key, ← keys_at p fair side r.station r.label m.label) (le_left fair.laws _ _ _ under)))

    -- and is not the other side's front
    pub apart : r.station ≡ q.station → ⊥
    apart e =
        over (p.kind.ops.plus r.label q.label) (with_label _ (ap (marks (opposite side)) e ∙ other.marked))
        (rw (first.its_key, other.its_key, ← keys_at p fair side r.station r.label q.label, e) (fair.laws.le_refl _))

  module _ (side : Side) (r q : Front L) (here : front p st side ≡ Some r) (there : front p st (opposite side) ≡ Some q) where
    -- nor is the other side's front closed on this side
    fresh_there : is_closed (marks side q.station) ≡ false
    fresh_there =
        let turned = subst (λ s. front p st s ≡ Some r) (sym (opposite_twice side)) here in
        subst (λ s. is_closed (marks s q.station) ≡ false) (opposite_twice side) (fresh (opposite side) q r there turned)

    -- so that the front can be taken, and a station is left
    pub room : st.taken + 1 < p.net.stations
    room =
        let now = first side r q here there in
        let later = other side r q here there in
        let rows = (closing side r st).rows in
        let long = closing_long p fair st side r stands.long now in
        let one = closing_counted p fair st side r stands.long now (fresh side r q here there) in
        let open_here : is_closed (mark_at p.kind rows side q.station) ≡ false =
        puts_ind (closing_puts p fair st side r stands.long now) q.station (λ m. is_closed m ≡ false) (λ e. absurd (apart side r q here there (sym e))) (λ ne. fresh_there) in
        let open_there : is_closed (mark_at p.kind rows (opposite side) q.station) ≡ false =
        ap is_closed (ap (λ h. h q.station) (closing_other p fair st side r stands.long now) ∙ later.marked) in
        let short = count_short p.kind rows q.station (omega (arith, later.within)) side open_here open_there in
        omega (arith, stands.tallied)
