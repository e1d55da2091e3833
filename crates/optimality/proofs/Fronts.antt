-- Which station comes next: what the scan over a side's marks finds.
use Rattle.std.proofs.Common.{◌≡◌, ℕ, zero, suc, ◌^◌, ◌<◌, ◌≤◌, Bool, true, false, true≢false, cond, List, length, Some, None, Option, sym, refl, ap, ◌∙◌, ltb-true, le_trans, below_more, lt_of_not-le, arith}
use Rattle.std.proofs.lemmas.Bool.{cond_both, true_from_ne_false}
use Rattle.std.proofs.lemmas.Option.{none-some, slice_get_past}
use Rattle.std.specs.List.{slice_get}
use Rattle.std.specs.Option.{option_map}
use Rattle.amounts.specs.Amount.{Laws, Le}
use Rattle.amounts.specs.declared.cost.Cost as cost
use Rattle.faults.specs.declared.Side.{Side}
use Rattle.networks.specs.declared.estimates.Pair.{Pair}
use Rattle.optimality.specs.declared.sheet.Mark.{Mark}
use Rattle.optimality.specs.declared.sheet.Row.{Row}
use Rattle.optimality.specs.declared.sheet.Front.{Front}
use Rattle.optimality.specs.Sheets.{State}
use Rattle.optimality.specs.Problems.{Problem, Fair}
use Rattle.optimality.specs.Keys.{opened_mark, fits_row, seen, key, front_of, nearer}
use Rattle.optimality.specs.Search.{mark_in, mark_at, least, front}
use Rattle.optimality.specs.Published.{IsNext}
use Rattle.optimality.proofs.Marked.{On}
use Rattle.optimality.proofs.Having.{on_at, on_from}
use Rattle.optimality.proofs.Group.{le_of_eq, le_of_not}
use Rattle.optimality.proofs.Exact.{key_is}
use Rattle.optimality.proofs.Invariant.{Next, key_at}

module _ {C L S : Type 0} (c : cost.Ghosts C L S) (laws : Laws c.ops) where
  -- What is read -------------------------------------------------------------------------------

  -- a mark that is read has a small label
  seen_size : (m : Mark L) → c.ops.size (seen c m).label < 2 ^ 44
  seen_size m =
      cond_both (fits_row c m.label) m.label c.ops.zero (λ x. c.ops.size x < 2 ^ 44) (λ e. ltb-true _ _ e) (λ e. omega (arith, laws.size_zero))

  -- and so where there may be none
  seen_within : (x : Option (Mark L)) → On (option_map (seen c) x) (λ m. c.ops.size m.label < 2 ^ 44)
  seen_within None = tt
  seen_within (Some m) = seen_size m

  -- a label that is read is small
  pub seen_small : (rows : List (Row C L S)) (side : Side) (u : ℕ) → On (mark_at c rows side u) (λ m. c.ops.size m.label < 2 ^ 44)
  seen_small rows side u = seen_within (mark_in side (slice_get rows u))

-- Which front comes first ------------------------------------------------------------------------

-- what holds up to n, and of n
up_to : (P : ℕ → Type 0) (n : ℕ) → ((v : ℕ) → v < n → P v) → P n → (v : ℕ) → v < suc n → P v
up_to P n old new v lt = below_more P n old new v (omega arith)

module _ {C L S : Type 0} (c : cost.Ghosts C L S) where
  -- of smaller key, or of the same key and at a station of no higher number
  abbrev Before : Front L → Front L → Type 0
  Before f g = Le c.ops f.key g.key × (f.key ≡ g.key → f.station ≤ g.station)

  -- the first front of those at the stations below n, each as `at` has it
  abbrev First : (ℕ → Option (Front L)) → ℕ → Option (Front L) → Type 0
  First at n None = (v : ℕ) → v < n → at v ≡ None
  First at n (Some f) = (f.station < n) × (at f.station ≡ Some f) × ((v : ℕ) → v < n → On (at v) (Before f))

module _ {C L S : Type 0} (c : cost.Ghosts C L S) (laws : Laws c.ops) where
  -- what comes before the one before
  before_trans : (f g h : Front L) → Before c f g → Before c g h → Before c f h
  before_trans f g h a b =
      (laws.le_trans f.key g.key h.key a.0 b.0, later)
    where
      later : f.key ≡ h.key → f.station ≤ h.station
      later e =
          let same : f.key ≡ g.key = laws.le_anti f.key g.key a.0 (rw e b.0) in
          le_trans (a.1 same) (b.1 (sym same ∙ e))

  module _ (at : ℕ → Option (Front L)) (place : (v : ℕ) → On (at v) (λ f. f.station ≡ v)) where
    -- the next station has none
    first_past : (n : ℕ) (r : Option (Front L)) → at n ≡ None → First c at n r → First c at (suc n) r
    first_past n None e h = up_to (λ v. at v ≡ None) n h e
    first_past n (Some f) e h = (omega arith, h.1, up_to (λ v. On (at v) (Before c f)) n h.2 (rw e tt))

    -- the next station's comes first
    first_new : (n : ℕ) (f : Front L) → at n ≡ Some f → ((v : ℕ) → v < n → On (at v) (Before c f)) → First c at (suc n) (Some f)
    first_new n f e h =
        let here : f.station ≡ n = on_at (at n) _ f e (place n) in
        (omega arith, ap at here ∙ e, up_to (λ v. On (at v) (Before c f)) n h (rw e (laws.le_refl f.key, λ k. omega arith)))

    -- the next station's is b, and the first one so far a
    first_both : (n : ℕ) (a b : Front L) → at n ≡ Some b → First c at n (Some a) → (t : Bool) → c.ops.leb a.key b.key ≡ t → First c at (suc n) (cond t (Some a) (Some b))
    first_both n a b e h true k =
        let here : b.station ≡ n = on_at (at n) _ b e (place n) in
        (omega arith, h.1, up_to (λ v. On (at v) (Before c a)) n h.2 (rw e (k, λ q. omega arith)))
    first_both n a b e h false k =
        let sooner : Before c b a = (le_of_not laws a.key b.key k, λ q. absurd (true≢false (sym (le_of_eq laws a.key b.key (sym q)) ∙ k))) in
        first_new n b e (λ v lt. on_from (at v) _ (λ g is. before_trans b a g sooner (on_at (at v) _ g is (h.2 v lt))))

    -- the first front so far, and the next station's
    first_step : (n : ℕ) (r x : Option (Front L)) → at n ≡ x → First c at n r → First c at (suc n) (nearer c r x)
    first_step n None None e h = first_past n None e h
    first_step n (Some a) None e h = first_past n (Some a) e h
    first_step n None (Some b) e h = first_new n b e (λ v lt. rw (h v lt) tt)
    first_step n (Some a) (Some b) e h = first_both n a b e h (c.ops.leb a.key b.key) refl

-- A scan over marks -----------------------------------------------------------------------------

module _ {C L S : Type 0} (c : cost.Ghosts C L S) (estimates : List (Pair L)) (side : Side) where
  -- an open station's front
  abbrev front_at : ℕ → Mark L → Front L
  front_at u m = record { station = u; key = key c estimates side u m.label; label = m.label; arrival = m.arrival }

  -- an open mark has a front
  front_open : (u : ℕ) (m : Mark L) → m.closed ≡ false → front_of c estimates side u (Some m) ≡ Some (front_at u m)
  front_open u m e = rw e

  -- a front is of its own station
  front_place : (u : ℕ) (x : Option (Mark L)) → On (front_of c estimates side u x) (λ f. f.station ≡ u)
  front_place u None = tt
  front_place u (Some m) = cond_both m.closed None (Some (front_at u m)) (λ r. On r (λ f. f.station ≡ u)) (λ e. tt) (λ e. refl)

  -- a front is of an open mark
  abbrev Opens : ℕ → Option (Mark L) → Front L → Type 0
  Opens u x f = (x ≡ Some (opened_mark f.label f.arrival)) × (f.key ≡ key c estimates side u f.label)

  front_opens : (u : ℕ) (x : Option (Mark L)) → On (front_of c estimates side u x) (Opens u x)
  front_opens u None = tt
  front_opens u (Some m) = cond_both m.closed None (Some (front_at u m)) (λ r. On r (Opens u (Some m))) (λ e. tt) (λ e. (ap (λ b. Some (record m { closed = b })) e, refl))

  -- and where there is none no mark is open
  front_closed : (u : ℕ) (x : Option (Mark L)) → front_of c estimates side u x ≡ None → On x (λ m. m.closed ≡ true)
  front_closed u None e = tt
  front_closed u (Some m) e = true_from_ne_false m.closed (λ k. none-some _ (sym e ∙ front_open u m k))

module _ {C L S : Type 0} (p : Problem C L S) (laws : Laws p.kind.ops) (st : State C L S) (side : Side) where
  abbrev at : ℕ → Option (Front L)
  at v = front_of p.kind p.estimates side v (mark_at p.kind st.rows side v)

  -- the scan finds the first front
  first_of_scan : (n : ℕ) → First p.kind at n (least p.kind p.estimates st.rows side n)
  first_of_scan zero = λ v lt. absurd (omega arith)
  first_of_scan (suc n) =
      first_step p.kind laws at (λ v. front_place p.kind p.estimates side v (mark_at p.kind st.rows side v)) n (least p.kind p.estimates st.rows side n) (at n) refl (first_of_scan n)

  -- a side's first front is the station that comes next
  pub front_next : (f : Front L) → front p st side ≡ Some f → IsNext p st.rows side f
  front_next f e =
      let (below, here, first) = rw e at (first_of_scan p.net.stations) in
      let opens = on_at (at f.station) _ f here (front_opens p.kind p.estimates side f.station (mark_at p.kind st.rows side f.station)) in
      let before : (v : ℕ) (m : Mark L) → v < p.net.stations → mark_at p.kind st.rows side v ≡ Some m → m.closed ≡ false → Before p.kind f (front_at p.kind p.estimates side v m) =
      λ v m lt is o. on_at (at v) _ _ (ap (front_of p.kind p.estimates side v) is ∙ front_open p.kind p.estimates side v m o) (first v lt) in
      record {
        within = below;
        marked = opens.0;
        its_key = opens.1;
        least = λ v m lt is o. (before v m lt is o).0;
        lowest = λ v m lt is o same. (before v m lt is o).1 (sym same);
      }

  -- without a front no station is open
  pub front_none : front p st side ≡ None → (v : ℕ) → v < p.net.stations → On (mark_at p.kind st.rows side v) (λ m. m.closed ≡ true)
  front_none e v lt =
      let none = rw e at (first_of_scan p.net.stations) in
      front_closed p.kind p.estimates side v (mark_at p.kind st.rows side v) (none v lt)

module _ {C L S : Type 0} (p : Problem C L S) (fair : Fair p) (st : State C L S) (side : Side) where
  -- where there is no row there is no mark
  no_row : (x : Option (Row C L S)) → x ≡ None → option_map (seen p.kind) (mark_in side x) ≡ None
  no_row x e = rw e

  -- what is marked is a station
  pub marked_within : length st.rows ≡ p.net.stations → (v : ℕ) (m : Mark L) → mark_at p.kind st.rows side v ≡ Some m → v < p.net.stations
  marked_within long v m is =
      lt_of_not-le (λ h. none-some m (sym (no_row (slice_get st.rows v) (slice_get_past st.rows v (omega arith))) ∙ is))

  -- a marked station's key is exact
  pub key_exact : (v : ℕ) (m : Mark L) → mark_at p.kind st.rows side v ≡ Some m → key p.kind p.estimates side v m.label ≡ key_at p side v m.label
  key_exact v m is = key_is p fair side v m.label (on_at (mark_at p.kind st.rows side v) _ m is (seen_small p.kind fair.laws st.rows side v))

  -- the first front's key is the least of all
  pub front_stands : (r : Front L) → length st.rows ≡ p.net.stations → front p st side ≡ Some r → Next p side (mark_at p.kind st.rows side) r
  front_stands r long e =
      let next = front_next p fair.laws st side r e in
      record {
        within = next.within;
        marked = next.marked;
        its_key = next.its_key ∙ key_exact r.station _ next.marked;
        least = λ v. on_from (mark_at p.kind st.rows side v) _ (λ m is o. rw (key_exact v m is) at (next.least v m (marked_within long v m is) is o));
      }

  -- where a station is open there is a front, of at most its key
  pub front_there : length st.rows ≡ p.net.stations → (v : ℕ) (m : Mark L) → mark_at p.kind st.rows side v ≡ Some m → m.closed ≡ false → (r : Front L) × (front p st side ≡ Some r) × Le p.kind.ops r.key (key_at p side v m.label)
  front_there long v m is o = go (front p st side) refl
    where
      go : (x : Option (Front L)) → front p st side ≡ x → (r : Front L) × (front p st side ≡ Some r) × Le p.kind.ops r.key (key_at p side v m.label)
      go None e = absurd (true≢false (sym (on_at (mark_at p.kind st.rows side v) _ m is (front_none p fair.laws st side e v (marked_within long v m is))) ∙ o))
      go (Some r) e = (r, e, on_at (mark_at p.kind st.rows side v) _ m is ((front_stands r long e).least v) o)
