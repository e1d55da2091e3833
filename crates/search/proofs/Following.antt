-- A station's mark, followed through the sections of the station that is taken, before anything is written.
use Rattle.std.proofs.Common.{◌≡◌, ℕ, zero, suc, ◌+◌, ◌^◌, ◌<◌, ◌≤◌, Bool, true, false, cond, not, ◌&&◌, ◌||◌, List, [], ◌∷◌, length, take, drop, is_some, Some, None, Option, option_and_then, ◌==◌, inl, inr, refl, sym, ap, ◌∙◌, add-one, arith, true≢false}
use Rattle.std.proofs.lemmas.List.{take_all}
use Rattle.std.proofs.lemmas.Bool.{cases_eq, ltb-true, ne_eqb, eqb-false}
use Rattle.std.proofs.lemmas.Bool.Decides.{eqb_tells}
use Rattle.std.proofs.lemmas.Option.{none-some}
use Rattle.std.specs.List.{slice_get}
use Rattle.amounts.specs.declared.cost.Cost as cost
use Rattle.faults.specs.Faults.{opposite}
use Rattle.faults.specs.declared.Side.{Side}
use Rattle.networks.specs.declared.section.Section.{Section}
use Rattle.networks.specs.Nets.{Net, starters, head}
use Rattle.networks.proofs.Numbers.{past_nth}
use Rattle.optimality.specs.declared.sheet.Mark.{Mark}
use Rattle.optimality.specs.declared.sheet.Front.{Front}
use Rattle.optimality.specs.Sheets.{State, put}
use Rattle.optimality.specs.Keys.{opened_mark, at_most, fits_row, improves, met}
use Rattle.optimality.specs.Search.{Spread, mark_at, along, spread, closing}
use Rattle.optimality.proofs.Putting.{Puts, puts_ind, put_puts, length-put}
use Rattle.search.specs.Replay.{candidate, mark_by, mark_after, large_at}
use Rattle.search.proofs.Spreads.{next, next_left, over_all, over_none}

module _ {C L S : Type 0} (c : cost.Ghosts C L S) (side : Side) (label : L) (net : Net S) (v : ℕ) where
  abbrev by : ℕ → Option (Mark L) → Option (Mark L)
  by k m = mark_by c side label v k (slice_get net.sections k) m

  more : (ks : List ℕ) (i k : ℕ) (m : Option (Mark L)) → Some k ≡ slice_get ks i → by k (mark_after c side label net v (take i ks) m) ≡ mark_after c side label net v (take (suc i) ks) m
  more [] i k m e = absurd (none-some _ (sym e))
  more (j ∷ ks) zero k m e = let same : k ≡ j = cc in ap (λ n. by n m) same
  more (j ∷ ks) (suc i) k m e = more ks i k (by j m) e

  -- one section more
  pub mark_next : (ks : List ℕ) (i k : ℕ) (m : Option (Mark L)) → Some k ≡ slice_get ks i → mark_by c side label v k (slice_get net.sections k) (mark_after c side label net v (take i ks) m) ≡ mark_after c side label net v (take (i + 1) ks) m
  mark_next ks i k m e = more ks i k m e ∙ ap (λ n. mark_after c side label net v (take n ks) m) (sym (add-one i))

  -- no section is left
  pub mark_last : (ks : List ℕ) (i n : ℕ) (m : Option (Mark L)) → None ≡ slice_get ks i → i ≤ n → mark_after c side label net v (take i ks) m ≡ mark_after c side label net v (take n ks) m
  mark_last ks i n m e h = ap (λ l. mark_after c side label net v l m) (take_all i ks (past_nth ks i e) ∙ sym (take_all n ks (omega (arith, past_nth ks i e))))

equal : (m n : ℕ) → m ≡ n → (m == n) ≡ true
equal m n e = elim (eqb_tells m n) [ inl t ↦ t.0 | inr f ↦ absurd (f.1 e) ]

and_no : (b : Bool) → (b && false) ≡ false
and_no true = refl
and_no false = refl

-- Going along one section ------------------------------------------------------------------------

module _ {C L S : Type 0} (c : cost.Ghosts C L S) (side : Side) (label : L) (k : ℕ) (s : Section S) (sp : Spread C L S) where
  abbrev there : Option (Mark L)
  there = mark_at c sp.rows side (head side s)

  -- a label that a row does not hold would be written
  abbrev pub Large : Type 0
  Large = (s.shut ≡ false) × (improves c (candidate c side label s) there ≡ true) × (fits_row c (candidate c side label s) ≡ false)

  -- it goes through, and a station's mark is what is worked out without writing
  pub record Gone : Type 0 where
    pub so_far : Spread C L S
    pub is : along c side label k (Some s) sp ≡ Some so_far
    pub long : length so_far.rows ≡ length sp.rows
    pub marks : (v : ℕ) → mark_at c so_far.rows side v ≡ mark_by c side label v k (Some s) (mark_at c sp.rows side v)

  abbrev a : L
  a = candidate c side label s

  abbrev written : Spread C L S
  written = record { rows = put sp.rows side (head side s) (opened_mark a (Some k)); ceiling = met c a (head side s) (mark_at c sp.rows (opposite side) (head side s)) sp.ceiling }

  -- what going along gives, by its three tests
  abbrev gives : Bool → Bool → Bool → Option (Spread C L S)
  gives shut better fits = cond shut (Some sp) (cond better (cond fits (Some written) None) (Some sp))

  gives_at : (x y z : Bool) → s.shut ≡ x → improves c a there ≡ y → fits_row c a ≡ z → along c side label k (Some s) sp ≡ gives x y z
  gives_at x y z e q r = ap (λ b. gives b (improves c a there) (fits_row c a)) e ∙ ap (λ b. gives x b (fits_row c a)) q ∙ ap (gives x y) r

  -- and what is worked out of a mark
  abbrev test : ℕ → Bool
  test v = not s.shut && (head side s == v && improves c a (mark_at c sp.rows side v))

  by_test : (v : ℕ) (b : Bool) → test v ≡ b → mark_by c side label v k (Some s) (mark_at c sp.rows side v) ≡ cond b (Some (opened_mark a (Some k))) (mark_at c sp.rows side v)
  by_test v b e = ap (λ t. cond t (Some (opened_mark a (Some k))) (mark_at c sp.rows side v)) e

  test_shut : s.shut ≡ true → (v : ℕ) → test v ≡ false
  test_shut e v = ap (λ b. not b && (head side s == v && improves c a (mark_at c sp.rows side v))) e

  test_same : s.shut ≡ false → (v : ℕ) → v ≡ head side s → (b : Bool) → improves c a there ≡ b → test v ≡ b
  test_same e v at b q = ap (λ x. not x && (head side s == v && improves c a (mark_at c sp.rows side v))) e ∙ ap (λ y. y && improves c a (mark_at c sp.rows side v)) (equal (head side s) v (sym at)) ∙ ap (λ w. improves c a (mark_at c sp.rows side w)) at ∙ q

  test_other : (v : ℕ) → (v ≡ head side s → ⊥) → test v ≡ false
  test_other v ne = ap (λ y. not s.shut && (y && improves c a (mark_at c sp.rows side v))) (ne_eqb _ _ (λ e. ne (sym e))) ∙ and_no (not s.shut)

  -- nothing is written
  stays : along c side label k (Some s) sp ≡ Some sp → ((v : ℕ) → test v ≡ false) → Gone
  stays e none = record { so_far = sp; is = e; long = refl; marks = λ v. sym (by_test v false (none v)) }

  pub goes : head side s < length sp.rows → (Large → ⊥) → Gone
  goes inside fine = on_shut s.shut refl
    where
      on_fits : s.shut ≡ false → improves c a there ≡ true → (b : Bool) → fits_row c a ≡ b → Gone
      on_fits e q false r = absurd (fine (e, q, r))
      on_fits e q true r =
          let puts = put_puts c sp.rows (head side s) inside side (opened_mark a (Some k)) (ltb-true _ _ r) in
          record {
            so_far = written;
            is = gives_at false true true e q r;
            long = length-put sp.rows side (head side s) _;
            marks = λ v.
                puts_ind puts v (λ m. m ≡ mark_by c side label v k (Some s) (mark_at c sp.rows side v))
                (λ at. sym (by_test v true (test_same e v at true q)))
                (λ ne. sym (by_test v false (test_other v ne)));
          }

      on_better : s.shut ≡ false → (b : Bool) → improves c a there ≡ b → Gone
      on_better e false q = stays (gives_at false false (fits_row c a) e q refl) (λ v. elim (cases_eq v (head side s)) [ inl at ↦ test_same e v at false q | inr ne ↦ test_other v ne ])
      on_better e true q = on_fits e q (fits_row c a) refl

      on_shut : (b : Bool) → s.shut ≡ b → Gone
      on_shut true e = stays (gives_at true (improves c a there) (fits_row c a) e refl refl) (test_shut e)
      on_shut false e = on_better e (improves c a there) refl

  pub goes_not : Large → along c side label k (Some s) sp ≡ None
  goes_not large = gives_at false true false large.0 large.1 large.2

abbrev asks : Bool → Bool → Bool → Bool → Bool
asks shut fits taken better = cond (shut || fits) false (cond taken false better)

asks_true : (x y z w : Bool) → asks x y z w ≡ true → (x ≡ false) × (y ≡ false) × (z ≡ false) × (w ≡ true)
asks_true true y z w h = absurd (true≢false (sym h))
asks_true false true z w h = absurd (true≢false (sym h))
asks_true false false true w h = absurd (true≢false (sym h))
asks_true false false false w h = (refl, refl, refl, h)

-- All of a station's sections --------------------------------------------------------------------

module _ {C L S : Type 0} (c : cost.Ghosts C L S) (side : Side) (net : Net S) (f : Front L) (st : State C L S) where
  abbrev ks : List ℕ
  ks = starters side net f.station

  abbrev first : Spread C L S
  first = closing side f st

  -- the rows as they would be after j sections, and what is left to do
  pub record Followed (j : ℕ) : Type 0 where
    pub so_far : Spread C L S
    pub long : length so_far.rows ≡ length st.rows
    pub left : spread c net side f.label (drop j ks) so_far ≡ spread c net side f.label ks first
    pub marks : (v : ℕ) → mark_at c so_far.rows side v ≡ mark_after c side f.label net v (take j ks) (mark_at c first.rows side v)

  pub followed_none : Followed 0
  followed_none = record { so_far = first; long = length-put st.rows side f.station _; left = refl; marks = λ v. refl }

  -- a closed mark stays
  by_stays : (v k : ℕ) (s : Option (Section S)) (m : Mark L) → m.closed ≡ true → mark_by c side f.label v k s (Some m) ≡ Some m
  by_stays v k None m h = refl
  by_stays v k (Some s) m h =
      let new = Some (opened_mark (candidate c side f.label s) (Some k)) in
      ap (λ b. cond (not s.shut && (head side s == v && (not b && not (at_most c m.label (candidate c side f.label s))))) new (Some m)) h
      ∙ ap (λ b. cond (not s.shut && b) new (Some m)) (and_no (head side s == v))
      ∙ ap (λ b. cond b new (Some m)) (and_no (not s.shut))

  closed_stays : (v : ℕ) (l : List ℕ) (m : Mark L) → m.closed ≡ true → mark_after c side f.label net v l (Some m) ≡ Some m
  closed_stays v [] m h = refl
  closed_stays v (k ∷ l) m h = ap (mark_after c side f.label net v l) (by_stays v k (slice_get net.sections k) m h) ∙ closed_stays v l m h

  pub followed_none_next : (j : ℕ) → None ≡ slice_get ks j → Followed j → is_some (spread c net side f.label ks first) ≡ true
  followed_none_next j h w = ap is_some (sym w.left ∙ over_none c net side f.label ks j w.so_far h)

  pub followed_all : (j : ℕ) → length net.sections ≤ j → Followed j → is_some (spread c net side f.label ks first) ≡ true
  followed_all j h w = ap is_some (sym w.left ∙ over_all c net side f.label f.station j w.so_far h)

  module _ (inside : f.station < length st.rows) (fit : c.ops.size f.label < 2 ^ 44) (heads : (k : ℕ) (s : Section S) → slice_get net.sections k ≡ Some s → head side s < length st.rows) where
    -- the taken station's own mark is closed, and any other is read off the sheet
    puts : Puts (mark_at c st.rows side) f.station (record { label = f.label; arrival = f.arrival; closed = true }) (mark_at c first.rows side)
    puts = put_puts c st.rows f.station inside side _ fit

    module _ (j k : ℕ) (s : Section S) (w : Followed j) where
      abbrev then : L
      then = candidate c side f.label s

      abbrev now : Option (Mark L)
      now = mark_at c w.so_far.rows side (head side s)

      -- the mark as it is worked out from the sheet
      abbrev out : Option (Mark L)
      out = mark_after c side f.label net (head side s) (take j ks) (mark_at c st.rows side (head side s))

      -- the taken station itself is not labelled again
      taken_not : head side s ≡ f.station → improves c then now ≡ false
      taken_not e =
          ap (improves c then) (w.marks (head side s) ∙ ap (λ v. mark_after c side f.label net v (take j ks) (mark_at c first.rows side v)) e ∙ ap (mark_after c side f.label net f.station (take j ks)) puts.here ∙ closed_stays f.station (take j ks) _ refl)

      same : (head side s ≡ f.station → ⊥) → now ≡ out
      same ne = w.marks (head side s) ∙ ap (mark_after c side f.label net (head side s) (take j ks)) (puts.elsewhere (head side s) ne)

      -- a label that a row does not hold would be written, just if it is worked out so
      large_worked : Large c side f.label k s w.so_far → large_at c side f.label net f.station st.rows j (Some s) ≡ true
      large_worked large =
          let ne : head side s ≡ f.station → ⊥ = λ e. true≢false (sym large.1 ∙ taken_not e) in
          ap (λ b. asks b (fits_row c then) (head side s == f.station) (improves c then out)) large.0
          ∙ ap (λ b. asks false b (head side s == f.station) (improves c then out)) large.2
          ∙ ap (λ b. asks false false b (improves c then out)) (ne_eqb (head side s) f.station ne)
          ∙ ap (improves c then) (sym (same ne)) ∙ large.1

      worked_large : large_at c side f.label net f.station st.rows j (Some s) ≡ true → Large c side f.label k s w.so_far
      worked_large h =
          let (shut, fits, taken, better) = asks_true s.shut (fits_row c then) (head side s == f.station) (improves c then out) h in
          (shut, ap (improves c then) (same (eqb-false (head side s) f.station taken)) ∙ better, fits)

    pub followed_next : (j k : ℕ) → Some k ≡ slice_get ks j → large_at c side f.label net f.station st.rows j (slice_get net.sections k) ≡ false → Followed j → Followed (j + 1)
    followed_next j k e h w = go (slice_get net.sections k) refl h
      where
        told : (so : Option (Section S)) → slice_get net.sections k ≡ so → (v : ℕ) → mark_by c side f.label v k so (mark_after c side f.label net v (take j ks) (mark_at c first.rows side v)) ≡ mark_after c side f.label net v (take (j + 1) ks) (mark_at c first.rows side v)
        told so is v = ap (λ x. mark_by c side f.label v k x (mark_after c side f.label net v (take j ks) (mark_at c first.rows side v))) (sym is) ∙ mark_next c side f.label net v ks j k _ e

        go : (so : Option (Section S)) → slice_get net.sections k ≡ so → large_at c side f.label net f.station st.rows j so ≡ false → Followed (j + 1)
        go None is h =
            record {
              so_far = w.so_far;
              long = w.long;
              left = next_left c net side f.label ks j k w.so_far w.so_far e (sym (ap (λ x. along c side f.label k x w.so_far) is)) ∙ w.left;
              marks = λ v. w.marks v ∙ told None is v;
            }
        go (Some s) is h =
            let gone = goes c side f.label k s w.so_far (rw w.long (heads k s is)) (λ large. true≢false (sym (large_worked j k s w large) ∙ h)) in
            record {
              so_far = gone.so_far;
              long = gone.long ∙ w.long;
              left = next_left c net side f.label ks j k w.so_far gone.so_far e (sym (ap (λ x. along c side f.label k x w.so_far) is ∙ gone.is)) ∙ w.left;
              marks = λ v. gone.marks v ∙ ap (mark_by c side f.label v k (Some s)) (w.marks v) ∙ told (Some s) is v;
            }

    pub followed_large : (j k : ℕ) → Some k ≡ slice_get ks j → large_at c side f.label net f.station st.rows j (slice_get net.sections k) ≡ true → Followed j → is_some (spread c net side f.label ks first) ≡ false
    followed_large j k e h w = go (slice_get net.sections k) refl h
      where
        go : (so : Option (Section S)) → slice_get net.sections k ≡ so → large_at c side f.label net f.station st.rows j so ≡ true → is_some (spread c net side f.label ks first) ≡ false
        go None is h = absurd (true≢false (sym h))
        go (Some s) is h =
            let none : along c side f.label k (slice_get net.sections k) w.so_far ≡ None = ap (λ x. along c side f.label k x w.so_far) is ∙ goes_not c side f.label k s w.so_far (worked_large j k s w h) in
            ap is_some (sym w.left ∙ next c net side f.label ks j k w.so_far e ∙ ap (option_and_then (spread c net side f.label (drop (j + 1) ks))) none)
