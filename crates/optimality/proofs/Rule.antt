-- What taking a side's front changes: the rule of a step.
use Rattle.std.proofs.Common.{◌≡◌, ℕ, suc, ◌+◌, ◌<◌, ◌≤◌, Bool, true, false, cond, List, [], ◌∷◌, length, Some, None, Option, option_map, option_and_then, not, ◌⊎◌, inl, inr, sym, refl, ap, ap₂, ◌∙◌, subst, subst₂, true≢false, nat_lt, zero-add, arith}
use Rattle.std.proofs.lemmas.Bool.{ltb-true, ltb-false, eqb-true, eqb-false, cases_lt, false_from_ne_true}
use Rattle.std.proofs.lemmas.Option.{none-some, slice_get_within}
use Rattle.std.specs.List.{slice_get}
use Rattle.faults.specs.Faults.{opposite}
use Rattle.faults.specs.declared.Side.{Side}
use Rattle.networks.specs.declared.section.Section.{Section}
use Rattle.networks.specs.Nets.{numbers, starts, tail, head}
use Rattle.amounts.specs.Amount.{Le}
use Rattle.optimality.specs.declared.sheet.Mark.{Mark}
use Rattle.optimality.specs.declared.sheet.Front.{Front}
use Rattle.optimality.specs.Sheets.{is_closed, State}
use Rattle.optimality.specs.Problems.{Problem, Fair}
use Rattle.optimality.specs.Keys.{opened_mark, fits_row, seen, computed_sum, improves}
use Rattle.optimality.specs.Search.{mark_at, Spread, reach, along, spread, closing, after, front, gone_through, taking}
use Rattle.optimality.specs.Published.{IsNext, Candidate, TooLarge, Relabelled, Stays, Meets, Lowered, TakenByRule}
use Rattle.optimality.proofs.Having.{on_at}
use Rattle.optimality.proofs.Fronts.{seen_small, front_next}
use Rattle.optimality.proofs.Better.{under, worse_open, open_most}
use Rattle.optimality.proofs.Progress.{SoFar, Labelled, Joins, Fallen, Same, none_yet, kept, only}
use Rattle.optimality.proofs.Written.{labelling, not_front as never_front, better_old, less_before, written}

module _ {C L S : Type 0} (p : Problem C L S) (fair : Fair p) (side : Side) (f : Front L) (before : State C L S) (long : length before.rows ≡ p.net.stations) where
  -- the sections below n are gone through
  abbrev So : ℕ → Spread C L S → Type 0
  So n sp = SoFar p side f before n sp

  -- a label for station v, by section k, that no row holds
  abbrev Large : ℕ → ℕ → L → Type 0
  Large v k a = TooLarge p side f before v k a

  -- The sections from n to m are gone along, and none leads to a label that no row holds.
  record Goes (n m : ℕ) (sp : Spread C L S) : Type 0 where
    pub so_far : So m sp
    pub all_fit : (v k : ℕ) (a : L) → n ≤ k → k < m → Large v k a → ⊥

  -- They are gone along; or one leads to a label that no row holds.
  abbrev Comes : ℕ → ℕ → Option (Spread C L S) → Type 0
  Comes n m None = (v : ℕ) × (k : ℕ) × (a : L) × Large v k a
  Comes n m (Some sp) = Goes n m sp

  -- One section --------------------------------------------------------------------------------

  module _ (n : ℕ) (s : Section S) (is : slice_get p.net.sections n ≡ Some s) (sp : Spread C L S) (w : So n sp) where
    -- the section is gone along, and leads to no label that no row holds
    one : (sq : Spread C L S) → So (n + 1) sq → ((v : ℕ) (a : L) → Large v n a → ⊥) → Goes n (n + 1) sq
    one sq far none = record {
      so_far = far;
      all_fit = λ v k a lo hi. let same : k ≡ n = omega arith in subst (λ k. Large v k a → ⊥) (sym same) (none v a);
    }

    -- no candidate comes of a section that is shut, or does not start at the front
    no_candidate : (s.shut ≡ false → tail side s ≡ f.station → ⊥) → (v : ℕ) (a : L) → Candidate p side f v n a → ⊥
    no_candidate out v a c = let same : c.section ≡ s = cc (is, c.arc.0) in out (ap (λ x. x.shut) (sym same) ∙ c.arc.1) (ap (tail side) (sym same) ∙ c.from)

    -- so it is passed over
    passed : (s.shut ≡ false → tail side s ≡ f.station → ⊥) → Goes n (n + 1) sp
    passed out =
        one sp (kept p side f before n sp w (λ v a c. absurd (no_candidate out v a c))) (λ v a large. no_candidate out v a large.candidate)

    module _ (from : tail side s ≡ f.station) where
      abbrev a : L
      a = computed_sum p.kind f.label (p.kind.worth s.amount)

      abbrev now : ℕ → Option (Mark L)
      now v = mark_at p.kind sp.rows side v

      -- an open one leads on
      lead : s.shut ≡ false → Candidate p side f (head side s) n a
      lead is_open = record { section = s; arc = (is, is_open); from = from; to = refl; amount = refl }

      -- what is better than the mark before, and less than earlier candidates, is better than the mark now
      still_better : (v : ℕ) (b : L) → Large v n b → improves p.kind b (now v) ≡ true
      still_better v b large =
          elim (w.marks v large.elsewhere) [
            | inl l ↦ ap (improves p.kind b) l.2.mark ∙ better_than l.1 (Some l.0) (large.earlier l.0 l.1 l.2.early l.2.candidate)
            | inr same ↦ ap (λ m. improves p.kind b (option_map (seen p.kind) m)) same ∙ large.better
          ]
        where
          better_than : (x : L) (k : Option ℕ) → (Le p.kind.ops x b → ⊥) → improves p.kind b (Some (opened_mark x k)) ≡ true
          better_than x k above = ap not (false_from_ne_true (p.kind.ops.leb x b) above)

      -- it has no better label
      worse : s.shut ≡ false → improves p.kind a (now (head side s)) ≡ false → Goes n (n + 1) sp
      worse is_open low =
          one sp (kept p side f before n sp w low_at) (λ v b large. true≢false (sym (still_better v b large) ∙ low_at v b large.candidate))
        where
          low_at : (v : ℕ) (b : L) → Candidate p side f v n b → improves p.kind b (now v) ≡ false
          low_at v b c = let same = only p side f n v (head side s) b a c (lead is_open) in ap₂ (λ x u. improves p.kind x (now u)) (sym same.1) (sym same.0) ∙ low

      -- it has a better label, which is written
      better : s.shut ≡ false → improves p.kind a (now (head side s)) ≡ true → fits_row p.kind a ≡ true → Goes n (n + 1) (labelling p.kind side n (head side s) a sp)
      better is_open up fits =
          one (labelling p.kind side n (head side s) a sp)
          (written p side f before fair n sp w (head side s) a up (lead is_open) (omega (arith, fair.ends n s (opposite side) is, w.long)) (ltb-true _ _ fits))
          (λ v b large. let same = only p side f n v (head side s) b a large.candidate (lead is_open) in omega (arith, ltb-true _ _ fits, ap p.kind.ops.size same.1, large.size))

      -- it has a better label, and no row holds it
      large : s.shut ≡ false → improves p.kind a (now (head side s)) ≡ true → fits_row p.kind a ≡ false → Large (head side s) n a
      large is_open up over =
          record {
            candidate = lead is_open;
            elsewhere = λ e. never_front p side f before fair n sp w (head side s) a up (sym e);
            better = better_old p side f before fair n sp w (head side s) a up;
            earlier = less_before p side f before fair n sp w (head side s) a up;
            size = ltb-false _ _ over;
          }

      -- it is gone along
      gone : Comes n (n + 1) (along p.kind side f.label n (Some s) sp)
      gone = on_shut s.shut refl
        where
          on_fits : s.shut ≡ false → improves p.kind a (now (head side s)) ≡ true → (b : Bool) → fits_row p.kind a ≡ b → Comes n (n + 1) (cond b (Some (labelling p.kind side n (head side s) a sp)) None)
          on_fits x y false z = (head side s, n, a, large x y z)
          on_fits x y true z = better x y z

          on_better : s.shut ≡ false → (b : Bool) → improves p.kind a (now (head side s)) ≡ b → Comes n (n + 1) (cond b (cond (fits_row p.kind a) (Some (labelling p.kind side n (head side s) a sp)) None) (Some sp))
          on_better x false y = worse x y
          on_better x true y = on_fits x y (fits_row p.kind a) refl

          on_shut : (b : Bool) → s.shut ≡ b → Comes n (n + 1) (cond b (Some sp) (reach p.kind side n (head side s) a sp))
          on_shut true x = passed (λ y. absurd (true≢false (sym x ∙ y)))
          on_shut false x = on_better x (improves p.kind a (now (head side s))) refl

  -- All of them --------------------------------------------------------------------------------

  -- one section, and then the rest
  joined : (n m : ℕ) (sp : Spread C L S) (o : Option (Spread C L S)) → Goes n (n + 1) sp → Comes (n + 1) m o → Comes n m o
  joined n m sp None first rest = rest
  joined n m sp (Some sq) first rest =
      record { so_far = rest.so_far; all_fit = λ v k a lo hi large. elim (cases_lt k (n + 1)) [ inl below ↦ first.all_fit v k a lo below large | inr past ↦ rest.all_fit v k a past hi large ] }

  then : (n m : ℕ) (on : Spread C L S → Option (Spread C L S)) (o : Option (Spread C L S)) → ((sr : Spread C L S) → So (n + 1) sr → Comes (n + 1) m (on sr)) → Comes n (n + 1) o → Comes n m (option_and_then on o)
  then n m on None rest large = large
  then n m on (Some sr) rest first = joined n m sr (on sr) first (rest sr first.so_far)

  -- the sections from n on
  through : (xs : List (Section S)) (n : ℕ) → ((i : ℕ) → slice_get xs i ≡ slice_get p.net.sections (n + i)) → (sp : Spread C L S) → So n sp → Comes n (n + length xs) (spread p.kind p.net side f.label (numbers (starts side f.station) n xs) sp)
  through [] n rest sp w =
      let count : n ≡ n + 0 = omega arith in
      record { so_far = subst (λ m. So m sp) count w; all_fit = λ v k a lo hi. absurd (omega arith) }
  through (s ∷ xs) n rest sp w =
      let count : n + 1 + length xs ≡ n + length (s ∷ xs) = omega arith in
      subst (λ m. Comes n m (spread p.kind p.net side f.label (numbers (starts side f.station) n (s ∷ xs)) sp)) count (go (numbers (starts side f.station) (n + 1) xs) (λ sr. through xs (n + 1) later sr) (starts side f.station s) refl)
    where
      here : slice_get p.net.sections n ≡ Some s
      here = let z : n ≡ n + 0 = omega arith in ap (slice_get p.net.sections) z ∙ sym (rest 0)

      later : (i : ℕ) → slice_get xs i ≡ slice_get p.net.sections (n + 1 + i)
      later i = let z : n + suc i ≡ n + 1 + i = omega arith in rest (suc i) ∙ ap (slice_get p.net.sections) z

      go : (ks : List ℕ) → ((sr : Spread C L S) → So (n + 1) sr → Comes (n + 1) (n + 1 + length xs) (spread p.kind p.net side f.label ks sr)) → (b : Bool) → starts side f.station s ≡ b → Comes n (n + 1 + length xs) (spread p.kind p.net side f.label (cond b (n ∷ ks) ks) sp)
      go ks on true from =
          then n (n + 1 + length xs) (spread p.kind p.net side f.label ks) (along p.kind side f.label n (slice_get p.net.sections n) sp) on
          (subst (λ x. Comes n (n + 1) (along p.kind side f.label n x sp)) (sym here) (gone n s here sp w (eqb-true _ _ from)))
      go ks on false from =
          let over = passed n s here sp w (λ x y. eqb-false _ _ from y) in
          joined n (n + 1 + length xs) sp (spread p.kind p.net side f.label ks sp) over (on sp over.so_far)

  -- What it comes to ---------------------------------------------------------------------------

  module _ (n : ℕ) (sp : Spread C L S) (w : So n sp) (all : (v k : ℕ) (a : L) → Candidate p side f v k a → k < n) where
    abbrev end : State C L S
    end = after before sp

    -- a station with a better label has the least candidate
    relabelled : (v k : ℕ) (a : L) → Labelled p side f before n sp v k a → Relabelled p side f before end v k a
    relabelled v k a l =
        record {
          candidate = l.candidate;
          better = l.better;
          mark = l.mark;
          least = λ j b c. (open_most p.kind b a (Some k) (ap (improves p.kind b) (sym l.mark) ∙ w.none_better v j b c (all v j b c)), λ e. l.first j (subst (λ x. Candidate p side f v j x) e c));
        }

    -- where the mark is as it was no candidate is better
    stays : (v : ℕ) → Same p side f before sp v → Stays p side f before end v
    stays v same =
        record {
          mark = same;
          none_better = λ k a c. ap (λ m. improves p.kind a (option_map (seen p.kind) m)) (sym same) ∙ w.none_better v k a c (all v k a c);
        }

    -- any station but the front is relabelled, or stays
    marks : (v : ℕ) → (v ≡ f.station → ⊥) → ((k : ℕ) × (a : L) × Relabelled p side f before end v k a) ⊎ Stays p side f before end v
    marks v ne = elim (w.marks v ne) [ inl l ↦ inl (l.0, l.1, relabelled v l.0 l.1 l.2) | inr same ↦ inr (stays v same) ]

    -- a better label of a station with one of the other side
    joins_of : (v k : ℕ) (a : L) → Meets p side f before end v k a → Joins p side f before sp v k a
    joins_of v k a m =
        record { label = m.label; mark = m.relabelled.mark; better = m.relabelled.better; there = m.there; other = m.other; sum_of_both = m.sum_of_both }

    -- is not the front's, which is closed
    not_front : (v k : ℕ) (a : L) → Joins p side f before sp v k a → v ≡ f.station → ⊥
    not_front v k a j e = true≢false (ap is_closed (sym w.front ∙ ap (λ u. mark_at p.kind sp.rows side u) (sym e) ∙ j.mark))

    -- and is the least candidate
    label_of : (v k : ℕ) (a : L) (j : Joins p side f before sp v k a) → Relabelled p side f before end v k j.label
    label_of v k a j =
        elim (w.marks v (not_front v k a j)) [
          | inl l ↦ same_label l.0 l.1 l.2
          | inr same ↦ absurd (true≢false (sym j.better ∙ ap (λ m. improves p.kind j.label (option_map (seen p.kind) m)) (sym same) ∙ ap (improves p.kind j.label) j.mark ∙ worse_open p.kind j.label j.label (Some k) (fair.laws.le_refl j.label)))
        ]
      where
        same_label : (i : ℕ) (b : L) → Labelled p side f before n sp v i b → Relabelled p side f before end v k j.label
        same_label i b l =
            let same : opened_mark b (Some i) ≡ opened_mark j.label (Some k) = cc (l.mark, j.mark) in
            let number : Some i ≡ Some k = ap (λ m. m.arrival) same in
            let count : i ≡ k = cc in
            subst₂ (λ x y. Relabelled p side f before end v x y) count (ap (λ m. m.label) same) (relabelled v i b l)

    -- so it meets the other side's
    meets_of : (v k : ℕ) (a : L) → Joins p side f before sp v k a → Meets p side f before end v k a
    meets_of v k a j = record { label = j.label; relabelled = label_of v k a j; there = j.there; other = j.other; sum_of_both = j.sum_of_both }

    -- a ceiling that has fallen is lowered
    lowered : (v k : ℕ) (a : L) → Fallen p side f before n sp v k a → Lowered p side f before end v k a
    lowered v k a x =
        record {
          ceiling = x.is;
          meets = meets_of v k a x.joins;
          less = x.less;
          least = λ u j b m. (ap (λ t. under p.kind t b) (sym x.is) ∙ w.least u j b (joins_of u j b m), λ e. x.first u j (subst (λ y. Joins p side f before sp u j y) e (joins_of u j b m)));
        }

    -- so the front is taken by the rule
    pub ruled : IsNext p before.rows side f → TakenByRule p side f before end
    ruled next =
        record {
          next = next;
          taken = refl;
          rows = w.long;
          front = w.front;
          marks = marks;
          other = w.other;
          ceiling =
              elim w.ceiling [
                | inl x ↦ inl (x.0, x.1, x.2, lowered x.0 x.1 x.2 x.3)
                | inr e ↦ inr (e, λ v k a m. ap (λ t. under p.kind t a) (sym e) ∙ w.least v k a (joins_of v k a m))
              ];
        }

module _ {C L S : Type 0} (p : Problem C L S) (fair : Fair p) (side : Side) (f : Front L) (st : State C L S) (long : length st.rows ≡ p.net.stations) (first : front p st side ≡ Some f) where
  next : IsNext p st.rows side f
  next = front_next p fair.laws st side f first

  begun : SoFar p side f st 0 (closing side f st)
  begun =
      none_yet p side f st fair (omega (arith, next.within)) (on_at (mark_at p.kind st.rows side f.station) _ _ next.marked (seen_small p.kind fair.laws st.rows side f.station))

  -- what going through its sections comes to
  all_gone : (o : Option (Spread C L S)) → gone_through p side f st ≡ o → Comes p fair side f st long 0 (0 + length p.net.sections) o
  all_gone o is =
      subst (Comes p fair side f st long 0 (0 + length p.net.sections)) is
      (through p fair side f st long p.net.sections 0 (λ i. ap (slice_get p.net.sections) (sym (zero-add i))) (closing side f st) begun)

  -- every candidate is among them
  early : (v k : ℕ) (a : L) → Candidate p side f v k a → k < 0 + length p.net.sections
  early v k a c = omega (arith, slice_get_within p.net.sections k c.section c.arc.0)

  -- what does not go through leads to a label that no row holds
  pub too_large : gone_through p side f st ≡ None → (v : ℕ) × (k : ℕ) × (a : L) × TooLarge p side f st v k a
  too_large is = all_gone None is

  -- and what goes through leads to none
  pub all_held : (sp : Spread C L S) → gone_through p side f st ≡ Some sp → (v k : ℕ) (a : L) → TooLarge p side f st v k a → ⊥
  all_held sp is v k a large = (all_gone (Some sp) is).all_fit v k a (omega arith) (early v k a large.candidate) large

  -- A side's first front is taken by the rule, on any sheet of one row a station.
  pub takes_rule : (st' : State C L S) → taking p side f st ≡ Some st' → TakenByRule p side f st st'
  takes_rule st' e = to_take (nat_lt (st.taken + 1) p.net.stations) e
    where
      to_spread : (x : Option (Spread C L S)) → gone_through p side f st ≡ x → option_map (after st) x ≡ Some st' → TakenByRule p side f st st'
      to_spread None is h = absurd (none-some _ h)
      to_spread (Some sp) is h =
          let w = (all_gone (Some sp) is).so_far in
          let same : after st sp ≡ st' = cc in
          subst (TakenByRule p side f st) same (ruled p fair side f st long (0 + length p.net.sections) sp w early next)

      to_take : (b : Bool) → cond b (option_map (after st) (gone_through p side f st)) None ≡ Some st' → TakenByRule p side f st st'
      to_take false h = absurd (none-some _ h)
      to_take true h = to_spread (gone_through p side f st) refl h
