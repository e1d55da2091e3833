-- One section more, which has a better label for a station: what is written, and how the ceiling moves.
use Rattle.std.proofs.Common.{◌≡◌, ℕ, ◌+◌, ◌^◌, ◌<◌, ◌≤◌, Bool, true, false, length, Some, None, Option, option_map, ◌⊎◌, inl, inr, sym, refl, ap, ◌∙◌, subst, true≢false, below_more, arith}
use Rattle.std.proofs.lemmas.Option.{none-some}
use Rattle.std.proofs.lemmas.Bool.{cases_eq, false_from_ne_true}
use Rattle.amounts.specs.Amount.{Le}
use Rattle.amounts.specs.declared.cost.Cost as cost
use Rattle.faults.specs.Faults.{opposite}
use Rattle.faults.specs.declared.Side.{Side}
use Rattle.optimality.specs.declared.sheet.Mark.{Mark}
use Rattle.optimality.specs.declared.sheet.Front.{Front}
use Rattle.optimality.specs.declared.sheet.Ceiling.{Ceiling}
use Rattle.optimality.specs.declared.sheet.Ceiling.TheVariants.{Met}
use Rattle.optimality.specs.Sheets.{put, State}
use Rattle.optimality.specs.Problems.{Problem, Fair}
use Rattle.optimality.specs.Keys.{opened_mark, seen, computed_sum, within, met, improves}
use Rattle.optimality.specs.Search.{mark_at, Spread}
use Rattle.optimality.specs.Published.{amount_of, Candidate}
use Rattle.optimality.proofs.Having.{on_at}
use Rattle.optimality.proofs.Group.{le_of_eq, le_of_not}
use Rattle.optimality.proofs.Fronts.{seen_small}
use Rattle.optimality.proofs.Bounds.{below_refl, below_trans, below_other}
use Rattle.optimality.proofs.Putting.{Puts, puts_ind, put_puts, written_elsewhere, written_beside, length-put}
use Rattle.optimality.proofs.Better.{under, closed_stands, better_open, worse_open, lowered_stays, lowered_falls, better_le, better_too, sum_less}
use Rattle.optimality.proofs.Progress.{only}
use Rattle.optimality.proofs.Progress as progress

-- the sheet and the ceiling, with the candidate a, by section k, written at station v
abbrev pub labelling : {C L S : Type 0} → cost.Ghosts C L S → Side → ℕ → ℕ → L → Spread C L S → Spread C L S
labelling c side k v a sp = record { rows = put sp.rows side v (opened_mark a (Some k)); ceiling = met c a v (mark_at c sp.rows (opposite side) v) sp.ceiling }

module _ {C L S : Type 0} (p : Problem C L S) (side : Side) (f : Front L) (before : State C L S) where
  -- The words for what is gone through, of this front and this state.
  abbrev Leads : ℕ → ℕ → L → Type 0
  Leads v k a = Candidate p side f v k a

  abbrev old : ℕ → Option (Mark L)
  old v = progress.old p side f before v

  abbrev beyond : ℕ → Option (Mark L)
  beyond v = progress.beyond p side f before v

  abbrev now : Spread C L S → ℕ → Option (Mark L)
  now sp v = progress.now p side f before sp v

  abbrev Same : Spread C L S → ℕ → Type 0
  Same sp v = progress.Same p side f before sp v

  abbrev Joins : Spread C L S → ℕ → ℕ → L → Type 0
  Joins sp v k a = progress.Joins p side f before sp v k a

  abbrev Labelled : ℕ → Spread C L S → ℕ → ℕ → L → Type 0
  Labelled n sp v k a = progress.Labelled p side f before n sp v k a

  abbrev Fallen : ℕ → Spread C L S → ℕ → ℕ → L → Type 0
  Fallen n sp v k a = progress.Fallen p side f before n sp v k a

  abbrev SoFar : ℕ → Spread C L S → Type 0
  SoFar n sp = progress.SoFar p side f before n sp

  -- A label a is better than what station v has, the sections below n gone through.
  module _ (fair : Fair p) (n : ℕ) (sp : Spread C L S) (w : SoFar n sp) (v : ℕ) (a : L) (better : improves p.kind a (now sp v) ≡ true) where
    -- the station is not the front
    pub not_front : f.station ≡ v → ⊥
    not_front e = closed_stands p.kind a f.label f.arrival (ap (improves p.kind a) (sym w.front ∙ ap (now sp) e) ∙ better)

    -- a label from section k that it had was higher
    above : (k : ℕ) (b : L) → now sp v ≡ Some (opened_mark b (Some k)) → p.kind.ops.leb b a ≡ false
    above k b e = better_open p.kind a b (Some k) (ap (improves p.kind a) (sym e) ∙ better)

    -- it is better than what the side read there at first
    pub better_old : improves p.kind a (old v) ≡ true
    better_old =
        elim (w.marks v (λ e. not_front (sym e))) [
          | inl l ↦ better_too p.kind fair.laws l.1 a (old v) (le_of_not fair.laws l.1 a (above l.0 l.1 l.2.mark)) l.2.better
          | inr same ↦ ap (improves p.kind a) (sym (ap (option_map (seen p.kind)) same)) ∙ better
        ]

    -- and less than each candidate of an earlier section
    pub less_before : (j : ℕ) (b : L) → j < n → Leads v j b → Le p.kind.ops b a → ⊥
    less_before j b lt d le = true≢false (sym (better_too p.kind fair.laws a b (now sp v) le better) ∙ w.none_better v j b d lt)

    -- Section n leads there with it, and a row holds it.
    module _ (c : Leads v n a) (inside : v < length sp.rows) (small : p.kind.ops.size a < 2 ^ 44) where
      abbrev mark : Mark L
      mark = opened_mark a (Some n)

      -- what is written then
      abbrev sq : Spread C L S
      sq = labelling p.kind side n v a sp

      -- the mark is put
      puts : Puts (now sp) v mark (now sq)
      puts = put_puts p.kind sp.rows v inside side mark small

      -- no section below n leads there with it
      first_here : (j : ℕ) → Leads v j a → n ≤ j
      first_here j d = let not_below : j < n → ⊥ = λ h. true≢false (sym better ∙ w.none_better v j a d h) in omega arith

      -- so it is the station's label
      new_label : Labelled (n + 1) sq v n a
      new_label = record { candidate = c; early = omega arith; better = better_old; mark = puts.here; first = first_here }

      -- any other station has a better label, or is as it was
      new_marks : (u : ℕ) → (u ≡ f.station → ⊥) → ((k : ℕ) × (b : L) × Labelled (n + 1) sq u k b) ⊎ Same sq u
      new_marks u ne =
          elim (cases_eq u v) [
            | inl e ↦ inl (n, a, subst (λ i. Labelled (n + 1) sq i n a) (sym e) new_label)
            | inr off ↦ elim (w.marks u ne) [
              | inl l ↦ inl (l.0, l.1, progress.labelled_on p side f before n sp sq u l.0 l.1 (puts.elsewhere u off) l.2)
              | inr same ↦ inr (written_elsewhere sp.rows side v mark side u off ∙ same)
            ]
          ]

      -- no section gone through leads to the station with less
      least_here : (k : ℕ) (b : L) → Leads v k b → k < n + 1 → Le p.kind.ops a b
      least_here k b d lt =
          below_more (λ j. Leads v j b → Le p.kind.ops a b) n
          (λ j h i. better_le p.kind fair.laws a b (now sp v) better (w.none_better v j b i h))
          (λ i. le_of_eq fair.laws a b (sym (only p side f n v v a b c i).1))
          k lt d

      -- nor to another one with a better label than it has
      none_there : (u k : ℕ) (b : L) → (u ≡ v → ⊥) → Leads u k b → k < n + 1 → improves p.kind b (now sp u) ≡ false
      none_there u k b off d lt =
          below_more (λ j. Leads u j b → improves p.kind b (now sp u) ≡ false) n
          (λ j h i. w.none_better u j b i h)
          (λ i. absurd (off (only p side f n v u a b c i).0))
          k lt d

      -- so none has a better label than there is now
      new_none_better : (u k : ℕ) (b : L) → Leads u k b → k < n + 1 → improves p.kind b (now sq u) ≡ false
      new_none_better u k b d lt =
          puts_ind puts u (λ m. improves p.kind b m ≡ false)
          (λ e. worse_open p.kind b a (Some n) (least_here k b (subst (λ i. Leads i k b) e d) lt))
          (λ off. none_there u k b off d lt)

      -- What it does to the ceiling --------------------------------------------------------------

      -- elsewhere the sum is as it was
      joins_there : (u k : ℕ) (b : L) → (u ≡ v → ⊥) → Joins sq u k b → Joins sp u k b
      joins_there u k b off j = progress.joins_on p side f before sq sp u k b (sym (puts.elsewhere u off)) j

      -- here the label is the new one
      joins_mark : (k : ℕ) (b : L) (j : Joins sq v k b) → opened_mark j.label (Some k) ≡ mark
      joins_mark k b j = let e = sym j.mark ∙ puts.here in cc

      -- from section n
      joins_number : (u k : ℕ) (b : L) → u ≡ v → Joins sq u k b → k ≡ n
      joins_number u k b at j = let e = ap (λ m. m.arrival) (joins_mark k b (subst (λ i. Joins sq i k b) at j)) in cc

      -- and the sum is that with the new one
      joins_sum : (u k : ℕ) (b : L) → u ≡ v → Joins sq u k b → (g : Mark L) × (beyond v ≡ Some g) × (b ≡ computed_sum p.kind a g.label)
      joins_sum u k b at j =
          let i = subst (λ x. Joins sq x k b) at j in
          (i.there, i.other, i.sum_of_both ∙ ap (λ m. computed_sum p.kind m.label i.there.label) (joins_mark k b i))

      -- which is less than the one before
      undercut : (k : ℕ) (b : L) (j : Joins sp v k b) → Le p.kind.ops b (computed_sum p.kind a j.there.label) → ⊥
      undercut k b j le =
          let was_small = on_at (now sp v) _ _ j.mark (seen_small p.kind fair.laws sp.rows side v) in
          let other_small = on_at (beyond v) _ _ j.other (seen_small p.kind fair.laws before.rows (opposite side) v) in
          sum_less p fair a j.label j.there.label small was_small other_small (above k j.label j.mark) (rw (← j.sum_of_both) le)

      -- what holds of the ceiling then
      abbrev Lowers : Type 0
      Lowers =
          ((u k : ℕ) (b : L) → Joins sq u k b → under p.kind sq.ceiling b ≡ true)
          × (((u : ℕ) × (k : ℕ) × (b : L) × Fallen (n + 1) sq u k b) ⊎ (sq.ceiling ≡ before.ceiling))

      -- The new sum, if there is one, is not less than the ceiling.
      module _ (is : sq.ceiling ≡ sp.ceiling) (high : (g : Mark L) → beyond v ≡ Some g → under p.kind sp.ceiling (computed_sum p.kind a g.label) ≡ true) where
        -- the ceiling is at most each sum
        high_least : (u k : ℕ) (b : L) → Joins sq u k b → under p.kind sp.ceiling b ≡ true
        high_least u k b j =
            elim (cases_eq u v) [
              | inl e ↦ (let (g, there, total) = joins_sum u k b e j in rw total (high g there))
              | inr off ↦ w.least u k b (joins_there u k b off j)
            ]

        -- its station is another one
        high_other : (u k : ℕ) (b : L) → Fallen n sp u k b → u ≡ v → ⊥
        high_other u k b x e =
            let j = subst (λ i. Joins sp i k b) e x.joins in
            undercut k b j (rw x.is at (high j.there j.other))

        -- it has the first of its sums still
        high_first : (u k : ℕ) (b : L) → Fallen n sp u k b → (i j : ℕ) → Joins sq i j b → k ≤ j
        high_first u k b x i j q =
            elim (cases_eq i v) [
              | inl e ↦ omega (arith, x.early, joins_number i j b e q)
              | inr off ↦ x.first i j (joins_there i j b off q)
            ]

        -- so it has fallen as it had
        high_fallen : (u k : ℕ) (b : L) → Fallen n sp u k b → Fallen (n + 1) sq u k b
        high_fallen u k b x =
            record {
              is = is ∙ x.is;
              joins = progress.joins_on p side f before sp sq u k b (puts.elsewhere u (high_other u k b x)) x.joins;
              early = omega (arith, x.early);
              less = x.less;
              first = high_first u k b x;
            }

        -- the ceiling stays
        stays : Lowers
        stays = (
          λ u k b j. ap (λ t. under p.kind t b) is ∙ high_least u k b j,
          elim w.ceiling [ inl x ↦ inl (x.0, x.1, x.2, high_fallen x.0 x.1 x.2 x.3) | inr e ↦ inr (is ∙ e) ],
        )

      -- The new sum is less than the ceiling.
      module _ (g : Mark L) (there : beyond v ≡ Some g) (is : sq.ceiling ≡ Met (computed_sum p.kind a g.label) v) (low : under p.kind sp.ceiling (computed_sum p.kind a g.label) ≡ false) where
        abbrev total : L
        total = computed_sum p.kind a g.label

        -- it is at most each sum
        low_least : (u k : ℕ) (b : L) → Joins sq u k b → Le p.kind.ops total b
        low_least u k b j =
            elim (cases_eq u v) [
              | inl e ↦ (let (h, here, same) = joins_sum u k b e j in le_of_eq fair.laws total b (let one : g ≡ h = cc (there, here) in ap (λ m. computed_sum p.kind a m.label) one ∙ sym same))
              | inr off ↦ below_trans p fair.laws (Some total) (amount_of sp.ceiling) (Some b) (below_other p fair.laws (amount_of sp.ceiling) (Some total) low) (w.least u k b (joins_there u k b off j))
            ]

        -- the ceiling was at most what it was at first
        fell : within p.kind (amount_of sp.ceiling) (amount_of before.ceiling) ≡ true
        fell =
            elim w.ceiling [
              | inl x ↦ rw x.3.is (below_other p fair.laws (amount_of before.ceiling) (Some x.2) x.3.less)
              | inr e ↦ rw e (below_refl p fair.laws (amount_of before.ceiling))
            ]

        -- so the new sum is less than that too
        low_less : under p.kind before.ceiling total ≡ false
        low_less = false_from_ne_true _ (λ h. true≢false (sym (below_trans p fair.laws (amount_of sp.ceiling) (amount_of before.ceiling) (Some total) fell h) ∙ low))

        -- and no section before has the same one
        low_first : (u j : ℕ) → Joins sq u j total → n ≤ j
        low_first u j q =
            elim (cases_eq u v) [
              | inl e ↦ omega (arith, joins_number u j total e q)
              | inr off ↦ absurd (true≢false (sym (w.least u j total (joins_there u j total off q)) ∙ low))
            ]

        -- the ceiling falls
        low_fallen : Fallen (n + 1) sq v n total
        low_fallen =
            record {
              is = is;
              joins = record { label = a; mark = puts.here; better = better_old; there = g; other = there; sum_of_both = refl };
              early = omega arith;
              less = low_less;
              first = low_first;
            }

        falls : Lowers
        falls = (λ u k b j. ap (λ t. under p.kind t b) is ∙ low_least u k b j, inl (v, n, total, low_fallen))

      -- the ceiling, where the other side has the mark o
      abbrev then : Option (Mark L) → Ceiling L
      then o = met p.kind a v o sp.ceiling

      -- it stays or falls
      lowers_at : (o : Option (Mark L)) → beyond v ≡ o → sq.ceiling ≡ then o → Lowers
      lowers_at None is e = stays e (λ g there. absurd (none-some g (sym is ∙ there)))
      lowers_at (Some g) is e = go (under p.kind sp.ceiling (computed_sum p.kind a g.label)) refl
        where
          go : (b : Bool) → under p.kind sp.ceiling (computed_sum p.kind a g.label) ≡ b → Lowers
          go true h = stays (e ∙ lowered_stays p.kind _ v sp.ceiling h) (λ x there. let same : x ≡ g = cc (is, there) in rw same h)
          go false h = falls g is (e ∙ lowered_falls p.kind _ v sp.ceiling h) h

      -- what the other side reads is as it was
      lowers : Lowers
      lowers = lowers_at (beyond v) refl (ap (λ m. then (option_map (seen p.kind) m)) (w.other v))

      -- the section is gone through
      pub written : SoFar (n + 1) sq
      written =
          record {
            long = length-put sp.rows side v mark ∙ w.long;
            front = puts.elsewhere f.station not_front ∙ w.front;
            other = λ u. written_beside sp.rows side v mark inside u ∙ w.other u;
            marks = new_marks;
            none_better = new_none_better;
            least = lowers.0;
            ceiling = lowers.1;
          }
