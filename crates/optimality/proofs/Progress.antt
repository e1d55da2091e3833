-- What taking a front changes: how far it has come once the sections below n are gone through.
use Rattle.std.proofs.Common.{◌≡◌, ℕ, ◌+◌, ◌^◌, ◌<◌, ◌≤◌, true, false, length, Some, Option, ◌⊎◌, inl, inr, sym, refl, ap, ◌∙◌, true≢false, below_more, arith}
use Rattle.std.specs.List.{slice_get}
use Rattle.faults.specs.Faults.{opposite}
use Rattle.faults.specs.declared.Side.{Side}
use Rattle.networks.specs.Nets.{head}
use Rattle.optimality.specs.declared.sheet.Mark.{Mark}
use Rattle.optimality.specs.declared.sheet.Front.{Front}
use Rattle.optimality.specs.declared.sheet.Ceiling.TheVariants.{Met}
use Rattle.optimality.specs.Sheets.{is_closed, State}
use Rattle.optimality.specs.Problems.{Problem, Fair}
use Rattle.optimality.specs.Keys.{opened_mark, computed_sum, improves}
use Rattle.optimality.specs.Search.{mark_in, mark_at, Spread, closing}
use Rattle.optimality.specs.Published.{Candidate}
use Rattle.optimality.proofs.Putting.{Puts, puts_ind, put_puts, written_elsewhere, written_beside, length-put}
use Rattle.optimality.proofs.Better.{under, worse_open}

-- a section leads to one station, with one label
pub only : {C L S : Type 0} (p : Problem C L S) (side : Side) (f : Front L) (n v u : ℕ) (a b : L) → Candidate p side f v n a → Candidate p side f u n b → (u ≡ v) × (b ≡ a)
only p side f n v u a b c d =
    let same : d.section ≡ c.section = cc (d.arc.0, c.arc.0) in
    (sym d.to ∙ ap (head side) same ∙ c.to, d.amount ∙ ap (λ s. computed_sum p.kind f.label (p.kind.worth s.amount)) same ∙ sym c.amount)

module _ {C L S : Type 0} (p : Problem C L S) (side : Side) (f : Front L) (before : State C L S) where
  -- the front, closed
  abbrev pub closed_front : Mark L
  closed_front = record { label = f.label; arrival = f.arrival; closed = true }

  -- section k leads to station v, where the label is a
  abbrev Leads : ℕ → ℕ → L → Type 0
  Leads v k a = Candidate p side f v k a

  -- what the side read at a station
  abbrev pub old : ℕ → Option (Mark L)
  old v = mark_at p.kind before.rows side v

  -- what the other side reads there
  abbrev pub beyond : ℕ → Option (Mark L)
  beyond v = mark_at p.kind before.rows (opposite side) v

  module _ (sp : Spread C L S) where
    -- what the side reads there now
    abbrev pub now : ℕ → Option (Mark L)
    now v = mark_at p.kind sp.rows side v

    -- what the side has written at station v is as it was
    abbrev pub Same : ℕ → Type 0
    Same v = mark_in side (slice_get sp.rows v) ≡ mark_in side (slice_get before.rows v)

    -- Station v has a better label than before, from section k, and has one of the other side too; a is their sum.
    pub record Joins (v k : ℕ) (a : L) : Type 0 where
      pub label : L
      pub mark : now v ≡ Some (opened_mark label (Some k))
      pub better : improves p.kind label (old v) ≡ true
      pub there : Mark L
      pub other : beyond v ≡ Some there
      pub sum_of_both : a ≡ computed_sum p.kind label there.label

  module _ (n : ℕ) (sp : Spread C L S) where
    -- Station v has a better label than before, from section k below n, the first that leads there with it.
    pub record Labelled (v k : ℕ) (a : L) : Type 0 where
      pub candidate : Leads v k a
      pub early : k < n
      pub better : improves p.kind a (old v) ≡ true
      pub mark : now sp v ≡ Some (opened_mark a (Some k))
      pub first : (j : ℕ) → Leads v j a → k ≤ j

    -- The ceiling is less than before: the sum at station v, with a label from section k below n, the first with that
    -- sum.
    pub record Fallen (v k : ℕ) (a : L) : Type 0 where
      pub is : sp.ceiling ≡ Met a v
      pub joins : Joins sp v k a
      pub early : k < n
      pub less : under p.kind before.ceiling a ≡ false
      pub first : (u j : ℕ) → Joins sp u j a → k ≤ j

    -- The sections below n are gone through.
    pub record SoFar : Type 0 where
      pub long : length sp.rows ≡ length before.rows
      -- the front is closed
      pub front : now sp f.station ≡ Some closed_front
      -- what the other side has written is as it was
      pub other : (v : ℕ) → mark_in (opposite side) (slice_get sp.rows v) ≡ mark_in (opposite side) (slice_get before.rows v)
      -- any other station has a better label, or is as it was
      pub marks : (v : ℕ) → (v ≡ f.station → ⊥) → ((k : ℕ) × (a : L) × Labelled v k a) ⊎ Same sp v
      -- and no section gone through has a better one
      pub none_better : (v k : ℕ) (a : L) → Leads v k a → k < n → improves p.kind a (now sp v) ≡ false
      -- the ceiling is at most each sum, and one of them, or as it was
      pub least : (v k : ℕ) (a : L) → Joins sp v k a → under p.kind sp.ceiling a ≡ true
      pub ceiling : ((v : ℕ) × (k : ℕ) × (a : L) × Fallen v k a) ⊎ (sp.ceiling ≡ before.ceiling)

  -- Before any section -------------------------------------------------------------------------

  module _ (fair : Fair p) (inside : f.station < length before.rows) (small : p.kind.ops.size f.label < 2 ^ 44) where
    abbrev begun : Spread C L S
    begun = closing side f before

    -- the front's mark is put
    begun_puts : Puts old f.station closed_front (now begun)
    begun_puts = put_puts p.kind before.rows f.station inside side closed_front small

    -- no station has a better label than before
    none_joins : (v k : ℕ) (a : L) → Joins begun v k a → ⊥
    none_joins v k a j =
        puts_ind begun_puts v (λ m. m ≡ Some (opened_mark j.label (Some k)) → ⊥)
        (λ e h. true≢false (ap is_closed h))
        (λ ne h. true≢false (sym j.better ∙ ap (improves p.kind j.label) h ∙ worse_open p.kind j.label j.label (Some k) (fair.laws.le_refl j.label)))
        j.mark

    -- the front is closed, and no section gone through
    pub none_yet : SoFar 0 begun
    none_yet =
        record {
          long = length-put before.rows side f.station closed_front;
          front = begun_puts.here;
          other = written_beside before.rows side f.station closed_front inside;
          marks = λ v ne. inr (written_elsewhere before.rows side f.station closed_front side v ne);
          none_better = λ v k a c lt. absurd (omega arith);
          least = λ v k a j. absurd (none_joins v k a j);
          ceiling = inr refl;
        }

  -- One section more ---------------------------------------------------------------------------

  -- a station whose mark is as it was has its label still
  pub labelled_on : (n : ℕ) (sp sq : Spread C L S) (v k : ℕ) (a : L) → now sq v ≡ now sp v → Labelled n sp v k a → Labelled (n + 1) sq v k a
  labelled_on n sp sq v k a e l = record { candidate = l.candidate; early = omega (arith, l.early); better = l.better; mark = e ∙ l.mark; first = l.first }

  -- and its sum
  pub joins_on : (sp sq : Spread C L S) (v k : ℕ) (a : L) → now sq v ≡ now sp v → Joins sp v k a → Joins sq v k a
  joins_on sp sq v k a e j = record { label = j.label; mark = e ∙ j.mark; better = j.better; there = j.there; other = j.other; sum_of_both = j.sum_of_both }

  -- a ceiling that has fallen before section n has fallen after it
  fallen_on : (n : ℕ) (sp : Spread C L S) (v k : ℕ) (a : L) → Fallen n sp v k a → Fallen (n + 1) sp v k a
  fallen_on n sp v k a x = record { is = x.is; joins = x.joins; early = omega (arith, x.early); less = x.less; first = x.first }

  -- section n, which has no better label for any station, changes nothing
  pub kept : (n : ℕ) (sp : Spread C L S) → SoFar n sp → ((v : ℕ) (a : L) → Leads v n a → improves p.kind a (now sp v) ≡ false) → SoFar (n + 1) sp
  kept n sp w none =
      record {
        long = w.long;
        front = w.front;
        other = w.other;
        marks = λ v ne. elim (w.marks v ne) [ inl l ↦ inl (l.0, l.1, labelled_on n sp sp v l.0 l.1 refl l.2) | inr same ↦ inr same ];
        none_better = λ v k a c lt. below_more (λ j. Leads v j a → improves p.kind a (now sp v) ≡ false) n (λ j h d. w.none_better v j a d h) (none v a) k lt c;
        least = w.least;
        ceiling = elim w.ceiling [ inl x ↦ inl (x.0, x.1, x.2, fallen_on n sp x.0 x.1 x.2 x.3) | inr e ↦ inr e ];
      }
