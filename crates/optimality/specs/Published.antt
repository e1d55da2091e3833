-- What a step does, as a relation: which station it takes, and what it changes.
use Rattle.std.specs.Prelude.{◌≡◌, ℕ, ◌+◌, ◌^◌, ◌<◌, ◌≤◌, true, false, List, length, Some, None, Option, ◌⊎◌}
use Rattle.std.specs.List.{slice_get}
use Rattle.amounts.specs.Amount.{Le}
use Rattle.faults.specs.Faults.{opposite}
use Rattle.faults.specs.declared.Side.{Side}
use Rattle.networks.specs.declared.section.Section.{Section}
use Rattle.networks.specs.Nets.{tail, head}
use Rattle.optimality.specs.declared.sheet.Mark.{Mark}
use Rattle.optimality.specs.declared.sheet.Row.{Row}
use Rattle.optimality.specs.declared.sheet.Front.{Front}
use Rattle.optimality.specs.declared.sheet.Ceiling.{Ceiling}
use Rattle.optimality.specs.declared.sheet.Ceiling.TheVariants.{Absent, Met}
use Rattle.optimality.specs.Sheets.{State}
use Rattle.optimality.specs.Problems.{Problem, Arc}
use Rattle.optimality.specs.Keys.{opened_mark, computed_sum, key, within, improves}
use Rattle.optimality.specs.Search.{mark_in, mark_at}

-- what a ceiling amounts to
abbrev pub amount_of : {L : Type 0} → Ceiling L → Option L
amount_of Absent = None
amount_of (Met a u) = Some a

-- A side's open station of least key: no open station has a smaller one, and none with the same key a lower number.
pub record IsNext {C L S : Type 0} (p : Problem C L S) (rows : List (Row C L S)) (side : Side) (f : Front L) : Type 0 where
  pub within : f.station < p.net.stations
  pub marked : mark_at p.kind rows side f.station ≡ Some (opened_mark f.label f.arrival)
  pub its_key : f.key ≡ key p.kind p.estimates side f.station f.label
  pub least :
      (v : ℕ) (m : Mark L) → v < p.net.stations → mark_at p.kind rows side v ≡ Some m → m.closed ≡ false
      → Le p.kind.ops f.key (key p.kind p.estimates side v m.label)
  pub lowest :
      (v : ℕ) (m : Mark L) → v < p.net.stations → mark_at p.kind rows side v ≡ Some m → m.closed ≡ false
      → key p.kind p.estimates side v m.label ≡ f.key → f.station ≤ v

module _ {C L S : Type 0} (p : Problem C L S) (side : Side) (f : Front L) where
  -- An open section k leads the side from the front to station v, and a is the front's label and the section's amount.
  pub record Candidate (v k : ℕ) (a : L) : Type 0 where
    pub section : Section S
    pub arc : Arc p k section
    pub from : tail side section ≡ f.station
    pub to : head side section ≡ v
    pub amount : a ≡ computed_sum p.kind f.label (p.kind.worth section.amount)

  -- Going along section k would write the candidate a at station v, and no row holds it: it is better than what the side
  -- reads there, and less than each candidate by an earlier section, so none of those keeps it from being written.
  pub record TooLarge (before : State C L S) (v k : ℕ) (a : L) : Type 0 where
    pub candidate : Candidate v k a
    pub elsewhere : v ≡ f.station → ⊥
    pub better : improves p.kind a (mark_at p.kind before.rows side v) ≡ true
    pub earlier : (j : ℕ) (b : L) → j < k → Candidate v j b → Le p.kind.ops b a → ⊥
    pub size : 2 ^ 44 ≤ p.kind.ops.size a

  module _ (before after : State C L S) where
    -- Station v, which is not closed, and is unlabelled or labelled higher, is open with the least candidate; of
    -- several, the one of the lowest section.
    pub record Relabelled (v k : ℕ) (a : L) : Type 0 where
      pub candidate : Candidate v k a
      pub better : improves p.kind a (mark_at p.kind before.rows side v) ≡ true
      pub mark : mark_at p.kind after.rows side v ≡ Some (opened_mark a (Some k))
      pub least : (j : ℕ) (b : L) → Candidate v j b → Le p.kind.ops a b × (b ≡ a → k ≤ j)

    -- Station v is as it was, since no candidate is better.
    pub record Stays (v : ℕ) : Type 0 where
      pub mark : mark_in side (slice_get after.rows v) ≡ mark_in side (slice_get before.rows v)
      pub none_better : (k : ℕ) (a : L) → Candidate v k a → improves p.kind a (mark_at p.kind before.rows side v) ≡ false

    -- Station v was relabelled by section k, and has a label of the other side too; a is their sum.
    pub record Meets (v k : ℕ) (a : L) : Type 0 where
      pub label : L
      pub relabelled : Relabelled v k label
      pub there : Mark L
      pub other : mark_at p.kind before.rows (opposite side) v ≡ Some there
      pub sum_of_both : a ≡ computed_sum p.kind label there.label

    -- The ceiling is the least of these sums, if that is less than it was; of several, the one of the lowest section.
    pub record Lowered (v k : ℕ) (a : L) : Type 0 where
      pub ceiling : after.ceiling ≡ Met a v
      pub meets : Meets v k a
      pub less : within p.kind (amount_of before.ceiling) (Some a) ≡ false
      pub least : (u j : ℕ) (b : L) → Meets u j b → Le p.kind.ops a b × (b ≡ a → k ≤ j)

    -- What taking a side's front changes, and nothing else.
    pub record TakenByRule : Type 0 where
      pub next : IsNext p before.rows side f
      pub taken : after.taken ≡ before.taken + 1
      pub rows : length after.rows ≡ length before.rows
      -- the front is closed, with its label and arrival
      pub front : mark_at p.kind after.rows side f.station ≡ Some (record { label = f.label; arrival = f.arrival; closed = true })
      -- any other station is relabelled, or stays
      pub marks : (v : ℕ) → (v ≡ f.station → ⊥) → ((k : ℕ) × (a : L) × Relabelled v k a) ⊎ Stays v
      -- what the other side has written stays
      pub other : (v : ℕ) → mark_in (opposite side) (slice_get after.rows v) ≡ mark_in (opposite side) (slice_get before.rows v)
      -- the ceiling is lowered, or stays
      pub ceiling :
          ((v : ℕ) × (k : ℕ) × (a : L) × Lowered v k a)
          ⊎ ((after.ceiling ≡ before.ceiling) × ((v k : ℕ) (a : L) → Meets v k a → within p.kind (amount_of before.ceiling) (Some a) ≡ true))
