-- What holds of a search that has its sheet to itself, before and after each call.
use Rattle.std.proofs.Common.{◌≡◌, ℕ, zero, suc, ◌+◌, ◌<◌, Bool, true, false, ◌||◌, List, [], ◌∷◌, length, Some, None, Option}
use Rattle.std.specs.List.{count_by}
use Rattle.amounts.specs.Amount.{Le}
use Rattle.faults.specs.Faults.{opposite}
use Rattle.faults.specs.declared.Side.{Side}
use Rattle.faults.specs.declared.Side.TheVariants.{Forward, Backward}
use Rattle.networks.specs.declared.section.Section.{Section}
use Rattle.networks.specs.Nets.{tail, head}
use Rattle.optimality.specs.declared.sheet.Mark.{Mark}
use Rattle.optimality.specs.declared.sheet.Row.{Row}
use Rattle.optimality.specs.declared.sheet.Ceiling.{Ceiling}
use Rattle.optimality.specs.declared.sheet.Front.{Front}
use Rattle.optimality.specs.Sheets.{is_closed, State}
use Rattle.optimality.specs.Problems.{Problem, start, guess, Arc}
use Rattle.optimality.specs.Keys.{opened_mark}
use Rattle.optimality.specs.Search.{mark_at}
use Rattle.optimality.proofs.Marked.{On, Has, OnMet, CeilLe}

-- what a side has marked
abbrev pub Marks : Type 0 → Type 0
Marks L = ℕ → Option (Mark L)

module _ {C L S : Type 0} (p : Problem C L S) where
  -- open sections, joined as a side goes along them
  abbrev pub Walk : Side → ℕ → List ℕ → ℕ → Type 0
  Walk side u [] v = u ≡ v
  Walk side u (k ∷ ks) v = (s : Section S) × Arc p k s × (tail side s ≡ u) × Walk side (head side s) ks v

  -- by how much a side's own estimate is above the other one
  abbrev pub drop : Side → ℕ → L
  drop side u = p.kind.ops.minus (guess p side u) (guess p (opposite side) u)

  -- a key, without limit
  abbrev pub key_at : Side → ℕ → L → L
  key_at side u label = p.kind.ops.plus (p.kind.ops.plus label label) (drop side u)

  -- The arrivals lead from v back to the start in at most n steps, through closed stations, and the label is what they
  -- cost.
  abbrev pub Chain : Side → Marks L → ℕ → ℕ → L → Option ℕ → Type 0
  Chain side f n v label None = (v ≡ start p.net side) × (label ≡ p.kind.ops.zero)
  Chain side f zero v label (Some k) = ⊥
  Chain side f (suc n) v label (Some k) =
      (s : Section S) × Arc p k s × (head side s ≡ v)
      × Has (f (tail side s)) (λ m. (m.closed ≡ true) × (label ≡ p.kind.ops.plus m.label (p.kind.worth s.amount)) × Chain side f n (tail side s) m.label m.arrival)

  -- One side, after n of its stations were closed; the sections that wait have not been gone through.
  pub record SideStands (side : Side) (f : Marks L) (n : ℕ) (Waits : ℕ → Type 0) : Type 0 where
    pub begun : Has (f (start p.net side)) (λ m. Le p.kind.ops m.label p.kind.ops.zero)
    pub relaxed :
        (k : ℕ) (s : Section S) → Arc p k s → (Waits k → ⊥)
        → On (f (tail side s)) (λ m. m.closed ≡ true → Has (f (head side s)) (λ h. Le p.kind.ops h.label (p.kind.ops.plus m.label (p.kind.worth s.amount))))
    pub sorted :
        (u v : ℕ)
        → On (f u) (λ a. a.closed ≡ true → On (f v) (λ b. b.closed ≡ false → Le p.kind.ops (key_at side u a.label) (key_at side v b.label)))
    pub chained : (v : ℕ) → On (f v) (λ m. Chain side f n v m.label m.arrival)

  -- the ceiling is at most the sum of two labels of one station
  abbrev pub Joint : Marks L → Marks L → Ceiling L → Type 0
  Joint f w ceiling = (v : ℕ) → On (f v) (λ a. On (w v) (λ b. CeilLe p.kind.ops ceiling (p.kind.ops.plus a.label b.label)))

  -- and it is that sum at its own station
  abbrev pub Meeting : Marks L → Marks L → Ceiling L → Type 0
  Meeting f w ceiling = OnMet ceiling (λ a m. Has (f m) (λ x. Has (w m) (λ y. a ≡ p.kind.ops.plus x.label y.label)))

abbrev pub row_closed : {C L S : Type 0} → Row C L S → Bool
row_closed r = is_closed r.forward || is_closed r.backward

-- n of a side's stations were closed
pub record Stands {C L S : Type 0} (p : Problem C L S) (st : State C L S) (n : Side → ℕ) : Type 0 where
  pub long : length st.rows ≡ p.net.stations
  pub sides : (side : Side) → SideStands p side (mark_at p.kind st.rows side) (n side) (λ k. ⊥)
  pub joint : (side : Side) → Joint p (mark_at p.kind st.rows side) (mark_at p.kind st.rows (opposite side)) st.ceiling
  pub meeting : (side : Side) → Meeting p (mark_at p.kind st.rows side) (mark_at p.kind st.rows (opposite side)) st.ceiling
  -- no station is closed on both sides
  pub once : (side : Side) (u : ℕ) → is_closed (mark_at p.kind st.rows side u) ≡ true → is_closed (mark_at p.kind st.rows (opposite side) u) ≡ false
  pub counted : n Forward + n Backward ≡ st.taken
  pub tallied : count_by row_closed st.rows ≡ st.taken
  pub few : st.taken < p.net.stations

-- a side's open station of least key, without limit
pub record Next {C L S : Type 0} (p : Problem C L S) (side : Side) (f : Marks L) (r : Front L) : Type 0 where
  pub within : r.station < p.net.stations
  pub marked : f r.station ≡ Some (opened_mark r.label r.arrival)
  pub its_key : r.key ≡ key_at p side r.station r.label
  pub least : (v : ℕ) → On (f v) (λ m. m.closed ≡ false → Le p.kind.ops r.key (key_at p side v m.label))
