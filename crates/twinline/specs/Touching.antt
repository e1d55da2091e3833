-- Words for the sections at a station of a twin line: one along and one across, at most.
use Rattle.std.specs.Prelude.{◌≡◌, ℕ, ◌*◌, ◌<◌, ◌≤◌, Bool, List, ◌∷◌, Some, None, Option}
use Rattle.twinline.specs.Twin.{Line, along, section_count, cross_place, cross_down}

-- the only number from low up to high whose value is s, if any is
pub record Only (value : ℕ → ℕ) (s low high : ℕ) (o : Option ℕ) : Type 0 where
  pub here : (m : ℕ) → o ≡ Some m → (low ≤ m) × (m < high) × (value m ≡ s)
  pub alone : (m : ℕ) → low ≤ m → m < high → value m ≡ s → o ≡ Some m

-- the only section across at a place, down or up
pub record Crossing (t : Line) (place : ℕ) (down : Bool) (o : Option ℕ) : Type 0 where
  pub here : (m : ℕ) → o ≡ Some m → (2 * along t ≤ m) × (m < section_count t) × (cross_place t m ≡ place) × (cross_down t m ≡ down)
  pub alone : (m : ℕ) → 2 * along t ≤ m → m < section_count t → cross_place t m ≡ place → cross_down t m ≡ down → o ≡ Some m

abbrev pub or_none : Option ℕ → List ℕ → List ℕ
or_none None rest = rest
or_none (Some n) rest = n ∷ rest
