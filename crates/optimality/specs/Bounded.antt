-- What the bounds of a state are, and whether its search is ended, as relations.
use Rattle.std.specs.Prelude.{◌≡◌, ℕ, ◌<◌, true, Some, None, Option, ◌⊎◌}
use Rattle.amounts.specs.Amount.{Le}
use Rattle.faults.specs.declared.Side.{Side}
use Rattle.faults.specs.declared.Side.TheVariants.{Forward, Backward}
use Rattle.optimality.specs.declared.sheet.Mark.{Mark}
use Rattle.optimality.specs.declared.sheet.Front.{Front}
use Rattle.optimality.specs.declared.sheet.Ceiling.TheVariants.{Met}
use Rattle.optimality.specs.Sheets.{State}
use Rattle.optimality.specs.Problems.{Problem}
use Rattle.optimality.specs.Keys.{computed_sum, within, twice}
use Rattle.optimality.specs.Search.{mark_at}
use Rattle.optimality.specs.Published.{IsNext}

module _ {C L S : Type 0} (p : Problem C L S) (st : State C L S) where
  -- A side's least key is that of the station that comes next; absent, the side has no open station.
  abbrev pub LeastKey : Side → Option L → Type 0
  LeastKey side None = (v : ℕ) (m : Mark L) → v < p.net.stations → mark_at p.kind st.rows side v ≡ Some m → m.closed ≡ true
  LeastKey side (Some a) = (f : Front L) × IsNext p st.rows side f × (a ≡ f.key)

  -- the least keys of both sides, forward and backward
  abbrev pub LeastKeys : L → L → Type 0
  LeastKeys a b = LeastKey Forward (Some a) × LeastKey Backward (Some b)

  -- the two least keys add up to as much; absent, a side has no open station
  abbrev pub LeastSum : Option L → Type 0
  LeastSum None = (side : Side) × LeastKey side None
  LeastSum (Some x) = (a : L) × (b : L) × LeastKeys a b × (x ≡ computed_sum p.kind a b)

  -- The floor is at most the sum of the least keys, at most twice the ceiling, and one of the two. What is absent counts
  -- as above every amount.
  pub record IsFloor (x : Option L) : Type 0 where
    pub sum : Option L
    pub adds_up : LeastSum sum
    pub at_most_sum : within p.kind x sum ≡ true
    pub at_most_twice : within p.kind x (twice p.kind st.ceiling) ≡ true
    pub one_of_both : (x ≡ sum) ⊎ (x ≡ twice p.kind st.ceiling)

  -- the two least keys add up to at least twice the ceiling
  pub record KeysMeet : Type 0 where
    pub forward_key : L
    pub backward_key : L
    pub keys : LeastKeys forward_key backward_key
    pub amount : L
    pub station : ℕ
    pub ceiling : st.ceiling ≡ Met amount station
    pub at_least : Le p.kind.ops (computed_sum p.kind amount amount) (computed_sum p.kind forward_key backward_key)

  -- a side has no open station, or the two least keys add up to at least twice the ceiling
  abbrev pub IsEnded : Type 0
  IsEnded = ((side : Side) × LeastKey side None) ⊎ KeysMeet

  -- Both sides have an open station, and the two least keys add up to less than twice the ceiling, if there is one.
  pub record IsGoingOn : Type 0 where
    pub forward_key : L
    pub backward_key : L
    pub keys : LeastKeys forward_key backward_key
    pub less : (a : L) (m : ℕ) → st.ceiling ≡ Met a m → Le p.kind.ops (computed_sum p.kind a a) (computed_sum p.kind forward_key backward_key) → ⊥
