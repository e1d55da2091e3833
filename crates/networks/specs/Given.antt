-- What a source of estimates means.
use Rattle.std.specs.Prelude.{List}
use Rattle.std.specs.List.{AllByRecursion}
use Rattle.networks.specs.declared.estimates.Pair.{Pair}

-- a station's two estimates, each in the range of its kind
pub record PairInRange {L : Type 0} (range : L → Type 0) (p : Pair L) : Type 0 where
  pub forward : range p.forward
  pub backward : range p.backward

abbrev pub GivenInRange : {L : Type 0} → (L → Type 0) → List (Pair L) → Type 0
GivenInRange range given = AllByRecursion (PairInRange range) given
