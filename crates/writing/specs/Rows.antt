-- Records that are made one at a time.
use Rattle.std.specs.Prelude.{◌≡◌, ℕ, ◌<◌, List, length, Option}
use Rattle.std.specs.List.{slice_get}

-- so many records, each of which the maker gives under its number
pub record MadeOneByOne {R : Type 0} (gives : ℕ → Option R → Type 0) (count : ℕ) (rs : List R) : Type 0 where
  pub many : length rs ≡ count
  pub each : (k : ℕ) (o : Option R) → k < count → gives k o → o ≡ slice_get rs k
