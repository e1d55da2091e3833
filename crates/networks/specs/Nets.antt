-- What a network means, and what its questions ask of that meaning.
use Rattle.std.specs.Prelude.{◌≡◌, ℕ, ◌+◌, ◌<◌, ◌≤◌, Bool, true, cond, List, [], ◌∷◌, length, Some, ◌==◌}
use Rattle.std.specs.List.{AllByRecursion, slice_get}
use Rattle.faults.specs.Faults.{opposite}
use Rattle.faults.specs.declared.Side.{Side}
use Rattle.faults.specs.declared.Side.TheVariants.{Forward, Backward}
use Rattle.networks.specs.declared.section.Section.{Section}

-- stations and sections count from 0; S is what a kind has for a section's amount
pub record Net (S : Type 0) : Type 0 where
  pub stations : ℕ
  pub launcher : ℕ
  pub trap : ℕ
  pub sections : List (Section S)

-- Ranges -------------------------------------------------------------------------------------

-- a section among so many stations, with an amount in the range of its kind
pub record SectionInRange {S : Type 0} (range : S → Type 0) (stations : ℕ) (s : Section S) : Type 0 where
  pub from : s.from < stations
  pub to : s.to < stations
  pub amount : range s.amount

pub record InRange {S : Type 0} (range : S → Type 0) (net : Net S) : Type 0 where
  pub some : 1 ≤ net.stations
  pub few : net.stations ≤ 4096
  pub launcher : net.launcher < net.stations
  pub trap : net.trap < net.stations
  pub short : length net.sections ≤ 16384
  pub each : AllByRecursion (SectionInRange range net.stations) net.sections

-- Leaving and entering -----------------------------------------------------------------------

-- the station at which a side comes to a section: the one it leaves forward, the one it enters backward
abbrev pub tail : {S : Type 0} → Side → Section S → ℕ
tail Forward s = s.from
tail Backward s = s.to

-- the station to which a side goes along a section
abbrev pub head : {S : Type 0} → Side → Section S → ℕ
head side s = tail (opposite side) s

-- whether the section leaves the station (forward) or enters it (backward)
abbrev pub starts : {S : Type 0} → Side → ℕ → Section S → Bool
starts side station s = tail side s == station

-- the numbers, rising from n, of the elements that pass
abbrev pub numbers : {X : Type 0} → (X → Bool) → ℕ → List X → List ℕ
numbers test n [] = []
numbers test n (x ∷ xs) = cond (test x) (n ∷ numbers test (n + 1) xs) (numbers test (n + 1) xs)

-- the numbers of the sections that leave a station, or that enter it
abbrev pub starters : {S : Type 0} → Side → Net S → ℕ → List ℕ
starters side net station = numbers (starts side station) 0 net.sections

-- The roll of those that pass: rising, with nothing else in it, and complete.
pub record Roll {X : Type 0} (test : X → Bool) (xs : List X) (roll : List ℕ) : Type 0 where
  pub rising : (i j m n : ℕ) → i < j → slice_get roll i ≡ Some m → slice_get roll j ≡ Some n → m < n
  pub nothing_else : (i n : ℕ) → slice_get roll i ≡ Some n → (x : X) × (slice_get xs n ≡ Some x) × (test x ≡ true)
  pub complete : (n : ℕ) (x : X) → slice_get xs n ≡ Some x → test x ≡ true → (i : ℕ) × (slice_get roll i ≡ Some n)
