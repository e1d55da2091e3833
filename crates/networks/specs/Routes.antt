-- Routes through a network, and what they cost.
use Rattle.std.specs.Prelude.{◌≡◌, ℕ, false, List, [], ◌∷◌, Some, None, Option}
use Rattle.std.specs.List.{slice_get}
use Rattle.amounts.specs.Amount.{Ops, total}
use Rattle.networks.specs.declared.section.Section.{Section}
use Rattle.networks.specs.Nets.{Net}

-- open sections, by their numbers, joined from station u to station v
abbrev pub Joins : {S : Type 0} → Net S → ℕ → List ℕ → ℕ → Type 0
Joins net u [] v = u ≡ v
Joins {S} net u (k ∷ ks) v = (s : Section S) × (slice_get net.sections k ≡ Some s) × (s.shut ≡ false) × (s.from ≡ u) × Joins net s.to ks v

-- from the launcher to the trap; the empty list where these are one station
abbrev pub Route : {S : Type 0} → Net S → List ℕ → Type 0
Route net ks = Joins net net.launcher ks net.trap

-- what the numbered section is worth; zero where there is none
abbrev pub worth_in : {L S : Type 0} → Ops L → (S → L) → Option (Section S) → L
worth_in o worth None = o.zero
worth_in o worth (Some s) = worth s.amount

-- the sum of the sections' amounts
abbrev pub cost_of : {L S : Type 0} → Ops L → (S → L) → Net S → List ℕ → L
cost_of o worth net ks = total o (λ k. worth_in o worth (slice_get net.sections k)) ks
