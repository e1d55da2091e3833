-- What holds of a mark, where there is one, and of a ceiling.
use Rattle.std.proofs.Common.{ℕ, Some, None, Option}
use Rattle.amounts.specs.Amount.{Ops, Le}
use Rattle.optimality.specs.declared.sheet.Ceiling.{Ceiling}
use Rattle.optimality.specs.declared.sheet.Ceiling.TheVariants.{Absent, Met}

-- P of it, if there is one
abbrev pub On : {X : Type 0} → Option X → (X → Type 0) → Type 0
On None P = Unit {0}
On (Some x) P = P x

-- there is one, and P of it
abbrev pub Has : {X : Type 0} → Option X → (X → Type 0) → Type 0
Has None P = ⊥
Has (Some x) P = P x

-- P of the amount and the station of a ceiling that stands
abbrev pub OnMet : {L : Type 0} → Ceiling L → (L → ℕ → Type 0) → Type 0
OnMet Absent P = Unit {0}
OnMet (Met a u) P = P a u

-- a ceiling stands, and is at most x
abbrev pub CeilLe : {L : Type 0} → Ops L → Ceiling L → L → Type 0
CeilLe o Absent x = ⊥
CeilLe o (Met a u) x = Le o a x
