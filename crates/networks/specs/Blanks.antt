-- Estimates that say nothing, by the count of their stations.
use Rattle.std.specs.Prelude.{ℕ, List, [], ◌∷◌, replicate, Result}
use Rattle.std.specs.Int.{is_in_range, IsOutOfRange}
use Rattle.amounts.specs.Amount.{Ops}
use Rattle.faults.specs.Faults.{ranged}
use Rattle.faults.specs.Reasons.{Reasons, refused_if, else_accepted}
use Rattle.faults.specs.declared.Fault.{Fault}
use Rattle.faults.specs.declared.Refusal.TheVariants.{ParameterOutOfRange}
use Rattle.networks.specs.declared.estimates.Pair.{Pair}

abbrev pub blank_answer : ℕ → Result ℕ Fault
blank_answer count = ranged (is_in_range 1 4096 count ∷ []) count

-- why there are no blank estimates for so many stations
abbrev pub blank_reasons : ℕ → Reasons
blank_reasons count = refused_if (IsOutOfRange 1 4096 count) (ParameterOutOfRange 0) else_accepted

-- zero both ways, for each station
abbrev pub blank_pair : {L : Type 0} → Ops L → Pair L
blank_pair o = record { forward = o.zero; backward = o.zero }

abbrev pub blank_pairs : {L : Type 0} → Ops L → ℕ → List (Pair L)
blank_pairs o count = replicate count (blank_pair o)
