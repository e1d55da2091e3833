-- How many samples a length of pipe takes.
use Rattle.std.specs.Prelude.{◌≢◌, ℕ, ◌+◌, ◌*◌, ◌/◌, ◌<◌, ◌≤◌, Bool, ◌||◌, [], ◌∷◌, Result, ◌==◌, nat_le}
use Rattle.faults.specs.Faults.{ranged}
use Rattle.faults.specs.Reasons.{Reasons, refused_if, else_accepted}
use Rattle.faults.specs.declared.Fault.{Fault}
use Rattle.faults.specs.declared.Refusal.TheVariants.{ParameterOutOfRange}

-- at most 8 kilometres
abbrev pub length_fits : ℕ → Bool
length_fits length = nat_le length 8000000

abbrev pub rate_fits : ℕ → Bool
rate_fits rate = rate == 512 || rate == 256

-- millimetres times samples per metre, in samples, rounded up
abbrev pub samples_in : ℕ → ℕ → ℕ
samples_in length rate = (length * rate + 999) / 1000

abbrev pub samples_of : ℕ → ℕ → Result ℕ Fault
samples_of length rate = ranged (length_fits length ∷ rate_fits rate ∷ []) (samples_in length rate)

-- Rounded up: n samples, a thousandth of a metre-rate each, reach over the length, and no fewer do.
pub record Covers (length rate n : ℕ) : Type 0 where
  pub enough : length * rate ≤ n * 1000
  pub least : (m : ℕ) → length * rate ≤ m * 1000 → n ≤ m

-- over 8 kilometres
abbrev pub TooLong : ℕ → Type 0
TooLong length = 8000000 < length

-- no logger samples at the rate
abbrev pub NoSuchRate : ℕ → Type 0
NoSuchRate rate = (rate ≢ 512) × (rate ≢ 256)

-- why a length is not turned into samples
abbrev pub sampling_reasons : ℕ → ℕ → Reasons
sampling_reasons length rate =
    refused_if (TooLong length) (ParameterOutOfRange 0)
    (refused_if (NoSuchRate rate) (ParameterOutOfRange 1)
    else_accepted)
