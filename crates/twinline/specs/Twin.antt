-- The twin line's network, worked out by number.
use Rattle.std.specs.Prelude.{ℕ, ◌+◌, ◌-◌, ◌*◌, ◌/◌, ◌%◌, ◌^◌, ◌<◌, ◌≤◌, Bool, false, cond, [], ◌∷◌, map, Result, ◌==◌, nat_lt}
use Rattle.std.specs.List.{range_with_len}
use Rattle.faults.specs.Faults.{ranged}
use Rattle.faults.specs.Reasons.{Reasons, refused_if, else_accepted}
use Rattle.amounts.specs.Forms.{section_form}
use Rattle.amounts.specs.Sampling.{length_fits, rate_fits, samples_in, TooLong, NoSuchRate}
use Rattle.amounts.specs.declared.forms.SectionForm.{SectionForm}
use Rattle.faults.specs.declared.Fault.{Fault}
use Rattle.faults.specs.declared.Refusal.TheVariants.{ParameterOutOfRange}
use Rattle.faults.specs.declared.Side.{Side}
use Rattle.faults.specs.declared.Side.TheVariants.{Forward, Backward}
use Rattle.twinline.specs.declared.twin_line.Drawing.{Drawing}
use Rattle.networks.specs.declared.section.Section.{Section}
use Rattle.networks.specs.Nets.{Net}
use Rattle.std.specs.Int.{is_in_range, IsOutOfRange}

-- From the drawing ---------------------------------------------------------------------------

-- what a twin line holds: stations a pipe, spacing, and the samples of each sort of section
pub record Line : Type 0 where
  pub count : ℕ
  pub spacing : ℕ
  pub upper : ℕ
  pub lower : ℕ
  pub crossover : ℕ

abbrev pub line : ℕ → ℕ → ℕ → ℕ → ℕ → Line
line c s u l x = record { count = c; spacing = s; upper = u; lower = l; crossover = x }

pub record LineRange (l : Line) : Type 0 where
  pub counted : (1 ≤ l.count) × (l.count ≤ 2048)
  pub spaced : (1 ≤ l.spacing) × (l.spacing ≤ 2048)
  pub fit : (l.upper < 2 ^ 32) × (l.lower < 2 ^ 32) × (l.crossover < 2 ^ 32)

-- the parameters in their order: count, spacing, upper, lower, crossover, rate
abbrev pub line_drawn : Drawing → Result Line Fault
line_drawn d =
    ranged
    (is_in_range 1 2048 d.count ∷ is_in_range 1 2048 d.spacing ∷ length_fits d.upper ∷ length_fits d.lower ∷ length_fits d.crossover ∷ rate_fits d.rate ∷ [])
    (line d.count d.spacing (samples_in d.upper d.rate) (samples_in d.lower d.rate) (samples_in d.crossover d.rate))

-- why a twin line is not drawn
abbrev pub drawing_reasons : Drawing → Reasons
drawing_reasons d =
    refused_if (IsOutOfRange 1 2048 d.count) (ParameterOutOfRange 0)
    (refused_if (IsOutOfRange 1 2048 d.spacing) (ParameterOutOfRange 1)
    (refused_if (TooLong d.upper) (ParameterOutOfRange 2)
    (refused_if (TooLong d.lower) (ParameterOutOfRange 3)
    (refused_if (TooLong d.crossover) (ParameterOutOfRange 4)
    (refused_if (NoSuchRate d.rate) (ParameterOutOfRange 5)
    else_accepted)))))

-- By number ----------------------------------------------------------------------------------

-- the sections along either pipe, and all of them
abbrev pub along : Line → ℕ
along t = t.count - 1

abbrev pub section_count : Line → ℕ
section_count t = 2 * along t + 2 * (along t / t.spacing + 1)

-- the place on the line of a section across, and whether it goes down
abbrev pub cross_place : Line → ℕ → ℕ
cross_place t n = (n - 2 * along t) / 2 * t.spacing

abbrev pub cross_down : Line → ℕ → Bool
cross_down t n = (n - 2 * along t) % 2 == 0

-- the station at which a side comes to the numbered section
abbrev pub end_of : Line → Side → ℕ → ℕ
end_of t Forward n =
    cond (nat_lt n (along t)) n
    (cond (nat_lt n (2 * along t)) (t.count + (n - along t))
    (cond (cross_down t n) (cross_place t n) (t.count + cross_place t n)))
end_of t Backward n =
    cond (nat_lt n (along t)) (n + 1)
    (cond (nat_lt n (2 * along t)) (t.count + (n - along t) + 1)
    (cond (cross_down t n) (t.count + cross_place t n) (cross_place t n)))

abbrev pub open_section : {S : Type 0} → ℕ → ℕ → S → Section S
open_section from to amount = record { from = from; to = to; amount = amount; shut = false }

-- `made` gives a kind's amount for a form
module _ {S : Type 0} (made : SectionForm → S) (t : Line) where
  abbrev pub amount_of : ℕ → S
  amount_of n = cond (nat_lt n (along t)) (made (section_form 0 t.upper)) (cond (nat_lt n (2 * along t)) (made (section_form 0 t.lower)) (made (section_form 1 t.crossover)))

  abbrev pub numbered : ℕ → Section S
  numbered n = open_section (end_of t Forward n) (end_of t Backward n) (amount_of n)

  abbrev pub twin_net : Net S
  twin_net = record { stations = 2 * t.count; launcher = 0; trap = 2 * t.count - 1; sections = map numbered (range_with_len 0 (section_count t)) }
