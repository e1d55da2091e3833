-- The two kinds of cost: samples alone, and valve moves before samples.
use Rattle.std.specs.Prelude.{ℕ, ◌^◌, ◌<◌, max, Bool, true, false, cond, ◌&&◌, ℤ, pos, negsuc, ◌+ℤ◌, ◌-ℤ◌, Some, None, Option, ◌==◌, int_le, int_lt, nat_lt, unsigned_abs}
use Rattle.amounts.specs.Amount.{Ops}
use Rattle.amounts.specs.Forms.{Forms, section_form, label_form}
use Rattle.amounts.specs.declared.forms.LabelForm.{LabelForm}
use Rattle.amounts.specs.declared.forms.SectionForm.{SectionForm}
use Rattle.amounts.specs.declared.kinds.MovesLabel.{MovesLabel}

-- A number as it stands in a page's field below the limit: absent where it is too large or below zero.
abbrev pub field : ℕ → ℤ → Option ℕ
field limit (pos n) = cond (nat_lt n limit) (Some n) None
field limit (negsuc n) = None

-- Such a number stands in the field.
abbrev pub InField : ℕ → ℤ → Type 0
InField limit (pos n) = n < limit
InField limit (negsuc n) = ⊥

abbrev pub both : Option ℕ → Option ℕ → Option LabelForm
both None s = None
both (Some m) None = None
both (Some m) (Some s) = Some (label_form m s)

-- Samples ------------------------------------------------------------------------------------

abbrev pub samples : Ops ℤ
samples = record { zero = pos 0; plus = ◌+ℤ◌; minus = ◌-ℤ◌; leb = int_le; size = unsigned_abs }

abbrev pub samples_parts : ℕ → SectionForm
samples_parts s = section_form 0 s

abbrev pub samples_made : SectionForm → ℕ
samples_made f = f.samples

abbrev pub samples_shown : ℤ → Option LabelForm
samples_shown a = both (Some 0) (field (2 ^ 44) a)

abbrev pub samples_told : LabelForm → Option ℤ
samples_told f = cond (f.moves == 0 && nat_lt f.samples (2 ^ 44)) (Some (pos f.samples)) None

abbrev pub samples_forms : Forms ℤ ℕ
samples_forms = record { parts = samples_parts; made = samples_made; shown = samples_shown; told = samples_told }

abbrev pub samples_section : ℕ → Type 0
samples_section s = s < 2 ^ 32

abbrev pub samples_estimate : ℤ → Type 0
samples_estimate a = InField (2 ^ 44) a

-- Moves --------------------------------------------------------------------------------------

abbrev pub label : ℤ → ℤ → MovesLabel
label m s = record { moves = m; samples = s }

-- by moves, then by samples
abbrev pub moves_leb : MovesLabel → MovesLabel → Bool
moves_leb a b = cond (int_lt a.moves b.moves) true (cond (int_lt b.moves a.moves) false (int_le a.samples b.samples))

abbrev pub moves : Ops MovesLabel
moves =
    record {
      zero = label (pos 0) (pos 0);
      plus = λ a b. label (a.moves +ℤ b.moves) (a.samples +ℤ b.samples);
      minus = λ a b. label (a.moves -ℤ b.moves) (a.samples -ℤ b.samples);
      leb = moves_leb;
      size = λ a. max (unsigned_abs a.moves) (unsigned_abs a.samples);
    }

abbrev pub moves_worth : SectionForm → MovesLabel
moves_worth s = label (pos s.moves) (pos s.samples)

abbrev pub moves_shown : MovesLabel → Option LabelForm
moves_shown a = both (field (2 ^ 32) a.moves) (field (2 ^ 44) a.samples)

abbrev pub moves_told : LabelForm → Option MovesLabel
moves_told f = cond (nat_lt f.samples (2 ^ 44)) (Some (label (pos f.moves) (pos f.samples))) None

abbrev pub moves_forms : Forms MovesLabel SectionForm
moves_forms = record { parts = λ s. s; made = λ f. f; shown = moves_shown; told = moves_told }

abbrev pub moves_estimate : MovesLabel → Type 0
moves_estimate a = InField (2 ^ 32) a.moves × InField (2 ^ 44) a.samples
