-- The twin line as it is drawn: an upper run, a lower run, and two crossovers at every multiple of the spacing.
use Rattle.std.specs.Prelude.{ℕ, ◌+◌, ◌-◌, ◌*◌, ◌<◌}
use Rattle.amounts.specs.Forms.{section_form}
use Rattle.amounts.specs.declared.forms.SectionForm.{SectionForm}
use Rattle.networks.specs.declared.section.Section.{Section}
use Rattle.twinline.specs.Twin.{Line, open_section}

-- Upper station i is i, and lower station i is L + i, for i below the count L. `made` gives a kind's amount for a form.
pub data Drawn {S : Type 0} (made : SectionForm → S) (t : Line) : ℕ → Section S → Type 0 where
  -- the i-th section of either run goes one station on
  upper_run : (i : ℕ) → i + 1 < t.count → Drawn made t i (open_section i (i + 1) (made (section_form 0 t.upper)))
  lower_run : (i : ℕ) → i + 1 < t.count → Drawn made t (t.count - 1 + i) (open_section (t.count + i) (t.count + i + 1) (made (section_form 0 t.lower)))
  -- the j-th crossing is at the j-th multiple of the spacing: one section down and the next one up, each with a valve move
  down : (j : ℕ) → j * t.spacing < t.count → Drawn made t (2 * (t.count - 1) + 2 * j) (open_section (j * t.spacing) (t.count + j * t.spacing) (made (section_form 1 t.crossover)))
  up : (j : ℕ) → j * t.spacing < t.count → Drawn made t (2 * (t.count - 1) + 2 * j + 1) (open_section (t.count + j * t.spacing) (j * t.spacing) (made (section_form 1 t.crossover)))
