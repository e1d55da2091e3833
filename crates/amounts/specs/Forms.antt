-- The form that amounts have on a page: valve moves and samples.
use Rattle.std.specs.Prelude.{◌≡◌, ℕ, ◌^◌, ◌<◌, ◌≤◌, Bool, cond, not, ◌&&◌, ◌||◌, List, length, is_some, Some, None, Option, ◌==◌, nat_lt}
use Rattle.std.specs.List.{AllByRecursion}
use Rattle.amounts.specs.Amount.{Ops, Le, total}
use Rattle.amounts.specs.declared.forms.LabelForm.{LabelForm}
use Rattle.amounts.specs.declared.forms.SectionForm.{SectionForm}

abbrev pub section_form : ℕ → ℕ → SectionForm
section_form m s = record { moves = m; samples = s }

abbrev pub label_form : ℕ → ℕ → LabelForm
label_form m s = record { moves = m; samples = s }

-- A section's form in range: its moves have two bytes on a page, its samples four.
pub record SectionRange (f : SectionForm) : Type 0 where
  pub moves : f.moves < 2 ^ 16
  pub samples : f.samples < 2 ^ 32

-- A label's form in range, as an estimate or a cost stands on a page.
pub record LabelRange (f : LabelForm) : Type 0 where
  pub moves : f.moves < 2 ^ 32
  pub samples : f.samples < 2 ^ 44

-- A kind's amounts as they stand on a page, and the amounts that forms tell.
pub record Forms (L S : Type 0) : Type 0 where
  -- a section's amount as its form, and the amount that is made of a form
  pub parts : S → SectionForm
  pub made : SectionForm → S
  -- a label's form, absent where it has none, and the label that a form tells, absent where the kind has none
  pub shown : L → Option LabelForm
  pub told : LabelForm → Option L

-- Such an amount stands on a page.
abbrev pub OnPage : {L S : Type 0} → Forms L S → L → Type 0
OnPage forms a = (f : LabelForm) × (forms.shown a ≡ Some f)

-- A section's amount and its form.
pub record SectionLaws {L S : Type 0} (forms : Forms L S) (section_range : S → Type 0) : Type 0 where
  -- an amount is the one made of its form
  pub whole : (s : S) → forms.made (forms.parts s) ≡ s
  -- what is made keeps the samples
  pub samples_kept : (f : SectionForm) → (forms.parts (forms.made f)).samples ≡ f.samples
  -- an amount is in range exactly if its form is
  pub in_range : (f : SectionForm) → SectionRange f → section_range (forms.made f)
  pub form_range : (s : S) → section_range s → SectionRange (forms.parts s)

-- A label and its form.
pub record LabelLaws {L S : Type 0} (o : Ops L) (forms : Forms L S) (estimate_range : L → Type 0) : Type 0 where
  -- what is shown is in range, and tells the label again
  pub range : (a : L) (f : LabelForm) → forms.shown a ≡ Some f → LabelRange f
  pub again : (a : L) (f : LabelForm) → forms.shown a ≡ Some f → forms.told f ≡ Some a
  -- what a form in range tells is shown as that form
  pub back : (a : L) (f : LabelForm) → LabelRange f → forms.told f ≡ Some a → forms.shown a ≡ Some f
  -- what is shown is at least zero
  pub at_least_zero : (a : L) (f : LabelForm) → forms.shown a ≡ Some f → Le o o.zero a
  -- an amount may be an estimate exactly if it stands on a page
  pub in_range : (a : L) → OnPage forms a → estimate_range a
  pub on_page : (a : L) → estimate_range a → OnPage forms a
  pub zero_shown : forms.shown o.zero ≡ Some (label_form 0 0)

abbrev pub same_form : SectionForm → SectionForm → Bool
same_form f g = f.moves == g.moves && f.samples == g.samples

-- Kind 1 has zero moves; any other kind may have some.
abbrev pub moves_fit : ℕ → ℕ → Bool
moves_fit kind moves = not (kind == 1) || moves == 0

-- Which forms a kind's amounts have, by the kind's byte.
pub record KindLaws {L S : Type 0} (kind : ℕ) (forms : Forms L S) : Type 0 where
  pub byte : kind < 256
  pub sections : (f : SectionForm) → same_form (forms.parts (forms.made f)) f ≡ moves_fit kind f.moves
  pub labels : (f : LabelForm) → is_some (forms.told f) ≡ (moves_fit kind f.moves && nat_lt f.samples (2 ^ 44))

-- The cost of a route of at most 4,095 sections stands on a page.
abbrev pub TotalsOnPage : {L S : Type 0} → Ops L → (S → L) → (S → Type 0) → Forms L S → Type 0
TotalsOnPage {S = S} o worth section_range forms =
    (ss : List S) → AllByRecursion section_range ss → length ss ≤ 4095 → OnPage forms (total o worth ss)

-- The amount that a page gives a section: absent where the kind has none of this form.
abbrev pub told_section : {L S : Type 0} → Forms L S → SectionForm → Option S
told_section forms f = cond (same_form (forms.parts (forms.made f)) f) (Some (forms.made f)) None
