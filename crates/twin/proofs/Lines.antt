-- What is written of a report, and what is still to come.
use Rattle.std.proofs.Common.{◌≡◌, ℕ, ◌+◌, List, ◌++◌, drop, Some, sym, ap, ◌∙◌, append_assoc}
use Rattle.std.specs.List.{slice_get}
use Rattle.amounts.specs.declared.forms.SectionForm.{SectionForm}
use Rattle.networks.specs.declared.section.Section.{Section}
use Rattle.networks.proofs.Numbers.{drop_nth}
use Rattle.twin.specs.Report.{section_line, section_lines}

module _ {S : Type 0} (parts : S → SectionForm) where
  pub lines_more : (ss : List (Section S)) (i : ℕ) (s : Section S) (before after : List ℕ) → Some s ≡ slice_get ss i → after ≡ before ++ section_line parts i s → after ++ section_lines parts (i + 1) (drop (i + 1) ss) ≡ before ++ section_lines parts i (drop i ss)
  lines_more ss i s before after h e =
      let rest = section_lines parts (i + 1) (drop (i + 1) ss) in
      ap (λ l. l ++ rest) e ∙ append_assoc before (section_line parts i s) rest ∙ sym (ap (λ d. before ++ section_lines parts i d) (drop_nth ss i s h))
