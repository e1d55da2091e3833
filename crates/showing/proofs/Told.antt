-- The lines of an answer by what a view tells of it.
use Rattle.std.proofs.Common.{◌≡◌, ℕ, List, [], ◌++◌, Some, None, Option, refl, subst, append_assoc}
use Rattle.std.proofs.lemmas.Option.{same_Some}
use Rattle.std.specs.Option.{option_map}
use Rattle.amounts.specs.declared.cost.Cost as cost
use Rattle.amounts.specs.Forms.{Forms}
use Rattle.contents.specs.declared.answer.Answer.{Answer}
use Rattle.contents.specs.Content.{Meant, filed_by, step_in}
use Rattle.showing.specs.Lines.{lines}
use Rattle.showing.specs.Shown.{line_of, step_line, answer_line, answer_lines}

module _ {C L S : Type 0} (c : cost.Ghosts C L S) (forms : Forms L S) where
  pub answer_none : (o : Option (Meant L)) → option_map filed_by o ≡ None → answer_lines c forms o ≡ []
  answer_none None e = refl
  answer_none (Some m) e = cc

  pub answer_some : (o : Option (Meant L)) (f : Answer L ℕ) → option_map filed_by o ≡ Some f
      → answer_lines c forms o ≡ answer_line c forms f ++ lines (λ k. line_of (step_line c forms) (step_in o k)) f.steps
  answer_some None f e = cc
  answer_some (Some m) f e =
      subst (λ g. answer_lines c forms (Some m) ≡ answer_line c forms g ++ lines (λ k. line_of (step_line c forms) (step_in (Some m) k)) g.steps) (same_Some _ _ e) refl

-- five texts, each put behind the one before
pub five_texts : (h s t a v : List ℕ) {one two three four five : List ℕ} → one ≡ h → two ≡ one ++ s → three ≡ two ++ t → four ≡ three ++ a → five ≡ four ++ v
    → five ≡ h ++ (s ++ (t ++ (a ++ v)))
five_texts h s t a v p q r u w = rw (w, u, r, q, p) (simp append_assoc)
