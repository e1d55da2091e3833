-- An answer has no fault exactly if a page can hold it.
use Rattle.std.proofs.lemmas.Grind.{common_steps}
use Rattle.std.proofs.Common.{◌≡◌, ℕ, ◌+◌, ◌*◌, ◌<◌, ◌≤◌, ◌↔◌, Bool, true, false, cond, not, ◌&&◌, eqb, List, [], ◌∷◌, length, get_or, is_some, Some, None, Option, sym, refl, ap, ◌∙◌, ap₂, arith}
use Rattle.std.specs.List.{AllByRecursion, slice_get, position, position_from}
use Rattle.std.proofs.lemmas.Option.{slice_get_within}
use Rattle.std.specs.Option.{option_map}
use Rattle.std.proofs.lemmas.Iterator.Adapters.{position_from-zero}
use Rattle.std.proofs.lemmas.List.Elements.{All-from_recursion, recursion_from_All}
use Rattle.std.proofs.lemmas.List.{nil_from_length}
use Rattle.std.proofs.lemmas.Bool.{and_parts, and_from, eqb-true, eq-eqb, le-leb, lt-ltb}
use Rattle.faults.specs.declared.Fault.{Fault}
use Rattle.faults.specs.declared.Refusal.TheVariants.{FieldOutOfRange}
use Rattle.amounts.specs.declared.cost.Cost as cost
use Rattle.amounts.specs.declared.forms.LabelForm.{LabelForm}
use Rattle.amounts.specs.Forms.{Forms, label_form, OnPage}
use Rattle.networks.specs.declared.section.Section.{Section}
use Rattle.networks.specs.Nets.{Net, InRange}
use Rattle.records.specs.Due.{page_fault}
use Rattle.contents.specs.declared.answer.Outcome.{Outcome}
use Rattle.contents.specs.declared.answer.Outcome.TheVariants.{Found, NoRoute}
use Rattle.contents.specs.declared.answer.Step.{Step}
use Rattle.contents.specs.Content.{Meant}
use Rattle.contents.specs.Encoding.{form_of, StepValid, NothingAt, FiledValid, AnswerValid, PageLaws}
use Rattle.contents.specs.Writing.{ends_same, step_good, nothing_at, meant_good, steps_fault, answer_fault, answer_size, RunFits, Short}

none_left : {A : Type 0} (b : Bool) (o : Option A) (a : A) → cond b o (Some a) ≡ None → (b ≡ true) × (o ≡ None)
none_left true o a e = (refl, e)
none_left false o a e = cc

-- none is left exactly if the test holds and none was there
both_left : {A P Q : Type 0} (b : Bool) (o : Option A) (a : A) → (b ≡ true) ↔ P → (o ≡ None) ↔ Q → (cond b o (Some a) ≡ None) ↔ (P × Q)
both_left true o a p q = (λ e. (p.0 refl, q.0 e), λ v. q.1 v.1)
both_left false o a p q = (λ e. cc, λ v. cc (p.1 v.0))

module _ {C L S : Type 0} (c : cost.Ghosts C L S) (forms : Forms L S) (net : Net S) where
  -- The first step that a page cannot hold ----------------------------------------------------

  module _ (at : ℕ) where
    field : ℕ → Fault
    field k = page_fault (FieldOutOfRange (at + 13 * k))

    pick : (i : ℕ) (good : Bool) (x : Option Fault) (y : Option ℕ) → x ≡ option_map field y → cond good x (Some (field i)) ≡ option_map field (cond (not good) (Some i) y)
    pick i true x y e = e
    pick i false x y e = refl

    steps_fault_from : (i : ℕ) (ss : List (Step L)) → steps_fault c forms net (at + 13 * i) ss ≡ option_map field (position_from (λ s. not (step_good c forms net s)) i ss)
    unfolding field
    steps_fault_from i [] = refl
    steps_fault_from i (s ∷ ss) =
        pick i (step_good c forms net s) (steps_fault c forms net (at + 13 * i + 13) ss) (position_from (λ t. not (step_good c forms net t)) (i + 1) ss)
        (ap (λ n. steps_fault c forms net n ss) (omega arith) ∙ steps_fault_from (i + 1) ss)

    pub steps_fault_position : (ss : List (Step L)) (first : Option ℕ) → first ≡ position (λ s. not (step_good c forms net s)) ss
        → steps_fault c forms net at ss ≡ option_map (λ k. page_fault (FieldOutOfRange (at + 13 * k))) first
    unfolding field
    steps_fault_position ss first e =
        ap (λ n. steps_fault c forms net n ss) (omega arith) ∙ steps_fault_from 0 ss
        ∙ ap (option_map field) (sym (e ∙ position_from-zero (λ s. not (step_good c forms net s)) ss))

  -- Without a fault, and valid, are one -------------------------------------------------------

  on_page : (a : L) → (is_some (forms.shown a) ≡ true) ↔ OnPage forms a
  on_page a = (go (forms.shown a) refl, λ p. ap is_some p.1)
    where
      go : (o : Option LabelForm) → forms.shown a ≡ o → is_some o ≡ true → OnPage forms a
      go None e k = cc
      go (Some f) e k = (f, e)

  pub step_valid : (s : Step L) → (step_good c forms net s ≡ true) ↔ StepValid c forms net.sections s
  step_valid s = (go (slice_get net.sections s.section) refl, back)
    where
      go : (o : Option (Section S)) → slice_get net.sections s.section ≡ o → (ends_same c forms o s && is_some (forms.shown s.so_far)) ≡ true → StepValid c forms net.sections s
      go None there k = cc
      go (Some x) there k =
          let p = and_parts (eqb s.from x.from && eqb s.to x.to) (is_some (forms.shown s.so_far)) k in
          let q = and_parts (eqb s.from x.from) (eqb s.to x.to) p.0 in
          record { section = x; there = there; from = eqb-true _ _ q.0; to = eqb-true _ _ q.1; cost = (on_page s.so_far).0 p.1 }

      back : StepValid c forms net.sections s → step_good c forms net s ≡ true
      back v =
          and_from _ _
          (ap (λ o. ends_same c forms o s) v.there ∙ and_from _ _ (eq-eqb _ _ v.from) (eq-eqb _ _ v.to))
          ((on_page s.so_far).1 v.cost)

  pub steps_valid : (at : ℕ) (ss : List (Step L)) → (steps_fault c forms net at ss ≡ None) ↔ AllByRecursion (StepValid c forms net.sections) ss
  steps_valid at [] = (λ e. tt, λ v. refl)
  steps_valid at (s ∷ ss) = both_left _ _ _ (step_valid s) (steps_valid (at + 13) ss)

  meant_parts : (m : Meant L) → meant_good c forms net m ≡ true → OnPage forms m.cost × (length m.steps ≤ 4095) × (m.taken < net.stations) × (nothing_at c forms m.outcome m.cost (length m.steps) ≡ true)
  meant_parts m e = grind (arith, common_steps)

  module _ (laws : PageLaws c forms) where
    nothing_valid : (o : Outcome) (a : L) (ss : List (Step L)) → OnPage forms a → (nothing_at c forms o a (length ss) ≡ true) ↔ NothingAt c forms o a ss
    nothing_valid Found a ss p = (λ e. tt, λ v. refl)
    nothing_valid NoRoute a ss (f, shown) = (
      λ e.
          let p = and_parts (eqb (form_of c forms a).moves 0 && eqb (form_of c forms a).samples 0) (eqb (length ss) 0) e in
          let q = and_parts (eqb (form_of c forms a).moves 0) (eqb (form_of c forms a).samples 0) p.0 in
          let none : form_of c forms a ≡ label_form 0 0 = ap₂ label_form (eqb-true _ _ q.0) (eqb-true _ _ q.1) in
          let told = laws.labels.again a f shown in
          let nought = laws.labels.again c.ops.zero (label_form 0 0) laws.labels.zero_shown in
          let is : f ≡ form_of c forms a = rw shown in
          (cc, nil_from_length ss (eqb-true _ _ p.1)),
      λ (e, k). rw (e, k, laws.labels.zero_shown),
    )

    pub filed_valid : (m : Meant L) → (meant_good c forms net m ≡ true) ↔ FiledValid c forms net m
    filed_valid m = (
      λ e.
          let p = meant_parts m e in
          record { cost = p.0; few = p.1; taken = p.2; nothing = (nothing_valid m.outcome m.cost m.steps p.0).0 p.3 },
      λ v.
          and_from _ _ ((on_page m.cost).1 v.cost)
          (and_from _ _ (le-leb _ _ v.few) (and_from _ _ (lt-ltb _ _ v.taken) ((nothing_valid m.outcome m.cost m.steps v.cost).1 v.nothing))),
    )

    pub answer_valid : (at : ℕ) (o : Option (Meant L)) → RunFits o → (answer_fault c forms net at o ≡ None) ↔ AnswerValid c forms net o
    answer_valid at None run = (λ e. tt, λ v. refl)
    answer_valid at (Some m) run =
        let p = both_left _ _ _ (filed_valid m) (steps_valid (at + 20) m.steps) in
        (λ e. let q = p.0 e in record { run = run; filed = q.0; each = q.1 }, λ v. p.1 (v.filed, v.each))

    -- what is valid has no fault
    pub no_fault : (at : ℕ) (o : Option (Meant L)) → AnswerValid c forms net o → answer_fault c forms net at o ≡ None
    no_fault at None v = refl
    no_fault at (Some m) v = (answer_valid at (Some m) v.run).1 v

  -- its numbers have two bytes, and its steps are few
  pub short : (at : ℕ) (o : Option (Meant L)) → InRange c.section_range net → answer_fault c forms net at o ≡ None → Short o × (answer_size o ≤ 53255)
  short at None range e = (tt, omega arith)
  short at (Some m) range e =
      let p = none_left (meant_good c forms net m) (steps_fault c forms net (at + 20) m.steps) _ e in
      let q = meant_parts m p.0 in
      let valid = All-from_recursion (StepValid c forms net.sections) m.steps ((steps_valid (at + 20) m.steps).0 p.1) in (
        (
          omega (arith, range.few),
          omega arith,
          recursion_from_All _ m.steps (λ k d l. let t = valid k d l in omega (arith, range.short, slice_get_within net.sections (get_or m.steps k d).section t.section t.there)),
        ),
        omega arith,
      )
