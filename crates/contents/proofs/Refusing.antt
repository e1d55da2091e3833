-- That a write's fault names the first of the reasons that is so.
use Rattle.std.proofs.Common.{◌≡◌, ◌≢◌, ℕ, ◌+◌, ◌<◌, ◌↔◌, Bool, true, false, cond, eqb, ltb, List, [], ◌∷◌, length, Some, None, Option, refl, subst, sym}
use Rattle.std.proofs.lemmas.Bool.{eqb-true, eq-eqb, ltb-true, lt-ltb}
use Rattle.faults.specs.declared.Fault.{Fault}
use Rattle.faults.specs.declared.Layer.TheVariants as layer
use Rattle.faults.specs.declared.Refusal.{Refusal}
use Rattle.faults.specs.declared.Refusal.TheVariants.{EstimateCount, PageTooShort, FieldOutOfRange}
use Rattle.faults.proofs.InOrder.{named, passed}
use Rattle.faults.specs.Reasons.{Reasons, refused_if, FirstReason}
use Rattle.amounts.specs.declared.cost.Cost as cost
use Rattle.amounts.specs.Forms.{Forms}
use Rattle.networks.specs.Nets.{Net}
use Rattle.records.specs.Due.{page_fault}
use Rattle.contents.specs.declared.answer.Step.{Step}
use Rattle.contents.specs.Content.{Meant, Content}
use Rattle.contents.specs.Encoding.{PageLaws, before_answer}
use Rattle.contents.specs.Refusing.{steps_reasons, answer_reasons, write_reasons}
use Rattle.contents.specs.Writing.{answer_at, needed, step_good, meant_good, steps_fault, answer_fault, write_fault}
use Rattle.contents.proofs.Holding.{step_valid, filed_valid}
use Rattle.contents.proofs.Returning.{before_length}
use Rattle.contents.proofs.Wrote.{needed_is}

-- a reason that is so where a test fails
unless : {P : Type 0} (b : Bool) → (b ≡ true) ↔ P → (r : Refusal) (rest : Reasons) (o : Option Fault) → FirstReason layer.Page rest o
    → FirstReason layer.Page (refused_if (¬ P) r rest) (cond b o (Some (page_fault r)))
unless true p r rest o first = passed layer.Page r rest o (λ k. k (p.0 refl)) first
unless false p r rest o first = named layer.Page r rest (λ k. cc (p.1 k))

-- a reason that is so where a test holds
where_so : {P : Type 0} (b : Bool) → (b ≡ true) ↔ P → (r : Refusal) (rest : Reasons) (o : Option Fault) → FirstReason layer.Page rest o
    → FirstReason layer.Page (refused_if P r rest) (cond b (Some (page_fault r)) o)
where_so true p r rest o first = named layer.Page r rest (p.0 refl)
where_so false p r rest o first = passed layer.Page r rest o (λ k. cc (p.1 k)) first

module _ {C L S : Type 0} (c : cost.Ghosts C L S) (forms : Forms L S) where
  steps_first : (net : Net S) (at : ℕ) (ss : List (Step L)) → FirstReason layer.Page (steps_reasons c forms net at ss) (steps_fault c forms net at ss)
  steps_first net at [] = tt
  steps_first net at (s ∷ ss) = unless (step_good c forms net s) (step_valid c forms net s) (FieldOutOfRange at) (steps_reasons c forms net (at + 13) ss) _ (steps_first net (at + 13) ss)

  module _ (laws : PageLaws c forms) where
    answer_first : (net : Net S) (at : ℕ) (o : Option (Meant L)) → FirstReason layer.Page (answer_reasons c forms net at o) (answer_fault c forms net at o)
    answer_first net at None = tt
    answer_first net at (Some m) = unless (meant_good c forms net m) (filed_valid c forms net laws m) (FieldOutOfRange at) (steps_reasons c forms net (at + 20) m.steps) _ (steps_first net (at + 20) m.steps)

    pub write_first : (room : ℕ) (x : Content L S) (fault : Option Fault) → fault ≡ write_fault c forms room x → FirstReason layer.Page (write_reasons c forms room x) fault
    write_first room x fault is =
        let at : ℕ = length (before_answer c forms x) in
        let place : at ≡ answer_at x = before_length c forms x in
        let answer = answer_reasons c forms x.network at x.answer in
        let first = subst (λ n. FirstReason layer.Page (answer_reasons c forms x.network n x.answer) (answer_fault c forms x.network (answer_at x) x.answer)) (sym place) (answer_first x.network (answer_at x) x.answer) in
        let short : ℕ → Reasons = λ bytes. refused_if (room < bytes) (PageTooShort bytes) answer in
        let First : ℕ → Type 0 = λ bytes. FirstReason layer.Page (refused_if (length x.estimates ≢ x.network.stations) (EstimateCount (length x.estimates)) (short bytes)) fault in
        subst First (needed_is c forms x)
        (rw is
        (unless (eqb (length x.estimates) x.network.stations) (eqb-true _ _, eq-eqb _ _) (EstimateCount (length x.estimates)) (short (needed x)) _
        (where_so (ltb room (needed x)) (ltb-true _ _, lt-ltb _ _) (PageTooShort (needed x)) answer _ first)))
