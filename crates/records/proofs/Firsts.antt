-- The fault where records are due is that of the first thing that is wrong.
use Rattle.std.proofs.Common.{◌≡◌, ℕ, zero, suc, ◌+◌, ◌<◌, ◌≤◌, Bool, true, false, cond, not, ◌-◌, eqb, ltb, List, [], ◌∷◌, ◌++◌, add-zero, length, get_or, drop, Ok, Err, Result, inl, inr, sym, refl, ap, ◌∙◌, arith, length-drop, drop-drop}
use Rattle.std.specs.Result.{result_and, result_err}
use Rattle.std.proofs.lemmas.Bool.{ltb-true, ltb-false, eqb-true, eqb-false}
use Rattle.std.proofs.lemmas.List.{get_or-drop}
use Rattle.faults.specs.declared.Fault.{Fault}
use Rattle.faults.specs.declared.Layer.TheVariants as layer
use Rattle.faults.specs.declared.Refusal.{Refusal}
use Rattle.faults.specs.declared.Refusal.TheVariants.{PageEnds, UnexpectedKind, FieldOutOfRange}
use Rattle.faults.proofs.InOrder.{named, passed}
use Rattle.faults.specs.Reasons.{Reasons, refused_if, FirstReason}
use Rattle.records.specs.declared.limits.Limits.{Limits}
use Rattle.records.specs.Shapes.{Shape, size_of, decoded}
use Rattle.records.specs.Due.{page_fault, due_record, due_run}
use Rattle.records.specs.DueReasons.{Due, due_at, due_from, due_reasons, OtherKind, EndsInside, OutOfRange}

not_true : {b : Bool} → not b ≡ true → b ≡ false
not_true {b = true} e = cc
not_true {b = false} e = refl

not_false : {b : Bool} → not b ≡ false → b ≡ true
not_false {b = true} e = refl
not_false {b = false} e = cc

-- a test that says whether something is so
pub record Tells (So : Type 0) (test : Bool) : Type 0 where
  pub so : test ≡ true → So
  pub not_so : test ≡ false → So → ⊥

-- a reason that a test tells
pub reason_told : {A : Type 0} (So : Type 0) (r : Refusal) (rest : Reasons) (test : Bool) (next : Result A Fault)
    → Tells So test → FirstReason layer.Page rest (result_err next)
    → FirstReason layer.Page (refused_if So r rest) (result_err (cond test (Err (page_fault r)) next))
reason_told So r rest true next told more = named layer.Page r rest (told.so refl)
reason_told So r rest false next told more = passed layer.Page r rest (result_err next) (told.not_so refl) more

module _ {R : Type 0} (shape : Shape R) (limits : Limits) (bs : List ℕ) (behind : Reasons) (at : ℕ) where
  -- the tests of a record, one after another
  abbrev tests : {A : Type 0} → Bool → Bool → Bool → Result A Fault → Result A Fault
  tests other short bad next =
      cond other (Err (page_fault (UnexpectedKind at)))
      (cond short (Err (page_fault (PageEnds (length bs))))
      (cond bad (Err (page_fault (FieldOutOfRange at)))
      next))

  tests_of : {A : Type 0} (kind short good : Bool) (r : R) (next : Result A Fault)
      → result_and (cond kind (cond short (Err (page_fault (PageEnds (length bs)))) (cond good (Ok r) (Err (page_fault (FieldOutOfRange at))))) (Err (page_fault (UnexpectedKind at)))) next ≡ tests (not kind) short (not good) next
  tests_of false short good r next = refl
  tests_of true true good r next = refl
  tests_of true false true r next = refl
  tests_of true false false r next = refl

  abbrev d : Due
  d = due_at shape limits at

  ended : [] ≡ drop at bs → length bs ≤ at
  ended e = omega (arith, ap length e, length-drop at bs)

  other_told : (b : ℕ) (l : List ℕ) → (b ∷ l) ≡ drop at bs → Tells (OtherKind d bs) (not (eqb b shape.byte))
  other_told b l e =
      let there : at < length bs = omega (arith, ap length e, length-drop at bs) in
      let byte : get_or bs at 0 ≡ b = ap (λ k. get_or bs k 0) (sym (add-zero at)) ∙ sym (get_or-drop at bs 0 0) ∙ ap (λ k. get_or k 0 0) (sym e) in
      record {
        so = λ t. record { there = there; other = λ p. eqb-false b shape.byte (not_true t) (sym byte ∙ p) };
        not_so = λ t h. h.other (byte ∙ eqb-true b shape.byte (not_false t));
      }

  short_told : (b : ℕ) (l : List ℕ) → (b ∷ l) ≡ drop at bs → Tells (EndsInside d bs) (ltb (length (b ∷ l)) (size_of shape))
  short_told b l e =
      let n = ap length e ∙ length-drop at bs in
      record {
        so = λ t. omega (arith, ltb-true _ _ t);
        not_so = λ t h. omega (arith, ltb-false _ _ t);
      }

  bad_told : (here : List ℕ) → here ≡ drop at bs → Tells (OutOfRange d bs) (not (shape.good limits (decoded shape here)))
  bad_told here e =
      let same : shape.good limits (decoded shape here) ≡ shape.good limits (decoded shape (drop at bs)) = ap (λ l. shape.good limits (decoded shape l)) e in
      record { so = λ t. sym same ∙ not_true t; not_so = λ t h. let g = not_false t in cc }

  -- at one record
  pub due_first : {A : Type 0} (here : List ℕ) (dues : List Due) (next : Result A Fault) → here ≡ drop at bs
      → FirstReason layer.Page (due_reasons bs behind dues) (result_err next)
      → FirstReason layer.Page (due_reasons bs behind (due_at shape limits at ∷ dues)) (result_err (result_and (due_record shape limits (length bs) here) next))
  due_first [] dues next e more = inr ((λ k. absurd (omega (arith, k.there, ended e))), inl (omega (arith, ended e), refl))
  due_first {A = A} (b ∷ l) dues next e more =
      let n : length bs - length (b ∷ l) ≡ at = omega (arith, ap length e, length-drop at bs) in
      let last : Reasons = due_reasons bs behind dues in
      let third : Reasons = refused_if (OutOfRange d bs) (FieldOutOfRange at) last in
      let second : Reasons = refused_if (EndsInside d bs) (PageEnds (length bs)) third in
      let bad = not (shape.good limits (decoded shape (b ∷ l))) in
      let short = ltb (length (b ∷ l)) (size_of shape) in
      let fields : Result A Fault = cond bad (Err (page_fault (FieldOutOfRange at))) next in
      let ends : Result A Fault = cond short (Err (page_fault (PageEnds (length bs)))) fields in
      rw (n, tests_of (eqb b shape.byte) short (shape.good limits (decoded shape (b ∷ l))) (decoded shape (b ∷ l)) next)
      (reason_told (OtherKind d bs) (UnexpectedKind at) second (not (eqb b shape.byte)) ends (other_told b l e)
      (reason_told (EndsInside d bs) (PageEnds (length bs)) third short fields (short_told b l e)
      (reason_told (OutOfRange d bs) (FieldOutOfRange at) last bad next (bad_told (b ∷ l) e) more)))

-- over a run
and_again : {A B : Type 0} {X : Type 0} (a : Result A Fault) (b : Result B Fault) (next : Result X Fault) → result_and (result_and a b) next ≡ result_and a (result_and b next)
and_again (Ok x) b next = refl
and_again (Err f) b next = refl

pub run_first : {A R : Type 0} (shape : Shape R) (limits : Limits) (bs : List ℕ) (behind : Reasons) (n at : ℕ) (here : List ℕ) (dues : List Due) (next : Result A Fault) → here ≡ drop at bs
    → FirstReason layer.Page (due_reasons bs behind dues) (result_err next)
    → FirstReason layer.Page (due_reasons bs behind (due_from shape limits at n ++ dues)) (result_err (result_and (due_run shape limits (length bs) n here) next))
run_first shape limits bs behind zero at here dues next e more = more
run_first shape limits bs behind (suc n) at here dues next e more =
    let size : ℕ = size_of shape in
    let later = run_first shape limits bs behind n (at + size) (drop size here) dues next (ap (drop size) e ∙ drop-drop size at bs) more in
    rw (and_again (due_record shape limits (length bs) here) (due_run shape limits (length bs) n (drop size here)) next)
    (due_first shape limits bs behind at here (due_from shape limits (at + size) n ++ dues) _ e later)
