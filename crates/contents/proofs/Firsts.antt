-- The fault of a page is that of the first thing that is wrong with it.
use Rattle.std.proofs.Common.{◌≡◌, ℕ, ◌+◌, ◌-◌, ◌*◌, ◌<◌, Bool, true, false, cond, eqb, ltb, List, [], ◌∷◌, ◌++◌, length, get_or, drop, Ok, Err, Result, sym, refl, subst, ap, ◌∙◌, add-zero, arith, length-drop, drop-drop}
use Rattle.std.specs.Result.{result_err}
use Rattle.std.proofs.lemmas.Bool.{ltb-true, ltb-false}
use Rattle.std.proofs.lemmas.List.{get_or-drop}
use Rattle.faults.specs.declared.Fault.{Fault}
use Rattle.faults.specs.declared.Layer.TheVariants as layer
use Rattle.faults.specs.declared.Refusal.TheVariants.{TrailingBytes}
use Rattle.faults.specs.Reasons.{else_accepted, FirstReason}
use Rattle.records.specs.declared.limits.Limits.{Limits}
use Rattle.records.specs.Due.{page_fault}
use Rattle.records.specs.DueReasons.{due_at, due_from, due_reasons}
use Rattle.records.specs.Layout.{header_shape, section_shape, estimate_shape, answer_shape, step_shape, end_shape}
use Rattle.records.proofs.Firsts.{Tells, reason_told, due_first, run_first}
use Rattle.contents.specs.Checks.{header_of, section_bytes, estimate_bytes, answer_bytes, has_answer, step_bytes, step_count, limits_of, due_end, due_answer, check_page}
use Rattle.contents.specs.PageReasons.{estimates_at, answer_due_at, answer_due, end_at, trailing, page_reasons}

module _ (limits : Limits) (bs : List ℕ) where
  -- behind the end
  trailing_first : (at : ℕ) (here : List ℕ) → here ≡ drop at bs
      → FirstReason layer.Page (trailing bs at) (result_err {T = Unit {0}} (cond (ltb 1 (length here)) (Err (page_fault (TrailingBytes (length bs - length here + 1)))) (Ok tt)))
  trailing_first at [] e = ((λ k. omega (arith, ap length e, length-drop at bs)), tt)
  trailing_first at (b ∷ l) e =
      let n : length bs - length (b ∷ l) ≡ at = omega (arith, ap length e, length-drop at bs) in
      let m : length (b ∷ l) ≡ length bs - at = ap length e ∙ length-drop at bs in
      let told : Tells (at + 1 < length bs) (ltb 1 (length (b ∷ l))) =
      record { so = λ t. omega (arith, ltb-true _ _ t); not_so = λ t h. omega (arith, ltb-false _ _ t) } in
      rw n (reason_told (at + 1 < length bs) (TrailingBytes (at + 1)) else_accepted (ltb 1 (length (b ∷ l))) (Ok tt) told tt)

  end_first : (at : ℕ) (here : List ℕ) → here ≡ drop at bs
      → FirstReason layer.Page (due_reasons bs (trailing bs at) (due_at end_shape limits at ∷ [])) (result_err (due_end limits (length bs) here))
  end_first at here e = due_first end_shape limits bs (trailing bs at) at here [] _ e (trailing_first at here e)

  -- an answer or none, and then the end
  answer_first : (at : ℕ) (here : List ℕ) (there : Bool) → here ≡ drop at bs → has_answer here ≡ there
      → let behind = cond there (at + 20 + 13 * step_count here) at in
      FirstReason layer.Page
      (due_reasons bs (trailing bs behind) (cond there (due_at answer_shape limits at ∷ due_from step_shape limits (at + 20) (step_count here)) [] ++ (due_at end_shape limits behind ∷ [])))
      (result_err (due_answer limits (length bs) here))
  answer_first at here false e none = rw none (end_first at here e)
  answer_first at here true e some =
      let n = step_count here in
      let ends : ℕ = at + 20 + 13 * n in
      let steps = ap (drop 20) e ∙ drop-drop 20 at bs in
      let left = ap (drop (13 * n)) steps ∙ drop-drop (13 * n) (at + 20) bs in
      rw some
      (due_first answer_shape limits bs (trailing bs ends) at here _ _ e
      (run_first step_shape limits bs (trailing bs ends) n (at + 20) (step_bytes here) (due_at end_shape limits ends ∷ []) _ steps
      (end_first ends (drop (13 * n) (step_bytes here)) left)))

page_first : (kind : ℕ) (bs : List ℕ) → FirstReason layer.Page (page_reasons kind bs) (result_err (check_page kind bs))
page_first kind bs =
    let h = header_of bs in
    let limits = limits_of kind h in
    let behind = trailing bs (end_at bs) in
    let at : ℕ = answer_due_at bs in
    let estimates : estimate_bytes bs ≡ drop (estimates_at bs) bs = drop-drop (12 * h.sections) 10 bs in
    let answer : answer_bytes bs ≡ drop at bs = ap (drop (21 * h.stations)) estimates ∙ drop-drop (21 * h.stations) (estimates_at bs) bs in
    let there : has_answer (drop at bs) ≡ answer_due bs =
    ap (λ b. eqb b 0x41) (get_or-drop at bs 0 0 ∙ ap (λ k. get_or bs k 0) (add-zero at)) in
    due_first header_shape limits bs behind 0 bs _ _ refl
    (run_first section_shape limits bs behind h.sections 10 (section_bytes bs) _ _ refl
    (run_first estimate_shape limits bs behind h.stations (estimates_at bs) (estimate_bytes bs) _ _ estimates
    (rw answer (answer_first limits bs at (drop at bs) (answer_due bs) refl there))))

-- of whatever is answered as the checks say
pub first_told : (kind : ℕ) (bs : List ℕ) (answer : Result (Unit {0}) Fault) → answer ≡ check_page kind bs → FirstReason layer.Page (page_reasons kind bs) (result_err answer)
first_told kind bs answer e = subst (λ r. FirstReason layer.Page (page_reasons kind bs) (result_err r)) (sym e) (page_first kind bs)
