-- The checks of a page, one after another.
use Rattle.std.proofs.Common.{◌≡◌, ℕ, ◌*◌, true, List, length, drop, Ok, Result, sym, ap, ◌∙◌}
use Rattle.faults.specs.declared.Fault.{Fault}
use Rattle.records.specs.declared.limits.Limits.{Limits}
use Rattle.records.specs.declared.kinds.AnswerRecord.{AnswerRecord}
use Rattle.records.specs.declared.kinds.HeaderRecord.{HeaderRecord}
use Rattle.records.specs.Shapes.{Shape, decoded}
use Rattle.std.specs.Result.{result_and}
use Rattle.records.specs.Due.{due_record, due_run}
use Rattle.records.specs.Layout.{header_shape, section_shape, estimate_shape, answer_shape, step_shape}
use Rattle.records.proofs.Passing.{due_stands}
use Rattle.contents.specs.Checks.{header_of, section_bytes, has_answer, step_bytes, limits_of, limits_for, due_end, due_answer, check_page}

-- a record that passed is the one that stands there
pub due_is : {R : Type 0} (shape : Shape R) (limits : Limits) (len : ℕ) (bs : List ℕ) (r : R) → Ok r ≡ due_record shape limits len bs → decoded shape bs ≡ r
due_is shape limits len bs r e = sym (due_stands shape limits len bs r (sym e)).is

module _ (limits : Limits) (len : ℕ) (rest : List ℕ) (a : AnswerRecord) (there : has_answer rest ≡ true) (due : Ok a ≡ due_record answer_shape limits len rest) where
  answer_at : due_answer limits len rest ≡ result_and (due_run step_shape limits len a.steps (step_bytes rest)) (due_end limits len (drop (13 * a.steps) (step_bytes rest)))
  answer_at = rw (there, ← due, ← due_is answer_shape limits len rest a due)

  pub answer_ends : (steps left : List ℕ) → steps ≡ step_bytes rest → Ok tt ≡ due_run step_shape limits len a.steps steps → left ≡ drop (13 * a.steps) steps → due_end limits len left ≡ due_answer limits len rest
  answer_ends steps left s e l = rw (l, s, answer_at, ← s, ← e)

-- a page by its header
module _ (kind : ℕ) (bs : List ℕ) (h : HeaderRecord) (due : Ok h ≡ due_record header_shape (limits_for kind) (length bs) bs) where
  pub header_is : header_of bs ≡ h
  header_is = due_is header_shape (limits_for kind) (length bs) bs h due

  abbrev behind : HeaderRecord → Result (Unit {0}) Fault
  behind x =
      let limits = limits_of kind x in
      let estimates = drop (12 * x.sections) (section_bytes bs) in
      result_and (due_run section_shape limits (length bs) x.sections (section_bytes bs))
      (result_and (due_run estimate_shape limits (length bs) x.stations estimates)
      (due_answer limits (length bs) (drop (21 * x.stations) estimates)))

  page_at : check_page kind bs ≡ behind h
  page_at = ap (λ d. result_and d (behind (header_of bs))) (sym due) ∙ ap behind header_is

  -- all of it passed but the answer
  pub page_answer : (sections estimates left : List ℕ) → sections ≡ section_bytes bs → Ok tt ≡ due_run section_shape (limits_of kind h) (length bs) h.sections sections → estimates ≡ drop (12 * h.sections) sections → Ok tt ≡ due_run estimate_shape (limits_of kind h) (length bs) h.stations estimates → left ≡ drop (21 * h.stations) estimates → due_answer (limits_of kind h) (length bs) left ≡ check_page kind bs
  page_answer sections estimates left s p e q l =
      let p' = rw s at p in
      let q' = rw (e, s) at q in
      rw (l, e, s, page_at, ← p', ← q')
