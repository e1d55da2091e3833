-- The answer that an accepted page tells.
use Rattle.std.proofs.Common.{◌≡◌, ℕ, ◌+◌, ◌*◌, Bool, true, false, cond, List, length, drop, Some, None, Option, sym, refl, drop-drop}
use Rattle.std.specs.List.{slice_get}
use Rattle.std.proofs.lemmas.List.{length-map}
use Rattle.std.proofs.lemmas.Option.{cond_some}
use Rattle.amounts.specs.declared.cost.Cost as cost
use Rattle.amounts.specs.Forms.{Forms}
use Rattle.std.specs.Option.{option_map}
use Rattle.records.specs.declared.kinds.AnswerRecord.{AnswerRecord}
use Rattle.records.specs.declared.kinds.StepRecord.{StepRecord}
use Rattle.records.specs.Layout.{answer_shape, step_shape}
use Rattle.records.specs.Shapes.{decoded, decoded_run}
use Rattle.records.proofs.Passing.{length-decoded_run}
use Rattle.contents.specs.declared.answer.Answer.{Answer}
use Rattle.contents.specs.Checks.{header_of, answer_bytes, has_answer, step_bytes}
use Rattle.contents.proofs.Accepting.{answer_place}
use Rattle.contents.specs.Content.{Meant, filed_by, meant_by, net_of, answer_of}

none_told : {X : Type 0} (b : Bool) (x : X) → None ≡ cond b (Some x) None → b ≡ false
none_told true x e = cc
none_told false x e = refl

-- the record of an answer, if there is one
abbrev pub record_in : List ℕ → Option AnswerRecord
record_in bs = cond (has_answer (answer_bytes bs)) (Some (decoded answer_shape (answer_bytes bs))) None

pub answer_told : (bs : List ℕ) (a : AnswerRecord) → Some a ≡ record_in bs → has_answer (answer_bytes bs) ≡ true
answer_told bs a e = (cond_some (has_answer (answer_bytes bs)) (decoded answer_shape (answer_bytes bs)) a (sym e)).0

pub answer_is : (bs : List ℕ) (a : AnswerRecord) → Some a ≡ record_in bs → a ≡ decoded answer_shape (answer_bytes bs)
answer_is bs a e = sym (cond_some (has_answer (answer_bytes bs)) (decoded answer_shape (answer_bytes bs)) a (sym e)).1

-- the steps' records, by their offset
pub steps_read : (bs : List ℕ) (at n count k : ℕ) (r : Option StepRecord) → r ≡ slice_get (decoded_run step_shape n (drop (at + 20) bs)) k → at ≡ 10 + 12 * (header_of bs).sections + 21 * (header_of bs).stations → n ≡ count → r ≡ slice_get (decoded_run step_shape count (step_bytes (answer_bytes bs))) k
steps_read bs at n count k r e p q = rw (e, q, ← answer_place bs (drop at bs) at refl p) (simp drop-drop)

module _ {C L S : Type 0} (c : cost.Ghosts C L S) (forms : Forms L S) (bs : List ℕ) where
  -- what an answer's record and its steps mean
  abbrev pub meaning : AnswerRecord → Meant L
  meaning a = meant_by c forms (net_of c forms bs).sections a (decoded_run step_shape a.steps (step_bytes (answer_bytes bs)))

  pub answer_some : (a : AnswerRecord) → Some a ≡ record_in bs → Some (meaning a) ≡ answer_of c forms bs
  answer_some a e = rw (answer_told bs a e, answer_is bs a e)

  pub answer_none : None ≡ record_in bs → None ≡ answer_of c forms bs
  answer_none e = rw (none_told (has_answer (answer_bytes bs)) (decoded answer_shape (answer_bytes bs)) e)

  pub meaning_steps : (a : AnswerRecord) → length (meaning a).steps ≡ a.steps
  meaning_steps a = simp (length-map, length-decoded_run)

-- the answer behind what a view tells of it
pub filed_some : {L : Type 0} (o : Option (Meant L)) (f : Answer L ℕ) → Some f ≡ option_map filed_by o → (m : Meant L) × (o ≡ Some m) × (f ≡ filed_by m)
filed_some None f e = cc
filed_some (Some m) f e = (m, refl, cc)

pub filed_none : {L : Type 0} (o : Option (Meant L)) → None ≡ option_map filed_by o → o ≡ None
filed_none None e = refl
filed_none (Some m) e = cc
