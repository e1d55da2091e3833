-- Why a write is refused, and in which order.
use Rattle.std.specs.Prelude.{◌≢◌, ℕ, ◌+◌, ◌<◌, List, [], ◌∷◌, length, Some, None, Option}
use Rattle.faults.specs.declared.Refusal.TheVariants.{EstimateCount, PageTooShort, FieldOutOfRange}
use Rattle.faults.specs.Reasons.{Reasons, refused_if, else_accepted}
use Rattle.amounts.specs.declared.cost.Cost as cost
use Rattle.amounts.specs.Forms.{Forms}
use Rattle.networks.specs.Nets.{Net}
use Rattle.contents.specs.declared.answer.Step.{Step}
use Rattle.contents.specs.Content.{Meant, Content}
use Rattle.contents.specs.Encoding.{StepValid, FiledValid, before_answer, encode}
use Rattle.contents.specs.Writing.{placed}

module _ {C L S : Type 0} (c : cost.Ghosts C L S) (forms : Forms L S) where
  -- a step that a page cannot hold, at its record's offset, the first of them before the next
  abbrev pub steps_reasons : Net S → ℕ → List (Step L) → Reasons
  steps_reasons net at [] = else_accepted
  steps_reasons net at (s ∷ ss) = refused_if (¬ StepValid c forms net.sections s) (FieldOutOfRange at) (steps_reasons net (at + 13) ss)

  -- what the answer says of itself is none that a page can hold, at its record's offset; then its steps
  abbrev pub answer_reasons : Net S → ℕ → Option (Meant L) → Reasons
  answer_reasons net at None = else_accepted
  answer_reasons net at (Some m) = refused_if (¬ FiledValid c forms net m) (FieldOutOfRange at) (steps_reasons net (at + 20) m.steps)

  -- estimates of another count than the stations; then a page of fewer bytes than are to be written; then the answer, whose
  -- record stands behind the bytes before it
  abbrev pub write_reasons : ℕ → Content L S → Reasons
  write_reasons room x =
      let bytes = placed (length (encode c forms x)) in
      refused_if (length x.estimates ≢ x.network.stations) (EstimateCount (length x.estimates))
      (refused_if (room < bytes) (PageTooShort bytes)
      (answer_reasons x.network (length (before_answer c forms x)) x.answer))
