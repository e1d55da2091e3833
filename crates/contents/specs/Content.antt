-- What a page means: a network, estimates and perhaps an answer, in a kind of cost.
use Rattle.std.specs.Prelude.{ℕ, cond, List, [], ◌∷◌, map, length, Some, None, Option, unwrap_or, ◌==◌}
use Rattle.std.specs.Borrow.{Bor}
use Rattle.std.specs.List.{slice_get}
use Rattle.amounts.specs.declared.cost.Cost as cost
use Rattle.amounts.specs.Forms.{Forms}
use Rattle.amounts.specs.declared.forms.LabelForm.{LabelForm}
use Rattle.faults.specs.declared.Side.{Side}
use Rattle.faults.specs.declared.Side.TheVariants.{Forward, Backward}
use Rattle.networks.specs.declared.section.Section.{Section}
use Rattle.networks.specs.declared.estimates.Pair.{Pair}
use Rattle.networks.specs.Nets.{Net}
use Rattle.records.specs.declared.kinds.SectionRecord.{SectionRecord}
use Rattle.records.specs.declared.kinds.EstimateRecord.{EstimateRecord}
use Rattle.records.specs.declared.kinds.AnswerRecord.{AnswerRecord}
use Rattle.records.specs.declared.kinds.StepRecord.{StepRecord}
use Rattle.records.specs.Shapes.{decoded, decoded_run}
use Rattle.records.specs.Layout.{section_shape, estimate_shape, answer_shape, step_shape}
use Rattle.contents.specs.declared.answer.Outcome.{Outcome}
use Rattle.contents.specs.declared.answer.Outcome.TheVariants.{Found, NoRoute}
use Rattle.contents.specs.declared.answer.Step.{Step}
use Rattle.contents.specs.declared.answer.Answer.{Answer}
use Rattle.contents.specs.Checks.{header_of, section_bytes, estimate_bytes, answer_bytes, has_answer, step_bytes}

-- an answer with its steps in a list
abbrev pub Meant : Type 0 → Type 0
Meant L = Answer L (List (Step L))

pub record Content (L S : Type 0) : Type 0 where
  pub network : Net S
  pub estimates : List (Pair L)
  pub answer : Option (Meant L)

abbrev pub outcome_by : ℕ → Outcome
outcome_by n = cond (n == 0) Found NoRoute

-- From records ---------------------------------------------------------------------------------

-- where a section goes from and to; 0 where there is none
abbrev pub from_of : {S : Type 0} → Option (Section S) → ℕ
from_of None = 0
from_of (Some s) = s.from

abbrev pub to_of : {S : Type 0} → Option (Section S) → ℕ
to_of None = 0
to_of (Some s) = s.to

-- the station at which a side comes to a section
abbrev pub start_of : Side → SectionRecord → ℕ
start_of Forward r = r.from
start_of Backward r = r.to

module _ {C L S : Type 0} (c : cost.Ghosts C L S) (forms : Forms L S) where
  abbrev pub section_from : SectionRecord → Section S
  section_from r = record { from = r.from; to = r.to; amount = forms.made r.amount; shut = (r.state == 1) }

  -- a form that the kind has not reads as zero; no accepted page has one
  abbrev pub label_from : LabelForm → L
  label_from form = unwrap_or (forms.told form) c.ops.zero

  abbrev pub pair_from : EstimateRecord → Pair L
  pair_from e = record { forward = label_from e.forward; backward = label_from e.backward }

  -- a step has the ends of its section
  abbrev pub step_from : List (Section S) → StepRecord → Step L
  step_from sections p =
      let s = slice_get sections p.section in
      record { section = p.section; from = from_of s; to = to_of s; so_far = label_from p.so_far }

  abbrev pub net_of : List ℕ → Net S
  net_of bs =
      let h = header_of bs in
      record { stations = h.stations; launcher = h.launcher; trap = h.trap; sections = map section_from (decoded_run section_shape h.sections (section_bytes bs)) }

  abbrev pub pairs_of : List ℕ → List (Pair L)
  pairs_of bs = map pair_from (decoded_run estimate_shape (header_of bs).stations (estimate_bytes bs))

  abbrev pub meant_by : List (Section S) → AnswerRecord → List StepRecord → Meant L
  meant_by sections a steps =
      record { run = a.run; outcome = outcome_by a.outcome; cost = label_from a.cost; taken = a.taken; steps = map (step_from sections) steps }

  abbrev pub answer_of : List ℕ → Option (Meant L)
  answer_of bs =
      let rest = answer_bytes bs in
      let a = decoded answer_shape rest in
      cond (has_answer rest) (Some (meant_by (net_of bs).sections a (decoded_run step_shape a.steps (step_bytes rest)))) None

  abbrev pub content_of : List ℕ → Content L S
  content_of bs = record { network = net_of bs; estimates = pairs_of bs; answer = answer_of bs }

-- one blank station, the launcher and the trap: no section, zero estimates, no answer
abbrev pub blank_content : {L S : Type 0} → L → Content L S
blank_content zero =
    record {
      network = record { stations = 1; launcher = 0; trap = 0; sections = [] };
      estimates = record { forward = zero; backward = zero } ∷ [];
      answer = None;
    }

-- what an answer that is put in means
abbrev pub meant_of : {L : Type 0} → Answer L (Bor (List (Step L))) → Meant L
meant_of a = record { run = a.run; outcome = a.outcome; cost = a.cost; taken = a.taken; steps = a.steps.now }

-- what a view tells of an answer at once
abbrev pub filed_by : {L : Type 0} → Meant L → Answer L ℕ
filed_by m = record { run = m.run; outcome = m.outcome; cost = m.cost; taken = m.taken; steps = length m.steps }

-- the steps of an answer; none where there is no answer
abbrev pub steps_in : {L : Type 0} → Option (Meant L) → List (Step L)
steps_in None = []
steps_in (Some m) = m.steps

abbrev pub step_in : {L : Type 0} → Option (Meant L) → ℕ → Option (Step L)
step_in o k = slice_get (steps_in o) k
