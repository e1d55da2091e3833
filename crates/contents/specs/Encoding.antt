-- The bytes of a page's content, and which contents a page can hold.
use Rattle.std.specs.Prelude.{◌≡◌, ℕ, ◌^◌, ◌<◌, ◌≤◌, cond, List, [], ◌++◌, map, length, Some, None, Option, unwrap_or}
use Rattle.std.specs.List.{AllByRecursion, slice_get}
use Rattle.amounts.specs.declared.cost.Cost as cost
use Rattle.amounts.specs.Amount.{RangeLaws}
use Rattle.amounts.specs.declared.forms.LabelForm.{LabelForm}
use Rattle.amounts.specs.Forms.{Forms, label_form, OnPage, SectionLaws, LabelLaws, KindLaws}
use Rattle.networks.specs.declared.section.Section.{Section}
use Rattle.networks.specs.declared.estimates.Pair.{Pair}
use Rattle.networks.specs.Nets.{Net, InRange}
use Rattle.networks.specs.Given.{GivenInRange}
use Rattle.records.specs.declared.kinds.HeaderRecord.{HeaderRecord}
use Rattle.records.specs.declared.kinds.SectionRecord.{SectionRecord}
use Rattle.records.specs.declared.kinds.EstimateRecord.{EstimateRecord}
use Rattle.records.specs.declared.kinds.AnswerRecord.{AnswerRecord}
use Rattle.records.specs.declared.kinds.StepRecord.{StepRecord}
use Rattle.records.specs.Shapes.{encoded, encoded_run}
use Rattle.records.specs.Layout.{header_shape, section_shape, estimate_shape, answer_shape, step_shape, end_shape}
use Rattle.contents.specs.declared.answer.Outcome.{Outcome}
use Rattle.contents.specs.declared.answer.Outcome.TheVariants.{Found, NoRoute}
use Rattle.contents.specs.declared.answer.Step.{Step}
use Rattle.contents.specs.Content.{Meant, Content}

abbrev pub outcome_number : Outcome → ℕ
outcome_number Found = 0
outcome_number NoRoute = 1

-- To records -----------------------------------------------------------------------------------

module _ {C L S : Type 0} (c : cost.Ghosts C L S) (forms : Forms L S) where
  abbrev pub section_record : Section S → SectionRecord
  section_record s = record { state = cond s.shut 1 0; from = s.from; to = s.to; amount = forms.parts s.amount }

  -- every amount that is written has a form
  abbrev pub form_of : L → LabelForm
  form_of a = unwrap_or (forms.shown a) (label_form 0 0)

  abbrev pub estimate_record : Pair L → EstimateRecord
  estimate_record p = record { forward = form_of p.forward; backward = form_of p.backward }

  abbrev pub step_record : Step L → StepRecord
  step_record s = record { section = s.section; so_far = form_of s.so_far }

  abbrev pub answer_record : Meant L → AnswerRecord
  answer_record m =
      record { run = m.run; outcome = outcome_number m.outcome; cost = form_of m.cost; steps = length m.steps; taken = m.taken }

  abbrev pub header_record : Net S → HeaderRecord
  header_record net = record { kind = c.KIND; stations = net.stations; sections = length net.sections; launcher = net.launcher; trap = net.trap }

  abbrev pub answer_encoded : Option (Meant L) → List ℕ
  answer_encoded None = []
  answer_encoded (Some m) = encoded answer_shape (answer_record m) ++ encoded_run step_shape (map step_record m.steps)

  -- what stands before an answer: header, sections, estimates
  abbrev pub before_answer : Content L S → List ℕ
  before_answer x =
      encoded header_shape (header_record x.network) ++
      (encoded_run section_shape (map section_record x.network.sections) ++
      encoded_run estimate_shape (map estimate_record x.estimates))

  -- header, sections, estimates, perhaps an answer with its steps, end
  abbrev pub encode : Content L S → List ℕ
  encode x =
      encoded header_shape (header_record x.network) ++
      (encoded_run section_shape (map section_record x.network.sections) ++
      (encoded_run estimate_shape (map estimate_record x.estimates) ++
      (answer_encoded x.answer ++
      encoded end_shape (record {}))))

  -- Which contents a page can hold -------------------------------------------------------------

  -- a step names a section, with its ends, and its cost so far stands on a page
  pub record StepValid (sections : List (Section S)) (s : Step L) : Type 0 where
    pub section : Section S
    pub there : slice_get sections s.section ≡ Some section
    pub from : s.from ≡ section.from
    pub to : s.to ≡ section.to
    pub cost : OnPage forms s.so_far

  -- where there is no route, there is no cost and no step
  abbrev pub NothingAt : Outcome → L → List (Step L) → Type 0
  NothingAt Found a ss = Unit {0}
  NothingAt NoRoute a ss = (a ≡ c.ops.zero) × (ss ≡ [])

  -- what an answer says of itself, before its steps: a cost that stands on a page, at most 4,095 steps, fewer stations
  -- taken than there are, and nothing without a route
  pub record FiledValid (net : Net S) (m : Meant L) : Type 0 where
    pub cost : OnPage forms m.cost
    pub few : length m.steps ≤ 4095
    pub taken : m.taken < net.stations
    pub nothing : NothingAt m.outcome m.cost m.steps

  pub record MeantValid (net : Net S) (m : Meant L) : Type 0 where
    pub run : m.run < 2 ^ 32
    pub filed : FiledValid net m
    pub each : AllByRecursion (StepValid net.sections) m.steps

  abbrev pub AnswerValid : Net S → Option (Meant L) → Type 0
  AnswerValid net None = Unit {0}
  AnswerValid net (Some m) = MeantValid net m

  pub record Valid (x : Content L S) : Type 0 where
    pub network : InRange c.section_range x.network
    pub counted : length x.estimates ≡ x.network.stations
    pub estimates : GivenInRange c.estimate_range x.estimates
    pub answer : AnswerValid x.network x.answer

  -- the laws of a kind that a page rests on
  pub record PageLaws : Type 0 where
    pub ranges : RangeLaws c.ops c.worth c.section_range c.estimate_range
    pub sections : SectionLaws forms c.section_range
    pub labels : LabelLaws c.ops forms c.estimate_range
    pub kinds : KindLaws c.KIND forms
