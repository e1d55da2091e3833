-- What is answered when a page is written, and what the page then holds.
use Rattle.std.specs.Prelude.{ℕ, ◌+◌, ◌-◌, ◌*◌, ◌^◌, ◌<◌, min, Bool, true, false, cond, ◌&&◌, List, [], ◌∷◌, ◌++◌, length, drop, is_some, Some, None, Ok, Err, Option, Result, ◌==◌, nat_le, nat_lt}
use Rattle.std.specs.Borrow.{Bor}
use Rattle.std.specs.List.{AllByRecursion, slice_get}
use Rattle.faults.specs.declared.Fault.{Fault}
use Rattle.faults.specs.declared.Refusal.TheVariants.{EstimateCount, PageTooShort, FieldOutOfRange}
use Rattle.amounts.specs.declared.cost.Cost as cost
use Rattle.amounts.specs.Forms.{Forms}
use Rattle.networks.specs.declared.section.Section.{Section}
use Rattle.networks.specs.declared.estimates.Pair.{Pair}
use Rattle.networks.specs.Nets.{Net}
use Rattle.std.specs.Option.{option_map}
use Rattle.records.specs.Due.{page_fault}
use Rattle.contents.specs.declared.answer.Outcome.{Outcome}
use Rattle.contents.specs.declared.answer.Outcome.TheVariants.{Found, NoRoute}
use Rattle.contents.specs.declared.answer.Step.{Step}
use Rattle.contents.specs.declared.answer.Answer.{Answer}
use Rattle.contents.specs.Content.{Meant, Content, meant_of}
use Rattle.contents.specs.Encoding.{form_of, encode}

-- what is put in: a network, estimates, and perhaps an answer with its steps in a lent list
abbrev pub content_by : {L S : Type 0} → Net S → List (Pair L) → Option (Answer L (Bor (List (Step L)))) → Content L S
content_by net estimates answer = record { network = net; estimates = estimates; answer = option_map meant_of answer }

-- the bytes of an answer with so many steps, or of none
abbrev pub answer_size : {L : Type 0} → Option (Meant L) → ℕ
answer_size None = 0
answer_size (Some m) = 20 + 13 * length m.steps

-- a place is a machine number: beyond the largest one it stays there
abbrev pub placed : ℕ → ℕ
placed n = min n (2 ^ 64 - 1)

-- where an answer's record stands: behind the header, the sections and the estimates
abbrev pub answer_at : {L S : Type 0} → Content L S → ℕ
answer_at x = 10 + 12 * length x.network.sections + 21 * length x.estimates

abbrev pub needed : {L S : Type 0} → Content L S → ℕ
needed x = placed (answer_at x + answer_size x.answer + 1)

-- a run is a machine number
abbrev pub RunFits : {L : Type 0} → Option (Meant L) → Type 0
RunFits None = Unit {0}
RunFits (Some m) = m.run < 2 ^ 32

-- an answer whose numbers have two bytes each
abbrev pub Short : {L : Type 0} → Option (Meant L) → Type 0
Short None = Unit {0}
Short (Some m) = (m.taken < 2 ^ 16) × (length m.steps < 2 ^ 16) × AllByRecursion (λ s. s.section < 2 ^ 16) m.steps

module _ {C L S : Type 0} (c : cost.Ghosts C L S) (forms : Forms L S) where
  -- the section is there, with these ends
  abbrev pub ends_same : Option (Section S) → Step L → Bool
  ends_same None s = false
  ends_same (Some x) s = s.from == x.from && s.to == x.to

  abbrev pub step_good : Net S → Step L → Bool
  step_good net s = ends_same (slice_get net.sections s.section) s && is_some (forms.shown s.so_far)

  abbrev pub nothing_at : Outcome → L → ℕ → Bool
  nothing_at Found a n = true
  nothing_at NoRoute a n = ((form_of c forms a).moves == 0 && (form_of c forms a).samples == 0) && n == 0

  abbrev pub meant_good : Net S → Meant L → Bool
  meant_good net m =
      is_some (forms.shown m.cost) && (nat_le (length m.steps) 4095 && (nat_lt m.taken net.stations && nothing_at m.outcome m.cost (length m.steps)))

  -- the first step that a page cannot hold, its record counted from an offset
  abbrev pub steps_fault : Net S → ℕ → List (Step L) → Option Fault
  steps_fault net at [] = None
  steps_fault net at (s ∷ ss) = cond (step_good net s) (steps_fault net (at + 13) ss) (Some (page_fault (FieldOutOfRange at)))

  abbrev pub answer_fault : Net S → ℕ → Option (Meant L) → Option Fault
  answer_fault net at None = None
  answer_fault net at (Some m) = cond (meant_good net m) (steps_fault net (at + 20) m.steps) (Some (page_fault (FieldOutOfRange at)))

  -- What is answered, and what the page holds then --------------------------------------------

  pub record Written : Type 0 where
    pub answer : Result ℕ Fault
    pub page : List ℕ

  abbrev pub refused_by : List ℕ → Fault → Written
  refused_by page f = record { answer = Err f; page = page }

  -- the first bytes are the content's, and the rest stands
  abbrev pub written_by : List ℕ → Content L S → Option Fault → Written
  written_by page x (Some f) = refused_by page f
  written_by page x None = record { answer = Ok (length (encode c forms x)); page = encode c forms x ++ drop (length (encode c forms x)) page }

  -- other stations than the network's, then too short a page, then a field that a page cannot hold
  abbrev pub write_of : List ℕ → Content L S → Written
  write_of page x =
      cond (length x.estimates == x.network.stations)
      (cond (nat_lt (length page) (needed x)) (refused_by page (page_fault (PageTooShort (needed x))))
      (written_by page x (answer_fault x.network (answer_at x) x.answer)))
      (refused_by page (page_fault (EstimateCount (length x.estimates))))

  -- the fault alone of what is refused, on a page of so many bytes
  abbrev pub write_fault : ℕ → Content L S → Option Fault
  write_fault room x =
      cond (length x.estimates == x.network.stations)
      (cond (nat_lt room (needed x)) (Some (page_fault (PageTooShort (needed x))))
      (answer_fault x.network (answer_at x) x.answer))
      (Some (page_fault (EstimateCount (length x.estimates))))
