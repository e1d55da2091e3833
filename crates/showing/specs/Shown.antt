-- What a person is shown of a page: a line for the header, a line a section, a line a station, the answer, and whether it retraces.
use Rattle.std.specs.Prelude.{◌≡◌, ℕ, Bool, true, false, cond, List, [], ◌∷◌, ◌++◌, length, is_ok, Some, None, Ok, Err, Option, Result, codes, decimal, ◌&&◌, ◌==◌, nat_lt, slice_index}
use Rattle.std.specs.List.{slice_get}
use Rattle.faults.specs.Faults.{refused_line}
use Rattle.faults.specs.declared.Fault.{Fault}
use Rattle.amounts.specs.declared.cost.Cost as cost
use Rattle.amounts.specs.Forms.{Forms}
use Rattle.networks.specs.declared.section.Section.{Section}
use Rattle.networks.specs.declared.estimates.Pair.{Pair}
use Rattle.networks.specs.Nets.{Net}
use Rattle.contents.specs.declared.answer.Outcome.{Outcome}
use Rattle.contents.specs.declared.answer.Outcome.TheVariants.{Found, NoRoute}
use Rattle.contents.specs.declared.answer.Step.{Step}
use Rattle.contents.specs.declared.answer.Answer.{Answer}
use Rattle.contents.specs.Checks.{check_page}
use Rattle.contents.specs.Content.{Meant, net_of, pairs_of, answer_of}
use Rattle.contents.specs.Encoding.{form_of}
use Rattle.contents.specs.Retracing.{retraced}
use Rattle.showing.specs.Lines.{lines}

abbrev newline : List ℕ
newline = 10 ∷ []

-- the line of what is there, or nothing
abbrev pub line_of : {X : Type 0} → (X → List ℕ) → Option X → List ℕ
line_of line None = []
line_of line (Some x) = line x

abbrev pub state_word : Bool → List ℕ
state_word true = codes "shut"
state_word false = codes "open"

abbrev pub outcome_word : Outcome → List ℕ
outcome_word Found = codes "route"
outcome_word NoRoute = codes "none"

-- whether the answer retraces, where there is one
abbrev pub verdict_line : {L : Type 0} → Option (Meant L) → Bool → List ℕ
verdict_line None holds = codes "no answer" ++ newline
verdict_line (Some m) true = codes "retraced yes" ++ newline
verdict_line (Some m) false = codes "retraced no" ++ newline

module _ {C L S : Type 0} (c : cost.Ghosts C L S) (forms : Forms L S) where
  abbrev pub header_line : Net S → List ℕ
  header_line net =
      codes "kind " ++ (decimal c.KIND ++ (codes " stations " ++ (decimal net.stations ++ (codes " sections " ++ (decimal (length net.sections) ++
      (codes " launcher " ++ (decimal net.launcher ++ (codes " trap " ++ (decimal net.trap ++ newline)))))))))

  -- number, open or shut, from, to, moves and samples
  abbrev pub section_line : ℕ → Section S → List ℕ
  section_line n s =
      let form = forms.parts s.amount in
      codes "section " ++ (decimal n ++ (codes " " ++ (state_word s.shut ++ (codes " " ++ (decimal s.from ++ (codes " " ++ (decimal s.to ++
      (codes " " ++ (decimal form.moves ++ (codes " " ++ (decimal form.samples ++ newline)))))))))))

  -- number, and both estimates
  abbrev pub station_line : ℕ → Pair L → List ℕ
  station_line n p =
      let there = form_of c forms p.forward in
      let back = form_of c forms p.backward in
      codes "station " ++ (decimal n ++ (codes " forward " ++ (decimal there.moves ++ (codes " " ++ (decimal there.samples ++
      (codes " backward " ++ (decimal back.moves ++ (codes " " ++ (decimal back.samples ++ newline)))))))))

  -- section, from, to, and the cost so far
  abbrev pub step_line : Step L → List ℕ
  step_line s =
      let form = form_of c forms s.so_far in
      codes "step " ++ (decimal s.section ++ (codes " " ++ (decimal s.from ++ (codes " " ++ (decimal s.to ++
      (codes " " ++ (decimal form.moves ++ (codes " " ++ (decimal form.samples ++ newline)))))))))

  -- run, outcome, cost and stations taken
  abbrev pub answer_line : {T : Type 0} → Answer L T → List ℕ
  answer_line m =
      let form = form_of c forms m.cost in
      codes "answer run " ++ (decimal m.run ++ (codes " " ++ (outcome_word m.outcome ++ (codes " cost " ++ (decimal form.moves ++ (codes " " ++ (decimal form.samples ++
      (codes " taken " ++ (decimal m.taken ++ newline)))))))))

  -- and a line a step
  abbrev pub answer_lines : Option (Meant L) → List ℕ
  answer_lines None = []
  answer_lines (Some m) = answer_line m ++ lines (λ k. line_of step_line (slice_get m.steps k)) (length m.steps)

  -- an accepted page
  abbrev pub shown_of : List ℕ → List ℕ
  shown_of page =
      let net = net_of c forms page in
      let pairs = pairs_of c forms page in
      let answer = answer_of c forms page in
      header_line net ++
      (lines (λ n. line_of (section_line n) (slice_get net.sections n)) (length net.sections) ++
      (lines (λ n. line_of (station_line n) (slice_get pairs n)) (length pairs) ++
      (answer_lines answer ++ verdict_line answer (retraced c net answer))))

  abbrev pub checked : List ℕ → Result (Unit {0}) Fault → List ℕ
  checked page (Ok _) = shown_of page
  checked page (Err fault) = refused_line fault ++ newline

  -- any page, read for this kind
  abbrev pub shown_for : List ℕ → List ℕ
  shown_for page = checked page (check_page c.KIND page)

  -- an accepted page is shown as what it means
  abbrev pub PageShown : List ℕ → List ℕ → Type 0
  PageShown page text = is_ok (check_page c.KIND page) ≡ true → text ≡ shown_of page

-- whether a page says of itself that its kind of cost is 2
abbrev pub says_moves : List ℕ → Bool
says_moves page = nat_lt 1 (length page) && slice_index page 1 == 2

-- any page, read for the kind of moves where it says so, else for that of samples
abbrev pub show_of : {C L S D M T : Type 0} → cost.Ghosts C L S → Forms L S → cost.Ghosts D M T → Forms M T → List ℕ → List ℕ
show_of samples samples_forms moves moves_forms page = cond (says_moves page) (shown_for moves moves_forms page) (shown_for samples samples_forms page)
