-- What is filed of a search in turn.
use Rattle.std.specs.Prelude.{ℕ, ◌+◌, ◌*◌, cond, List, replicate, length, take, Some, Ok, Err, Result}
use Rattle.std.specs.Result.{result_and}
use Rattle.amounts.specs.declared.cost.Cost as cost
use Rattle.amounts.specs.Forms.{Forms}
use Rattle.faults.specs.declared.Fault.{Fault}
use Rattle.networks.specs.Nets.{Net}
use Rattle.contents.specs.Checks.{check_page}
use Rattle.contents.specs.Content.{Meant, Content}
use Rattle.contents.specs.Writing.{write_of}
use Rattle.optimality.specs.declared.sheet.Row.{Row}
use Rattle.optimality.specs.Problems.{Problem}
use Rattle.filing.specs.Listing.{Routed}
use Rattle.filing.specs.Filing.{route_filed, none_filed}
use Rattle.showing.specs.Shown.{says_moves}
use Rattle.planning.specs.Turns.{made_of}
use Rattle.planning.specs.Planned.{listed, problem_on}

-- the page as far as it was written, or the fault
abbrev pub cut_to : List ℕ → Result ℕ Fault → Result (List ℕ) Fault
cut_to page (Ok len) = Ok (take len page)
cut_to page (Err f) = Err f

-- a page with room for header, sections, estimates, an answer with a step for each station, and end
abbrev pub blank_page : {S : Type 0} → Net S → List ℕ
blank_page net = replicate (10 + 12 * length net.sections + 21 * net.stations + 20 + 13 * net.stations + 1) 0

module _ {C L S : Type 0} (p : Problem C L S) where
  -- network and estimates, with an answer
  abbrev pub content_with : Meant L → Content L S
  content_with m = record { network = p.net; estimates = p.estimates; answer = Some m }

module _ {C L S : Type 0} (p : Problem C L S) (forms : Forms L S) where
  -- Write, over a page that nobody has written
  abbrev pub written_with : Meant L → Result (List ℕ) Fault
  written_with m = let w = write_of p.kind forms (blank_page p.net) (content_with p m) in cut_to w.page w.answer

  module _ (run : ℕ) where
    -- Route, then Write
    abbrev pub filed_listed : ℕ → Routed L → Result ℕ Fault → Result (List ℕ) Fault
    filed_listed taken r (Ok count) = written_with (route_filed p.kind run taken (take count r.steps))
    filed_listed taken r (Err f) = Err f

    -- the page with a route of this cost that meets at this station
    abbrev pub found_page : L → ℕ → ℕ → List (Row C L S) → Result (List ℕ) Fault
    found_page cost taken meeting sheet = let r = listed p.kind p.net meeting sheet in filed_listed taken r r.answer

    abbrev pub none_page : ℕ → Result (List ℕ) Fault
    none_page taken = written_with (none_filed p.kind run taken)

    -- the page that is filed of a search over a sheet with a row for each station
    abbrev pub page_of : Result (List ℕ) Fault
    page_of = made_of p found_page none_page

module _ {C L S : Type 0} (c : cost.Ghosts C L S) (forms : Forms L S) (run : ℕ) where
  -- any page, read for this kind
  abbrev pub filed_for : List ℕ → Result (List ℕ) Fault
  filed_for page = result_and (check_page c.KIND page) (page_of (problem_on c forms page) forms run)

-- any page, read for the kind of moves where it says so, else for that of samples
abbrev pub filed_of : {C L S D M T : Type 0} → cost.Ghosts C L S → Forms L S → cost.Ghosts D M T → Forms M T → List ℕ → ℕ → Result (List ℕ) Fault
filed_of samples samples_forms moves moves_forms page run = cond (says_moves page) (filed_for moves moves_forms run page) (filed_for samples samples_forms run page)
