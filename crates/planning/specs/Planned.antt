-- What is printed of a search in turn.
use Rattle.std.specs.Prelude.{ℕ, cond, List, replicate, take, Ok, Err, Result}
use Rattle.std.specs.Result.{result_and}
use Rattle.amounts.specs.declared.cost.Cost as cost
use Rattle.amounts.specs.Forms.{Forms}
use Rattle.faults.specs.declared.Fault.{Fault}
use Rattle.networks.specs.Nets.{Net}
use Rattle.contents.specs.declared.answer.Step.{Step}
use Rattle.contents.specs.Checks.{check_page}
use Rattle.contents.specs.Content.{net_of, pairs_of}
use Rattle.optimality.specs.declared.sheet.Row.{Row}
use Rattle.optimality.specs.Problems.{Problem}
use Rattle.filing.specs.Listing.{Routed, route_of}
use Rattle.showing.specs.Shown.{says_moves}
use Rattle.planning.specs.Turns.{made_of}
use Rattle.planning.specs.Texts.{route_text, none_text, refused_text}

module _ {C L S : Type 0} (c : cost.Ghosts C L S) where
  -- a list of so many places for steps
  abbrev pub blank_steps : ℕ → List (Step L)
  blank_steps places = replicate places (record { section = 0; from = 0; to = 0; so_far = c.ops.zero })

  -- Route, over lists of a place for each station
  abbrev pub listed : Net S → ℕ → List (Row C L S) → Routed L
  listed net meeting sheet = let blank = blank_steps net.stations in route_of c net blank blank meeting sheet

module _ {C L S : Type 0} (c : cost.Ghosts C L S) (forms : Forms L S) where
  module _ (net : Net S) where
    abbrev pub text_listed : L → ℕ → Routed L → Result ℕ Fault → Result (List ℕ) Fault
    text_listed cost taken r (Ok count) = Ok (route_text c forms cost taken (take count r.steps))
    text_listed cost taken r (Err f) = Err f

    -- the text of a route of this cost that meets at this station
    abbrev pub found_text : L → ℕ → ℕ → List (Row C L S) → Result (List ℕ) Fault
    found_text cost taken meeting sheet = let r = listed c net meeting sheet in text_listed cost taken r r.answer

-- the text of a search over a sheet with a row for each station
abbrev pub text_of : {C L S : Type 0} → Problem C L S → Forms L S → Result (List ℕ) Fault
text_of p forms = made_of p (found_text p.kind forms p.net) (λ taken. Ok (none_text taken))

module _ {C L S : Type 0} (c : cost.Ghosts C L S) (forms : Forms L S) where
  -- the network and the estimates of an accepted page
  abbrev pub problem_on : List ℕ → Problem C L S
  problem_on page = record { kind = c; net = net_of c forms page; estimates = pairs_of c forms page }

  -- the text of any page, read for this kind
  abbrev pub plan_for : List ℕ → Result (List ℕ) Fault
  plan_for page = result_and (check_page c.KIND page) (text_of (problem_on page) forms)

-- what is printed: the text, or the fault's line
abbrev pub told : Result (List ℕ) Fault → List ℕ
told (Ok text) = text
told (Err f) = refused_text f

module _ {C L S D M T : Type 0} (samples : cost.Ghosts C L S) (samples_forms : Forms L S) (moves : cost.Ghosts D M T) (moves_forms : Forms M T) where
  -- any page, read for the kind of moves where it says so, else for that of samples
  abbrev pub planned_of : List ℕ → Result (List ℕ) Fault
  planned_of page = cond (says_moves page) (plan_for moves moves_forms page) (plan_for samples samples_forms page)

  abbrev pub plan_of : List ℕ → List ℕ
  plan_of page = told (planned_of page)
