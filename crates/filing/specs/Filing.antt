-- What File answers, and what the lists and the page then hold.
use Rattle.std.specs.Prelude.{ℕ, List, [], take, Some, Ok, Err, Result}
use Rattle.amounts.specs.declared.cost.Cost as cost
use Rattle.amounts.specs.Forms.{Forms}
use Rattle.networks.specs.declared.network.Network as network
use Rattle.networks.specs.declared.estimates.Estimates as estimates
use Rattle.faults.specs.declared.Fault.{Fault}
use Rattle.contents.specs.declared.answer.Outcome.TheVariants as outcome
use Rattle.contents.specs.declared.answer.Step.{Step}
use Rattle.contents.specs.Content.{Meant, Content}
use Rattle.contents.specs.Writing.{Written, write_of}
use Rattle.optimality.specs.declared.sheet.Row.{Row}
use Rattle.search.specs.declared.running.Found.{Found}
use Rattle.search.specs.declared.running.NoRoute.{NoRoute}
use Rattle.filing.specs.Listing.{Routed, route_of, last_cost}

-- what File answers, and what the two lists and the page then hold
pub record Filing (L : Type 0) : Type 0 where
  pub answer : Result ℕ Fault
  pub steps : List (Step L)
  pub turning : List (Step L)
  pub page : List ℕ

-- the answer that is filed: the filed cost is the last cost so far, or zero
module _ {C L S : Type 0} (c : cost.Ghosts C L S) where
  abbrev pub route_filed : ℕ → ℕ → List (Step L) → Meant L
  route_filed run taken steps = record { run = run; outcome = outcome.Found; cost = last_cost c.ops.zero steps; taken = taken; steps = steps }

  abbrev pub none_filed : ℕ → ℕ → Meant L
  none_filed run taken = record { run = run; outcome = outcome.NoRoute; cost = c.ops.zero; taken = taken; steps = [] }

module _ {C N E L S : Type 0} (c : cost.Ghosts C L S) (forms : Forms L S) (n : network.Ghosts N C L S) (e : estimates.Ghosts E C L S) where
  -- what is put on the page with an answer
  abbrev pub filed_with : N → E → Meant L → Content L S
  filed_with net given m = record { network = n.meaning net; estimates = e.meaning given; answer = Some m }

  module _ (found : Found C N E L S) (run : ℕ) (steps turning : List (Step L)) (page : List ℕ) where
    abbrev pub turned_down : Fault → Filing L
    turned_down f = record { answer = Err f; steps = steps; turning = turning; page = page }

    -- the lists hold the route, if the page is written
    abbrev pub filed_by : Routed L → Result ℕ Fault → List ℕ → Filing L
    filed_by r (Err f) after = turned_down f
    filed_by r (Ok len) after = record { answer = Ok len; steps = r.steps; turning = r.turning; page = after }

    abbrev pub written : Routed L → ℕ → Written c forms
    written r count = write_of c forms page (filed_with found.net found.estimates (route_filed c run found.taken (take count r.steps)))

    abbrev pub filing_by : Routed L → Result ℕ Fault → Filing L
    filing_by r (Err f) = turned_down f
    filing_by r (Ok count) = filed_by r ((written r count).answer) ((written r count).page)

  -- Route, then Write; what either turns down leaves lists and page as they were
  abbrev pub file_of : Found C N E L S → ℕ → List (Row C L S) → List (Step L) → List (Step L) → List ℕ → Filing L
  file_of found run sheet steps turning page =
      let r = route_of c (n.meaning found.net) steps turning found.meeting sheet in
      filing_by found run steps turning page r r.answer

  -- Write alone, where there is no route
  abbrev pub file_none_of : NoRoute C N E L S → ℕ → List ℕ → Written c forms
  file_none_of none run page = write_of c forms page (filed_with none.net none.estimates (none_filed c run none.taken))
