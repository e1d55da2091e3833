-- Nothing is claimed of a page for a kind of cost that it does not name.
use Rattle.std.proofs.Common.{◌≡◌, ℕ, ◌≤◌, List, length, get_or, Result}
use Rattle.amounts.specs.declared.cost.Cost as cost
use Rattle.amounts.specs.Forms.{Forms}
use Rattle.faults.specs.declared.Fault.{Fault}
use Rattle.showing.proofs.Naming.{refused}
use Rattle.planning.specs.Claims.{PlanStands, FiledStands}

module _ {C L S : Type 0} (c : cost.Ghosts C L S) (forms : Forms L S) (page : List ℕ) (other : 10 ≤ length page → get_or page 1 0 ≡ c.KIND → ⊥) where
  pub plan_of_another : (text : List ℕ) → PlanStands c forms page text
  plan_of_another text ok consistent = absurd (refused c.KIND page other ok)

  pub filed_of_another : (run : ℕ) (r : Result (List ℕ) Fault) → FiledStands c forms run page r
  filed_of_another run r ok consistent = absurd (refused c.KIND page other ok)
