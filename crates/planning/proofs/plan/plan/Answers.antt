use Rattle.std.proofs.Common.{List, ℕ, sym, subst, string_bytes}
use Rattle.std.proofs.lemmas.Result.{IfOk-weaker}
use Rattle.amounts.specs.contracts.kinds.MovesCost.TheImpl as moves
use Rattle.amounts.specs.contracts.kinds.MovesPageCost.TheImpl as moves_page
use Rattle.amounts.specs.contracts.kinds.SamplesCost.TheImpl as samples
use Rattle.amounts.specs.contracts.kinds.SamplesPageCost.TheImpl as samples_page
use Rattle.planning.specs.Claims.{PlanStands}
use Rattle.planning.proofs.plan.plan.Goals as goal

pub returns-in-Err-Refused-clause-stands_moves : goal.returns-in-Err-Refused-clause-stands_moves
returns-in-Err-Refused-clause-stands_moves c =
    let Stands : List ℕ → Type 0 = PlanStands moves.ghosts moves_page.ghosts.forms c.args.page.now in
    let known = rw c.in-Err-Refused.field-0-is at c.in-Err-Refused.ensures.stands_moves in
    IfOk-weaker c.refused_text.result _ (λ s. Stands (string_bytes s)) (λ s is. subst Stands (sym is) known) c.refused_text.ensures

pub returns-in-Err-Refused-clause-stands_samples : goal.returns-in-Err-Refused-clause-stands_samples
returns-in-Err-Refused-clause-stands_samples c =
    let Stands : List ℕ → Type 0 = PlanStands samples.ghosts samples_page.ghosts.forms c.args.page.now in
    let known = rw c.in-Err-Refused.field-0-is at c.in-Err-Refused.ensures.stands_samples in
    IfOk-weaker c.refused_text.result _ (λ s. Stands (string_bytes s)) (λ s is. subst Stands (sym is) known) c.refused_text.ensures
