use Rattle.std.proofs.Common.{◌≡◌, true, false, arith, string_bytes}
use Rattle.std.proofs.lemmas.Grind.{common_steps}
use Rattle.amounts.specs.contracts.kinds.MovesCost.TheImpl as moves
use Rattle.amounts.specs.contracts.kinds.MovesPageCost.TheImpl as moves_page
use Rattle.amounts.specs.contracts.kinds.SamplesCost.TheImpl as samples
use Rattle.amounts.specs.contracts.kinds.SamplesPageCost.TheImpl as samples_page
use Rattle.showing.specs.Shown.{says_moves}
use Rattle.planning.specs.Planned.{told}
use Rattle.planning.proofs.Answering.{answered_any, exact_for}
use Rattle.planning.proofs.Naming.{plan_of_another}
use Rattle.planning.proofs.plan.planned.Goals as goal

pub returns-in-2 : goal.returns-in-2
returns-in-2 c =
    let page = c.args.page.now in
    let so : says_moves page ≡ true = grind (arith, common_steps) in
    record {
      exact = exact_for string_bytes (says_moves page) true c.plan_for.result _ _ so c.plan_for.ensures.exact;
      stands_moves = c.plan_for.ensures.stands;
      stands_samples = answered_any string_bytes c.plan_for.result _ (λ r. plan_of_another samples.ghosts samples_page.ghosts.forms page (λ long is. grind (arith, common_steps)) (told r));
    }

pub returns-in_default : goal.returns-in_default
returns-in_default c =
    let page = c.args.page.now in
    let other : says_moves page ≡ false = grind (arith, common_steps) in
    record {
      exact = exact_for string_bytes (says_moves page) false c.plan_for-in_default.result _ _ other c.plan_for-in_default.ensures.exact;
      stands_moves = answered_any string_bytes c.plan_for-in_default.result _ (λ r. plan_of_another moves.ghosts moves_page.ghosts.forms page (λ long is. grind (arith, common_steps)) (told r));
      stands_samples = c.plan_for-in_default.ensures.stands;
    }
