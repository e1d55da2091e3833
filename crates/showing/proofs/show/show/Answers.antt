use Rattle.std.proofs.Common.{arith, string_bytes}
use Rattle.std.proofs.lemmas.Grind.{common_steps}
use Rattle.std.proofs.lemmas.Result.{IfOk-weaker}
use Rattle.amounts.specs.contracts.kinds.MovesCost.TheImpl as moves
use Rattle.amounts.specs.contracts.kinds.MovesPageCost.TheImpl as moves_page
use Rattle.amounts.specs.contracts.kinds.SamplesCost.TheImpl as samples
use Rattle.amounts.specs.contracts.kinds.SamplesPageCost.TheImpl as samples_page
use Rattle.showing.specs.Shown.{PageShown}
use Rattle.showing.proofs.Naming.{shown_accepted, shown_of_another}
use Rattle.showing.proofs.show.show.Goals as goal

pub returns-in-2-clause-shown_moves : goal.returns-in-2-clause-shown_moves
returns-in-2-clause-shown_moves c = IfOk-weaker c.show_for.result _ (λ s. PageShown moves.ghosts moves_page.ghosts.forms c.args.page.now (string_bytes s)) (λ s is. shown_accepted moves.ghosts moves_page.ghosts.forms c.args.page.now (string_bytes s) is) c.show_for.ensures

pub returns-in-2-clause-shown_samples : goal.returns-in-2-clause-shown_samples
returns-in-2-clause-shown_samples c = IfOk-weaker c.show_for.result _ (λ s. PageShown samples.ghosts samples_page.ghosts.forms c.args.page.now (string_bytes s)) (λ s is. shown_of_another samples.ghosts samples_page.ghosts.forms c.args.page.now (string_bytes s) (λ long is. grind (arith, common_steps))) c.show_for.ensures

pub returns-in_default-clause-shown_moves : goal.returns-in_default-clause-shown_moves
returns-in_default-clause-shown_moves c = IfOk-weaker c.show_for-in_default.result _ (λ s. PageShown moves.ghosts moves_page.ghosts.forms c.args.page.now (string_bytes s)) (λ s is. shown_of_another moves.ghosts moves_page.ghosts.forms c.args.page.now (string_bytes s) (λ long is. grind (arith, common_steps))) c.show_for-in_default.ensures

pub returns-in_default-clause-shown_samples : goal.returns-in_default-clause-shown_samples
returns-in_default-clause-shown_samples c = IfOk-weaker c.show_for-in_default.result _ (λ s. PageShown samples.ghosts samples_page.ghosts.forms c.args.page.now (string_bytes s)) (λ s is. shown_accepted samples.ghosts samples_page.ghosts.forms c.args.page.now (string_bytes s) is) c.show_for-in_default.ensures
