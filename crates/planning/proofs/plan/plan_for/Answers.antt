use Rattle.std.proofs.Common.{string_bytes}
use Rattle.planning.specs.Planned.{told}
use Rattle.planning.proofs.Answering.{answered_more}
use Rattle.planning.proofs.Telling.{plan_stands}
use Rattle.planning.proofs.plan.plan_for.Goals as goal

pub returns-clause-stands : goal.returns-clause-stands
returns-clause-stands g c =
    answered_more string_bytes c.searched_text.result _ _ (λ r. plan_stands g.C.Cost g.C.PageCost.forms c.args.page.now c.read.new.view.bytes.now (told r) c.in_ok-read.ensures.filled) c.searched_text.ensures.stands
