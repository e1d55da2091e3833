use Rattle.std.proofs.Common.{vec_items}
use Rattle.planning.proofs.Answering.{answered_more}
use Rattle.planning.proofs.Telling.{filed_stands}
use Rattle.planning.proofs.filed.filed_for.Goals as goal

pub returns-clause-stands : goal.returns-clause-stands
returns-clause-stands g c =
    answered_more vec_items c.searched_page.result _ _ (λ r. filed_stands g.C.Cost g.C.PageCost.forms c.args.run c.args.page.now c.read.new.view.bytes.now r c.in_ok-read.ensures.filled) c.searched_page.ensures.stands
