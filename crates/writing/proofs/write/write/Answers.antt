use Rattle.std.proofs.lemmas.Grind.{common_steps}
use Rattle.std.proofs.Common.{arith, rules, ◌≡◌, length}
use Rattle.std.specs.Result.{result_err}
use Rattle.contents.specs.Content.{Content}
use Rattle.contents.specs.Encoding.{PageLaws}
use Rattle.contents.specs.Writing.{content_by, write_fault, write_of}
use Rattle.contents.proofs.Refusing.{write_first}
use Rattle.contents.proofs.Wrote.{never_refused, written_again}
use Rattle.writing.proofs.write.write.Given.{Over}
use Rattle.writing.proofs.write.write.Goals.{After-from_residual}
use Rattle.writing.proofs.write.write.Goals as goal

laws : (g : Over) → PageLaws g.C.Cost g.C.PageCost.forms
laws g = record { ranges = g.met.C.Cost.ranges; sections = g.met.C.PageCost.sections; labels = g.met.C.PageCost.labels; kinds = g.met.C.PageCost.kinds }

-- refused: what is left is what the definition leaves
module _ (g : Over) (c : After-from_residual g) where
  abbrev x : Content g.row.C-Label.Denot g.row.C-Section.Denot
  x = content_by (g.N.Network.meaning c.args.net.now) (g.E.Estimates.meaning c.args.estimates.now) c.args.answer

  fault_is : result_err c.from_residual.result ≡ write_fault g.C.Cost g.C.PageCost.forms (length c.args.page.now) x
  fault_is = search rules

  left : record { answer = c.from_residual.result; page = c.args.page.now } ≡ write_of g.C.Cost g.C.PageCost.forms c.args.page.now x
  left = grind (arith, common_steps)

pub returns-in_err-check_write-clause-reasons : goal.returns-in_err-check_write-clause-reasons
returns-in_err-check_write-clause-reasons g c = write_first g.C.Cost g.C.PageCost.forms (laws g) _ (x g c) _ (fault_is g c)

pub returns-in_err-check_write-clause-held : goal.returns-in_err-check_write-clause-held
returns-in_err-check_write-clause-held g c = never_refused g.C.Cost g.C.PageCost.forms _ (x g c) (laws g) _ (left g c)

pub returns-in_err-check_write-clause-again : goal.returns-in_err-check_write-clause-again
returns-in_err-check_write-clause-again g c = written_again g.C.Cost g.C.PageCost.forms _ (x g c) (laws g) _ (left g c)

pub returns-clause-reasons : goal.returns-clause-reasons
returns-clause-reasons g c = write_first g.C.Cost g.C.PageCost.forms (laws g) _ _ _ c.in_ok-check_write.ensures

pub returns-clause-held : goal.returns-clause-held
returns-clause-held g c = never_refused g.C.Cost g.C.PageCost.forms _ _ (laws g) _ c.put_page.ensures.left

pub returns-clause-again : goal.returns-clause-again
returns-clause-again g c = written_again g.C.Cost g.C.PageCost.forms _ _ (laws g) _ c.put_page.ensures.left
