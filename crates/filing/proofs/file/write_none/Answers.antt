use Rattle.std.proofs.Common.{◌≡◌, ℕ, [], take, Ok, Err, Result, subst}
use Rattle.faults.specs.declared.Fault.{Fault}
use Rattle.contents.specs.declared.answer.Outcome.TheVariants as outcome
use Rattle.contents.specs.Again.{Back}
use Rattle.contents.specs.Content.{Content}
use Rattle.filing.specs.Claims.{NoneFiledBy}
use Rattle.filing.specs.Filing.{filed_with, none_filed}
use Rattle.filing.proofs.file.write_none.Given.{Over}
use Rattle.filing.proofs.file.write_none.Goals.{After-write}
use Rattle.filing.proofs.file.write_none.Goals as goal

module _ (g : Over) (c : After-write g) where
  -- what `write` says of what it left
  abbrev Left : Content g.row.C-Label.Denot g.row.C-Section.Denot → Result ℕ Fault → Type 0
  Left x r = elim r [ Ok n ↦ Back g.C.Cost g.C.PageCost.forms x (take n c.write.new.page) | Err _ ↦ Unit {0} ]

  abbrev put_in : Content g.row.C-Label.Denot g.row.C-Section.Denot
  put_in = filed_with g.C.Cost g.C.PageCost.forms g.N.Network g.E.Estimates c.args.none.now.net c.args.none.now.estimates (none_filed g.C.Cost c.args.run c.args.none.now.taken)

  filed : (r : Result ℕ Fault) → Left put_in r → NoneFiledBy g.C.Cost g.C.PageCost.forms g.N.Network g.E.Estimates c.args.none.now c.args.run r c.write.new.page
  filed (Ok n) back = back
  filed (Err f) back = tt

-- what is put in is what File puts in
pub returns-clause-filed : goal.returns-clause-filed
returns-clause-filed g c =
    let same : filed_with g.C.Cost g.C.PageCost.forms g.N.Network g.E.Estimates c.network.result.now c.estimates.result.now (record { run = c.args.run; outcome = outcome.NoRoute; cost = c.ZERO.result; taken = c.taken.result; steps = [] }) ≡ put_in g (goal.at.returns-clause-filed g c).After-write = rw (c.network.ensures, c.estimates.ensures, c.taken.ensures, c.ZERO.ensures, g.met.C.Cost.zero) in
    filed g (goal.at.returns-clause-filed g c).After-write c.write.result (subst (λ x. Left g (goal.at.returns-clause-filed g c).After-write x c.write.result) same c.write.ensures.back)
