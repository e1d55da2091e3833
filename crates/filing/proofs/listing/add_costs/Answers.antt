use Rattle.std.proofs.Common.{◌∙◌, ap, sym, arith}
use Rattle.std.proofs.lemmas.List.{length-set}
use Rattle.amounts.specs.Amount.{computed}
use Rattle.filing.proofs.Filling.{cost_on, costs_done}
use Rattle.filing.proofs.listing.add_costs.Goals as goal

pub loop-place-preserved : goal.loop-place-preserved
loop-place-preserved g c =
    record {
      long = length-set c.loop-place.steps c.loop-place.place _ ∙ c.loop-place.invariant.long;
      left =
          cost_on g.C.Cost (g.N.Network.meaning c.args.net.now) c.loop-place.steps c.loop-place.place c.index-steps-place.result c.loop-place.cost c.sum-cost.result
          (omega (arith, c.loop-place-test.true, c.loop-place.invariant.long)) c.index-steps-place.is (c.sum-cost.ensures ∙ ap ((computed g.C.Cost.ops).plus c.loop-place.cost) c.worth_in.ensures)
          ∙ c.loop-place.invariant.left;
    }

pub returns : goal.returns
returns g c = sym (costs_done g.C.Cost (g.N.Network.meaning c.args.net.now) c.loop-place.steps c.loop-place.place c.loop-place.cost (omega (arith, c.loop-place-test.false, c.loop-place.invariant.long))) ∙ c.loop-place.invariant.left
