use Rattle.std.proofs.Common.{sym}
use Rattle.std.proofs.lemmas.List.{length-replicate}
use Rattle.networks.specs.Given.{PairInRange}
use Rattle.std.proofs.lemmas.List.Elements.{All-replicate, recursion_from_All}
use Rattle.networks.proofs.blank.BlankEstimates.count.Goals as goal

pub returns : goal.returns
returns g c =
    let zero = g.met.C.Cost.ranges.zero in
    record {
      count = sym (length-replicate _ _);
      range = recursion_from_All _ _ (All-replicate (PairInRange g.C.Cost.estimate_range) c.args.self.now.count _ (record { forward = zero; backward = zero }));
      within = c.args.self.now.within;
    }
