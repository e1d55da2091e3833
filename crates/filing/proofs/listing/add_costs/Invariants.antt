use Rattle.std.proofs.Common.{◌≡◌, ◌++◌, length, take, drop}
use Rattle.filing.specs.Costs.{costed}
use Rattle.filing.proofs.listing.add_costs.Given as goal

-- those so far, and what is made of the rest from here, are what is made of all
abbrev pub invariant-loop-place : goal.invariant-loop-place
invariant-loop-place g l =
    let net = g.N.Network.meaning l.net in
    record {
      long : length l.steps ≡ length l.fn.steps;
      left : take l.place l.steps ++ costed g.C.Cost net l.cost (drop l.place l.steps) ≡ costed g.C.Cost net g.C.Cost.ops.zero l.fn.steps;
    }
