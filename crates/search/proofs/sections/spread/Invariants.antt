use Rattle.std.proofs.Common.{◌≡◌, length, drop}
use Rattle.networks.specs.Nets.{starters}
use Rattle.optimality.specs.Search.{spread}
use Rattle.search.proofs.sections.spread.Given as goal

-- what is left of the sections, from here, gives what all of them give from the start
abbrev pub invariant-loop-k : goal.invariant-loop-k
invariant-loop-k g l =
    let net = g.N.Network.meaning l.net in
    let ks = starters l.side net l.station in
    record {
      long : length l.rows ≡ length l.fn.rows;
      left : spread g.C.Cost net l.side l.label (drop l.k ks) (record { rows = l.rows; ceiling = l.ceiling }) ≡ spread g.C.Cost net l.side l.label ks (record { rows = l.fn.rows; ceiling = l.fn.ceiling });
    }
