use Rattle.std.proofs.Common.{◌≡◌, take}
use Rattle.networks.specs.Nets.{starters}
use Rattle.search.specs.Replay.{mark_after}
use Rattle.search.proofs.dry.mark_after.Given as goal

-- what is left of the sections gives, from here, what all of them give from the first mark
abbrev pub invariant-loop-k : goal.invariant-loop-k
invariant-loop-k g l =
    let net = g.N.Network.meaning l.net in
    l.mark ≡ mark_after g.C.Cost l.side l.label net l.to (take l.k (starters l.side net l.station)) l.fn.first
