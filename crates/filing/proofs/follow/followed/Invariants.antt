use Rattle.std.proofs.Common.{◌≡◌, ◌+◌, ◌-◌, length, option_map}
use Rattle.filing.specs.Arrivals.{followed}
use Rattle.filing.proofs.follow.followed.Given as goal

-- so many, and what leads on from here, are what leads on from the station
abbrev pub invariant-loop-steps : goal.invariant-loop-steps
invariant-loop-steps g l =
    let net = g.N.Network.meaning l.net in
    option_map (λ ks. l.steps + length ks) (followed net l.own l.side (l.limit - l.steps) l.at) ≡ option_map length (followed net l.own l.side l.limit l.fn.station)
