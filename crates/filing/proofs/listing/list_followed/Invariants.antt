use Rattle.std.proofs.Common.{◌≡◌, ◌+◌, ◌-◌, ◌++◌, length, take, Some, option_map}
use Rattle.filing.specs.Arrivals.{followed}
use Rattle.filing.specs.Costs.{bare_steps}
use Rattle.filing.proofs.Followed.{counted}
use Rattle.filing.proofs.listing.list_followed.Given as goal

-- those so far, and the ones that lead on from here, are all; and these fill the list
abbrev pub invariant-loop-place : goal.invariant-loop-place
invariant-loop-place g l =
    let net = g.N.Network.meaning l.net in
    let room = length l.fn.list in
    let on = followed net l.own l.side (room + 1 - l.place) l.at in
    record {
      long : length l.list ≡ room;
      full : counted l.place on ≡ Some room;
      left : option_map (λ ks. take l.place l.list ++ bare_steps g.C.Cost net ks) on ≡ option_map (bare_steps g.C.Cost net) (followed net l.own l.side (room + 1) l.fn.station);
    }
