use Rattle.std.proofs.Common.{◌≡◌}
use Rattle.std.specs.List.{slice_get}
use Rattle.networks.specs.Nets.{numbers, starts}
use Rattle.networks.proofs.Numbers.{coming}
use Rattle.contents.specs.Content.{net_of}
use Rattle.pages.proofs.page_network.PageViewNetwork.touching.Given as goal

-- what is still to come
abbrev pub invariant-loop-number : goal.invariant-loop-number
invariant-loop-number g l =
    let sections = (net_of g.C.Cost g.C.PageCost.forms l.self.bytes.now).sections in
    let test = starts l.side l.station in
    coming test sections l.number l.left ≡ slice_get (numbers test 0 sections) l.k
