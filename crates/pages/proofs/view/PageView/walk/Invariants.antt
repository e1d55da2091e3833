use Rattle.std.proofs.Common.{◌≡◌, drop}
use Rattle.contents.specs.Content.{steps_in, net_of, answer_of}
use Rattle.contents.specs.Retracing.{walks}
use Rattle.pages.proofs.view.PageView.walk.Given as goal

-- what is still to be walked
abbrev pub invariant-loop-k : goal.invariant-loop-k
invariant-loop-k g l =
    let c = g.C.Cost in
    let forms = g.C.PageCost.forms in
    let bs = l.self.bytes.now in
    let net = net_of c forms bs in
    let steps = steps_in (answer_of c forms bs) in
    walks c net l.station l.cost l.total (drop l.k steps) ≡ walks c net net.launcher c.ops.zero l.total steps
