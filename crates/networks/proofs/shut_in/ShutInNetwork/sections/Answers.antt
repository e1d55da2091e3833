use Rattle.std.proofs.Common.{sym, ◌∙◌}
use Rattle.networks.proofs.Shutting.{length-shut}
use Rattle.networks.proofs.shut_in.ShutInNetwork.sections.Goals as goal

pub returns : goal.returns
returns g c =
    let s = c.args.self.now in
    c.sections.ensures ∙ sym (length-shut s.kept.items 0 (g.N.Network.meaning s.below).sections)
