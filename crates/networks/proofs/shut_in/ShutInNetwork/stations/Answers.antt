use Rattle.networks.proofs.Shutting.{range_shut}
use Rattle.networks.proofs.shut_in.ShutInNetwork.stations.Goals as goal

pub returns : goal.returns
returns g c =
    let s = c.args.self.now in
    record {
      count = c.stations.ensures.count;
      range = range_shut s.kept.items g.C.Cost.section_range (g.N.Network.meaning s.below) c.stations.ensures.range;
    }
