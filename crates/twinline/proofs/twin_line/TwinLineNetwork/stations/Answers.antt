use Rattle.std.proofs.Common.{refl}
use Rattle.twinline.specs.Held.{line_of}
use Rattle.twinline.proofs.Twins.{line_range, range_twin}
use Rattle.twinline.proofs.twin_line.TwinLineNetwork.stations.Goals as goal

pub returns : goal.returns
returns g c =
    let t = c.args.self.now in
    record {
      count = refl;
      range = range_twin g.C.Cost.section_range g.C.PageCost.forms.made g.met.C.PageCost.sections.in_range (line_of t) (line_range t);
      line = line_range t;
    }
