use Rattle.std.proofs.Common.{◌≡◌, ℕ, ◌*◌, eqb, refl, arith}
use Rattle.amounts.specs.declared.forms.SectionForm.{SectionForm}
use Rattle.faults.specs.declared.Side.{Side}
use Rattle.faults.specs.declared.Side.TheVariants.{Forward, Backward}
use Rattle.networks.specs.Nets.{starts}
use Rattle.networks.proofs.Rolls.{roll_of}
use Rattle.twinline.specs.Twin.{Line, twin_net, along, numbered, end_of, section_count}
use Rattle.twinline.specs.Held.{line_of}
use Rattle.twinline.proofs.Hits.{both}
use Rattle.twinline.proofs.Twins.{line_range}
use Rattle.twinline.proofs.twin_line.TwinLineNetwork.touching.Goals as goal

same : {S : Type 0} (made : SectionForm → S) (t : Line) (side : Side) (station i : ℕ) → starts side station (numbered made t i) ≡ eqb (end_of t side i) station
same made t Forward station i = refl
same made t Backward station i = refl

pub returns : goal.returns
returns g c =
    let t = line_of c.args.self.now in
    let range = line_range c.args.self.now in
    let made = g.C.PageCost.forms.made in
    let side = c.args.side in
    let station = c.args.station in
    record {
      exact = rw (both (starts side station) (numbered made t) (end_of t side) station (same made t side station) (2 * along t) (section_count t) _ _ (omega arith) c.along.ensures c.across.ensures) c.kth.ensures;
      roll = roll_of (starts side station) (twin_net made t).sections;
    }
