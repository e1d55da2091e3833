use Rattle.twinline.specs.Held.{line_of}
use Rattle.twinline.proofs.Twins.{line_range}
use Rattle.twinline.proofs.Crossings.{across_upper, across_lower}
use Rattle.twinline.proofs.twin_line.TwinLine.across.Goals as goal

pub returns-then-station-self : goal.returns-then-station-self
returns-then-station-self c =
    let x = c.crossing.ensures in
    across_upper (line_of c.args.self.now) (line_range c.args.self.now) c.args.station _ c.args.side c.if-station-self.true (rw (← c.eq.ensures) x)

pub returns-then-station-self-2 : goal.returns-then-station-self-2
returns-then-station-self-2 c =
    let x = c.crossing-then-station-self-2.ensures in
    across_lower (line_of c.args.self.now) (line_range c.args.self.now) c.args.station _ c.args.side c.if-station-self.false (rw (← c.eq-then-station-self-2.ensures) x)
