use Rattle.twinline.specs.Held.{line_of}
use Rattle.twinline.proofs.Twins.{line_range}
use Rattle.twinline.proofs.Crossings.{cross_none}
use Rattle.twinline.proofs.twin_line.TwinLine.crossing.Goals as goal

pub returns-then-place-self-ne0 : goal.returns-then-place-self-ne0
returns-then-place-self-ne0 c = cross_none (line_of c.args.self.now) (line_range c.args.self.now) c.args.place c.args.down c.if-place-self-ne0.true
