use Rattle.std.proofs.Common.{◌≡◌}
use Rattle.planning.specs.Planned.{blank_steps}
use Rattle.planning.proofs.blanks.blank_steps.Given as goal

abbrev pub invariant-loop-place : goal.invariant-loop-place
invariant-loop-place g l = l.steps.items ≡ blank_steps g.C.Cost l._place
