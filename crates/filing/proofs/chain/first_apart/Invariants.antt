use Rattle.std.proofs.Common.{◌≡◌}
use Rattle.filing.specs.Chains.{first_apart}
use Rattle.filing.proofs.Chained.{apart_at}
use Rattle.filing.proofs.chain.first_apart.Given as goal

-- the steps so far join
abbrev pub invariant-loop-step : goal.invariant-loop-step
invariant-loop-step g l = apart_at l.steps l.step ≡ first_apart l.steps
