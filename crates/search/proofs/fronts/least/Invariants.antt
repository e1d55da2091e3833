use Rattle.std.proofs.Common.{◌≡◌}
use Rattle.optimality.specs.Search.{least}
use Rattle.search.proofs.fronts.least.Given as goal

-- the least of those so far
abbrev pub invariant-loop-station : goal.invariant-loop-station
invariant-loop-station g l = l.least ≡ least g.C.Cost (g.E.Estimates.meaning l.estimates) l.rows l.side l.station
