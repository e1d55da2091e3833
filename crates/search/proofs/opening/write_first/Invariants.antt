use Rattle.std.proofs.Common.{◌≡◌, map, take}
use Rattle.std.specs.List.{range_with_len}
use Rattle.optimality.specs.Search.{first_row}
use Rattle.search.proofs.opening.write_first.Given as goal

-- the rows so far are first ones
abbrev pub invariant-loop-station : goal.invariant-loop-station
invariant-loop-station g l =
    take l.station l.own ≡ map (first_row g.C.Cost (g.N.Network.meaning l.net)) (range_with_len 0 l.station)
