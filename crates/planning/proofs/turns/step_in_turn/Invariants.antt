use Rattle.std.proofs.Common.{◌≡◌, ◌-◌}
use Rattle.faults.specs.declared.Side.TheVariants.{Forward}
use Rattle.search.specs.Calls.{problem, standing}
use Rattle.planning.specs.Turns.{in_turn}
use Rattle.planning.proofs.turns.step_in_turn.Given as goal

-- the turns that are left lead where all of them do
abbrev pub invariant-loop-turn : goal.invariant-loop-turn
invariant-loop-turn g l =
    let p = problem g.C.Cost g.N.Network g.E.Estimates l.initial.search in
    record {
      same : in_turn p (l.turns - l.turn) l.side (standing l.search l.sheet) ≡ in_turn p l.turns Forward (standing l.initial.search l.initial.sheet);
      net : l.search.net ≡ l.initial.search.net;
      given : l.search.estimates ≡ l.initial.search.estimates;
    }
