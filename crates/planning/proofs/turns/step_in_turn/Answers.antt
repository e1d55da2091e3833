use Rattle.std.proofs.Common.{◌≡◌, suc, ◌+◌, ◌-◌, ap, ap₂, sym, ◌∙◌, arith}
use Rattle.search.specs.Calls.{posed, problem, standing}
use Rattle.planning.specs.Turns.{in_turn}
use Rattle.planning.proofs.Turning.{turn_more, turn_last}
use Rattle.planning.proofs.turns.step_in_turn.Goals as goal

pub returns-then-is_err-clause-exact : goal.returns-then-is_err-clause-exact
returns-then-is_err-clause-exact g c =
    let at = c.loop-turn in
    let q = problem g.C.Cost g.N.Network g.E.Estimates c.args.search.now in
    let rest = c.args.turns - (at.turn + 1) in
    let left : suc rest ≡ c.args.turns - at.turn = omega (arith, c.loop-turn-test.true) in
    turn_last g.C.Cost g.N.Network g.E.Estimates at.side at.search at.sheet (record { answer = c.step.result; search = c.step.new.search; sheet = c.step.new.sheet }) c.step.ensures
    q (ap₂ (posed g.C.Cost g.N.Network g.E.Estimates) at.invariant.net at.invariant.given) rest (sym c.is_err.ensures.value ∙ c.if-is_err.true)
    ∙ ap (λ k. in_turn q k at.side (standing at.search at.sheet)) left ∙ at.invariant.same

pub loop-turn-preserved : goal.loop-turn-preserved
loop-turn-preserved g c =
    let at = c.loop-turn in
    let q = problem g.C.Cost g.N.Network g.E.Estimates c.args.search.now in
    let rest = c.args.turns - (at.turn + 1) in
    let left : suc rest ≡ c.args.turns - at.turn = omega (arith, c.loop-turn-test.true) in
    let now = c.step.new in
    record {
      same =
          ap (λ side. in_turn q rest side (standing now.search now.sheet)) c.opposite-side.ensures
          ∙ turn_more g.C.Cost g.N.Network g.E.Estimates at.side at.search at.sheet (record { answer = c.step.result; search = now.search; sheet = now.sheet }) c.step.ensures
          q (ap₂ (posed g.C.Cost g.N.Network g.E.Estimates) at.invariant.net at.invariant.given) rest (sym c.is_err.ensures.value ∙ c.if-is_err.false)
          ∙ ap (λ k. in_turn q k at.side (standing at.search at.sheet)) left ∙ at.invariant.same;
      net = ap (λ x. x.search.net) c.step.ensures ∙ at.invariant.net;
      given = ap (λ x. x.search.estimates) c.step.ensures ∙ at.invariant.given;
    }
