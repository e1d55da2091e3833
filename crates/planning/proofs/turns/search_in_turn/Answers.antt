use Rattle.optimality.specs.Problems.{Fair}
use Rattle.optimality.proofs.Ranges.{fair_of}
use Rattle.search.specs.Calls.{posed}
use Rattle.planning.proofs.Turning.{open_refused, finish_refused, finish_accepted}
use Rattle.planning.proofs.turns.search_in_turn.Given as given
use Rattle.planning.proofs.turns.search_in_turn.Goals as goal
use Rattle.planning.proofs.turns.search_in_turn.Goals.{After-count}

-- network and estimates keep what they promise
fair : (g : given.Over) (c : After-count g) → Fair (posed g.C.Cost g.N.Network g.E.Estimates c.args.net c.args.estimates)
fair g c =
    let kind = g.met.C.Cost in
    fair_of (posed g.C.Cost g.N.Network g.E.Estimates c.args.net c.args.estimates) kind.lawful kind.ranges c.stations-stations.ensures.range c.count.ensures.range

pub returns-in_err-search : goal.returns-in_err-search
returns-in_err-search g c =
    let right = open_refused g.C.Cost g.N.Network g.E.Estimates c.args.net c.args.estimates c.args.sheet.now (fair g (goal.at.returns-in_err-search g c).After-count)
    (record { answer = c.open.result; sheet = c.open.new.sheet }) c.open.ensures.exact c.in_err-search.field-0.0 c.in_err-search.was c.from_residual.result c.from_residual.ensures.1 in
    record { exact = right.exact; stands = right.stands }

-- Finish turns nothing down
pub returns-in_err-finish : goal.returns-in_err-finish
returns-in_err-finish g c = absurd (
    finish_refused g.C.Cost g.N.Network g.E.Estimates c.args.net c.args.estimates c.args.sheet.now
    (record { answer = c.open.result; sheet = c.open.new.sheet }) c.open.ensures.exact c.in_ok-search.search c.in_ok-search.was
    c.stations-stations.result c.stations-stations.ensures.count c.step_in_turn.new.search c.step_in_turn.new.sheet c.step_in_turn.ensures.exact c.step_in_turn.ensures.kept
    (fair g (goal.at.returns-in_err-finish g c).After-count) c.finish.result c.finish.ensures.exact c.in_err-finish.field-0.0 c.in_err-finish.was)

pub returns : goal.returns
returns g c =
    let right = finish_accepted g.C.Cost g.N.Network g.E.Estimates c.args.net c.args.estimates c.args.sheet.now
    (record { answer = c.open.result; sheet = c.open.new.sheet }) c.open.ensures.exact c.in_ok-search.search c.in_ok-search.was
    c.stations-stations.result c.stations-stations.ensures.count c.step_in_turn.new.search c.step_in_turn.new.sheet c.step_in_turn.ensures.exact c.step_in_turn.ensures.kept
    (fair g (goal.at.returns g c).After-count) c.finish.result c.finish.ensures.exact c.in_ok-finish.field-0 c.in_ok-finish.was in
    record { exact = right.exact; stands = right.stands }
