use Rattle.std.proofs.Common.{◌≡◌, ◌++◌, drop, string_bytes}
use Rattle.planning.specs.Texts.{step_lines, route_text}
use Rattle.planning.proofs.texts.route_text.Given as goal

-- what is written, and the steps still to come
abbrev pub invariant-loop-step : goal.invariant-loop-step
invariant-loop-step g l = string_bytes l.out ++ step_lines g.C.Cost g.C.PageCost.forms (drop l.step-index l.steps) ≡ route_text g.C.Cost g.C.PageCost.forms l.fn.cost l.fn.taken l.fn.steps
