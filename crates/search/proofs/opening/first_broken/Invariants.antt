use Rattle.std.proofs.Common.{◌≡◌, drop}
use Rattle.search.specs.Calls.{posed, first_broken}
use Rattle.search.proofs.opening.first_broken.Given as goal

-- what is left of the sections says what all of them say
abbrev pub invariant-loop-number : goal.invariant-loop-number
invariant-loop-number g l =
    let p = posed g.C.Cost g.N.Network g.E.Estimates l.net l.estimates in
    first_broken p l.number (drop l.number p.net.sections) ≡ first_broken p 0 p.net.sections
