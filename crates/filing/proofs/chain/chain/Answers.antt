use Rattle.std.proofs.Common.{sym, ap, ◌∙◌}
use Rattle.faults.specs.declared.Refusal.TheVariants.{NotJoined}
use Rattle.filing.specs.Listing.{filing_fault}
use Rattle.filing.proofs.Chained.{joined, first}
use Rattle.filing.proofs.chain.chain.Goals as goal

pub returns-in-Some-clause-stands : goal.returns-in-Some-clause-stands
returns-in-Some-clause-stands g c =
    let f = first c.args.steps.now c.in-Some.step (sym c.in-Some.ensures) in
    (f.0, c.fault.ensures ∙ ap (λ j. filing_fault (NotJoined j)) f.1, f.2)

pub invariant_of-route : goal.invariant_of-route
invariant_of-route g c = record { joined = joined c.args.steps.now (sym c.in_default.ensures) }
