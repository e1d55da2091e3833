-- That a call which tries its reasons in order is turned down by the first that is so.
use Rattle.std.proofs.Common.{Some, None, Option, refl, inl, inr}
use Rattle.faults.specs.declared.Fault.{Fault}
use Rattle.faults.specs.declared.Layer.{Layer}
use Rattle.faults.specs.declared.Refusal.{Refusal}
use Rattle.faults.specs.Faults.{fault_of}
use Rattle.faults.specs.Reasons.{Reasons, refused_if, FirstReason}

-- one reason more before the others, which is so: what comes after it does not count
pub named : (l : Layer) {so : Type 0} (r : Refusal) (rest : Reasons) → so → FirstReason l (refused_if so r rest) (Some (fault_of l r))
named l r rest here = inl (here, refl)

-- one reason more before the others, which is not so
pub passed : (l : Layer) {so : Type 0} (r : Refusal) (rest : Reasons) (fault : Option Fault) → (so → ⊥) → FirstReason l rest fault → FirstReason l (refused_if so r rest) fault
passed l r rest None not_so h = (not_so, h)
passed l r rest (Some f) not_so h = inr (not_so, h)
