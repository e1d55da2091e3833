-- Why a call is turned down, apart from how that is found out.
use Rattle.std.specs.Prelude.{◌≡◌, Some, None, Option, ◌⊎◌}
use Rattle.faults.specs.declared.Fault.{Fault}
use Rattle.faults.specs.declared.Layer.{Layer}
use Rattle.faults.specs.declared.Refusal.{Refusal}
use Rattle.faults.specs.Faults.{fault_of}

-- The reasons to turn a call down, in the order in which they count: what is so then, and the refusal.
pub data Reasons : Type 1 where
  refused_if : Type 0 → Refusal → Reasons → Reasons
  else_accepted : Reasons

-- Accepted, none of the reasons is so. Turned down, the fault names one that is so, and none that comes before it is so.
abbrev pub FirstReason : Layer → Reasons → Option Fault → Type 0
FirstReason layer else_accepted None = Unit {0}
FirstReason layer else_accepted (Some f) = ⊥
FirstReason layer (refused_if so r rest) None = (so → ⊥) × FirstReason layer rest None
FirstReason layer (refused_if so r rest) (Some f) = (so × (f ≡ fault_of layer r)) ⊎ ((so → ⊥) × FirstReason layer rest (Some f))
