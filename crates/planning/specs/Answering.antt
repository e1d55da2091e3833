-- What is answered of a page: text or bytes, unless it is turned down or memory runs out.
use Rattle.std.specs.Prelude.{ℕ, List, codes, Ok, Err, Result}
use Rattle.faults.specs.Faults.{refused_line}
use Rattle.faults.specs.declared.Fault.{Fault}
use Rattle.planning.specs.declared.error.PlanError.{PlanError}
use Rattle.planning.specs.declared.error.PlanError.TheVariants.{Refused, OutOfMemory}

-- as an error is printed
abbrev pub error_line : PlanError → List ℕ
error_line (Refused fault) = refused_line fault
error_line OutOfMemory = codes "out of memory"

-- This holds of the answer: of its bytes, or of the fault by which it is refused. Where memory runs out, nothing is
-- said.
abbrev pub Answered : {X : Type 0} → (X → List ℕ) → Result X PlanError → (Result (List ℕ) Fault → Type 0) → Type 0
Answered bytes (Ok x) Holds = Holds (Ok (bytes x))
Answered bytes (Err (Refused fault)) Holds = Holds (Err fault)
Answered bytes (Err OutOfMemory) Holds = Unit {0}
