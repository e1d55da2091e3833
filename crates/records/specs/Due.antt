-- What is answered where records are due.
use Rattle.std.specs.Prelude.{ℕ, zero, suc, ◌-◌, cond, List, length, drop, Ok, Err, Result, ◌==◌, nat_lt}
use Rattle.std.specs.List.{slice_get}
use Rattle.std.specs.Option.{option_map_or}
use Rattle.std.specs.Result.{result_and}
use Rattle.faults.specs.declared.Fault.{Fault}
use Rattle.faults.specs.declared.Layer.TheVariants as layer
use Rattle.faults.specs.declared.Refusal.{Refusal}
use Rattle.faults.specs.declared.Refusal.TheVariants.{PageEnds, UnexpectedKind, FieldOutOfRange}
use Rattle.faults.specs.Faults.{fault_of}
use Rattle.records.specs.declared.limits.Limits.{Limits}
use Rattle.records.specs.Shapes.{Shape, size_of, decoded}

abbrev pub page_fault : Refusal → Fault
page_fault r = fault_of layer.Page r

-- A record of this shape is due at the front of the rest of a page of that length: its kind, then its end, then its fields.
abbrev pub due_record : {R : Type 0} → Shape R → Limits → ℕ → List ℕ → Result R Fault
due_record shape limits length' rest =
    let at = length' - length rest in
    let ends = Err (page_fault (PageEnds length')) in
    option_map_or (λ kind.
    cond (kind == shape.byte)
    (cond (nat_lt (length rest) (size_of shape)) ends
    (cond (shape.good limits (decoded shape rest)) (Ok (decoded shape rest)) (Err (page_fault (FieldOutOfRange at)))))
    (Err (page_fault (UnexpectedKind at))))
    (slice_get rest 0) ends

-- n of them
abbrev pub due_run : {R : Type 0} → Shape R → Limits → ℕ → ℕ → List ℕ → Result (Unit {0}) Fault
due_run shape limits length' zero rest = Ok tt
due_run shape limits length' (suc n) rest = result_and (due_record shape limits length' rest) (due_run shape limits length' n (drop (size_of shape) rest))
