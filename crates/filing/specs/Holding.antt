-- What File finds out of the page before it writes.
use Rattle.std.specs.Prelude.{ℕ, cond, Ok, Err, Result, nat_lt}
use Rattle.faults.specs.declared.Fault.{Fault}
use Rattle.faults.specs.declared.Refusal.TheVariants.{FieldOutOfRange}
use Rattle.records.specs.Due.{page_fault}

-- a route's steps can always stand on a page that has the bytes for them; the taken count has to be below the stations
abbrev pub held : ℕ → ℕ → Result ℕ Fault → Result (Unit {0}) Fault
held stations taken (Err f) = Err f
held stations taken (Ok offset) = cond (nat_lt taken stations) (Ok tt) (Err (page_fault (FieldOutOfRange offset)))
