-- How long the two halves of a route are.
use Rattle.std.specs.Prelude.{length, Ok, Err, Result}
use Rattle.faults.specs.declared.Fault.{Fault}
use Rattle.filing.specs.declared.follow.Halves.{Halves}
use Rattle.filing.specs.Arrivals.{Line}

abbrev pub halves_of : Line → Halves
halves_of l = record { behind = length l.behind; ahead = length l.ahead }

abbrev pub halved : Result Line Fault → Result Halves Fault
halved (Ok l) = Ok (halves_of l)
halved (Err f) = Err f
