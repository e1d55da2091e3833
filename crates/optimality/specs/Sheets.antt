-- Rows and marks, by side.
use Rattle.std.specs.Prelude.{ℕ, Bool, false, List, Some, None, Option, set, get_or}
use Rattle.faults.specs.declared.Side.{Side}
use Rattle.faults.specs.declared.Side.TheVariants.{Forward, Backward}
use Rattle.optimality.specs.declared.sheet.Mark.{Mark}
use Rattle.optimality.specs.declared.sheet.Row.{Row}
use Rattle.optimality.specs.declared.sheet.Ceiling.{Ceiling}

abbrev pub mark_on : {C L S : Type 0} → Side → Row C L S → Option (Mark L)
mark_on Forward r = r.forward
mark_on Backward r = r.backward

abbrev pub with_mark : {C L S : Type 0} → Side → Option (Mark L) → Row C L S → Row C L S
with_mark Forward m r = record { forward = m; backward = r.backward }
with_mark Backward m r = record { forward = r.forward; backward = m }

abbrev pub blank_row : {C L S : Type 0} → Row C L S
blank_row = record { forward = None; backward = None }

abbrev pub is_closed : {L : Type 0} → Option (Mark L) → Bool
is_closed None = false
is_closed (Some m) = m.closed

-- the sheet with a side's mark at a station
abbrev pub put : {C L S : Type 0} → List (Row C L S) → Side → ℕ → Mark L → List (Row C L S)
put rows side u m = set rows u (with_mark side (Some m) (get_or rows u blank_row))

-- What a search and its sheet hold: the taken count, the ceiling, and a row for each station.
pub record State (C L S : Type 0) : Type 0 where
  pub taken : ℕ
  pub ceiling : Ceiling L
  pub rows : List (Row C L S)
