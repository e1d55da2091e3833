-- A front's station is closed, and none of its sections gone through.
use Rattle.std.proofs.Common.{◌≡◌, ◌+◌, ◌<◌, false, length, refl, ap, ◌∙◌, arith}
use Rattle.std.specs.List.{count_by}
use Rattle.faults.specs.Faults.{opposite}
use Rattle.faults.specs.declared.Side.{Side}
use Rattle.optimality.specs.declared.sheet.Front.{Front}
use Rattle.optimality.specs.Sheets.{is_closed, State}
use Rattle.optimality.specs.Problems.{Problem, Fair}
use Rattle.optimality.specs.Search.{mark_at, closing}
use Rattle.optimality.proofs.Having.{on_at}
use Rattle.optimality.proofs.Fronts.{seen_small}
use Rattle.optimality.proofs.Invariant.{Next, row_closed}
use Rattle.optimality.proofs.Putting.{Puts, put_puts, put_other, length-put, count_more}
use Rattle.optimality.proofs.Going.{closed_mark}

module _ {C L S : Type 0} (p : Problem C L S) (fair : Fair p) (st : State C L S) (side : Side) (r : Front L) (long : length st.rows ≡ p.net.stations) (next : Next p side (mark_at p.kind st.rows side) r) where
  -- the front's row is there
  inside : r.station < length st.rows
  inside = omega (arith, next.within)

  -- the side has the closed mark there, and what it had elsewhere
  pub closing_puts : Puts (mark_at p.kind st.rows side) r.station (closed_mark r) (mark_at p.kind (closing side r st).rows side)
  closing_puts =
      put_puts p.kind st.rows r.station inside side (closed_mark r) (on_at (mark_at p.kind st.rows side r.station) _ _ next.marked (seen_small p.kind fair.laws st.rows side r.station))

  -- the other side has what it had
  pub closing_other : mark_at p.kind (closing side r st).rows (opposite side) ≡ mark_at p.kind st.rows (opposite side)
  closing_other = put_other p.kind st.rows r.station inside side (closed_mark r)

  -- there are as many rows as before
  pub closing_long : length (closing side r st).rows ≡ p.net.stations
  closing_long = length-put st.rows side r.station (closed_mark r) ∙ long

  -- one row more is closed
  pub closing_counted : is_closed (mark_at p.kind st.rows (opposite side) r.station) ≡ false → count_by row_closed (closing side r st).rows ≡ count_by row_closed st.rows + 1
  closing_counted = count_more p.kind st.rows r.station inside side (closed_mark r) refl (ap is_closed next.marked)
