-- A front is one of the stations, and has a label that a row holds.
use Rattle.std.proofs.Common.{◌≡◌, Some, None, Option, IfSome, sym}
use Rattle.amounts.specs.Amount.{Laws}
use Rattle.faults.specs.declared.Side.{Side}
use Rattle.optimality.specs.declared.sheet.Front.{Front}
use Rattle.optimality.specs.Sheets.{State}
use Rattle.optimality.specs.Problems.{Problem}
use Rattle.optimality.specs.Keys.{opened_mark}
use Rattle.optimality.specs.Search.{mark_at, front}
use Rattle.optimality.proofs.Having.{on_at}
use Rattle.optimality.proofs.Fronts.{seen_small, front_next}
use Rattle.search.specs.Calls.{Ready}

module _ {C L S : Type 0} (p : Problem C L S) (laws : Laws p.kind.ops) (st : State C L S) (side : Side) where
  pub front_ready : (o : Option (Front L)) → o ≡ front p st side → IfSome o (Ready p)
  front_ready None e = tt
  front_ready (Some f) e =
      let next = front_next p laws st side f (sym e) in
      record { station = next.within; label = on_at (mark_at p.kind st.rows side f.station) _ (opened_mark f.label f.arrival) next.marked (seen_small p.kind laws st.rows side f.station) }
