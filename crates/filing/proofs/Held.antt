-- A page that has the bytes for a route can hold it.
use Rattle.std.proofs.Common.{◌≡◌, ℕ, ◌+◌, ◌*◌, ◌<◌, ◌≤◌, ◌==◌, Bool, true, false, cond, ◌&&◌, List, length, is_some, Some, None, Option, Ok, Err, Result, nat_le, nat_lt, is_ok, refl, sym, ap, ap₂, ◌∙◌, arith}
use Rattle.std.proofs.lemmas.Bool.{le-leb, ltb-true}
use Rattle.std.proofs.Math.Bool.{and-true}
use Rattle.std.proofs.lemmas.Option.{none-some}
use Rattle.std.specs.Result.{result_err}
use Rattle.amounts.specs.declared.cost.Cost as cost
use Rattle.amounts.specs.Forms.{Forms}
use Rattle.faults.specs.declared.Fault.{Fault}
use Rattle.faults.specs.declared.Refusal.TheVariants.{EstimateCount, PageTooShort, FieldOutOfRange}
use Rattle.networks.specs.declared.estimates.Pair.{Pair}
use Rattle.networks.specs.Nets.{Net}
use Rattle.records.specs.Due.{page_fault}
use Rattle.contents.specs.declared.answer.Step.{Step}
use Rattle.contents.specs.Content.{Content}
use Rattle.contents.specs.Writing.{needed, steps_fault, answer_fault, write_of, write_fault, written_by, refused_by}
use Rattle.contents.proofs.Holding.{steps_valid}
use Rattle.writing.specs.Places.{answer_offset, bytes_needed, answer_place}
use Rattle.filing.specs.Listing.{last_cost}
use Rattle.filing.specs.Filing.{route_filed}
use Rattle.filing.specs.Holding.{held}
use Rattle.filing.specs.Claims.{Listed}

module _ {C L S : Type 0} (c : cost.Ghosts C L S) (forms : Forms L S) where
  -- what is turned down by nothing is written
  pub written_ok : (page : List ℕ) (x : Content L S) → write_fault c forms (length page) x ≡ None → is_ok ((write_of c forms page x).answer) ≡ true
  written_ok page x e = by (length x.estimates == x.network.stations) (nat_lt (length page) (needed x)) (answer_fault c forms x.network (10 + 12 * length x.network.sections + 21 * length x.estimates) x.answer) e
    where
      by : (a b : Bool) (o : Option Fault) → cond a (cond b (Some (page_fault (PageTooShort (needed x)))) o) (Some (page_fault (EstimateCount (length x.estimates)))) ≡ None → is_ok ((cond a (cond b (refused_by c forms page (page_fault (PageTooShort (needed x)))) (written_by c forms page x o)) (refused_by c forms page (page_fault (EstimateCount (length x.estimates))))).answer) ≡ true
      by false b o z = absurd (none-some _ (sym z))
      by true true o z = absurd (none-some _ (sym z))
      by true false (Some f) z = absurd (none-some _ (sym z))
      by true false None z = refl

  module _ (net : Net S) where
    module _ (run taken : ℕ) (steps : List (Step L)) (listed : Listed c forms net steps) (few : net.stations ≤ 4096) (shown : is_some (forms.shown (last_cost c.ops.zero steps)) ≡ true) where
      -- only the taken count is left to be turned down
      pub answer_holds : (at : ℕ) → answer_fault c forms net at (Some (route_filed c run taken steps)) ≡ cond (nat_lt taken net.stations) None (Some (page_fault (FieldOutOfRange at)))
      answer_holds at =
          let long : nat_le (length steps) 4095 ≡ true = le-leb (length steps) 4095 (omega (arith, listed.few)) in
          ap (λ t. cond (t && (nat_le (length steps) 4095 && (nat_lt taken net.stations && true))) (steps_fault c forms net (at + 20) steps) (Some (page_fault (FieldOutOfRange at)))) shown
          ∙ ap (λ t. cond (t && (nat_lt taken net.stations && true)) (steps_fault c forms net (at + 20) steps) (Some (page_fault (FieldOutOfRange at)))) long
          ∙ ap₂ (λ t o. cond t o (Some (page_fault (FieldOutOfRange at)))) (and-true (nat_lt taken net.stations)) ((steps_valid c forms net (at + 20) steps).1 listed.each)

      -- what a page can hold has taken fewer than there are
      pub taken_below : (at : ℕ) → answer_fault c forms net at (Some (route_filed c run taken steps)) ≡ None → taken < net.stations
      taken_below at e = by (nat_lt taken net.stations) refl (sym (answer_holds at) ∙ e)
        where
          by : (t : Bool) → nat_lt taken net.stations ≡ t → cond t None (Some (page_fault (FieldOutOfRange at))) ≡ None → taken < net.stations
          by true is z = ltb-true taken net.stations is
          by false is z = absurd (none-some _ (sym z))

      pub fault_is : (given : List (Pair L)) (room : ℕ) → write_fault c forms room (record { network = net; estimates = given; answer = Some (route_filed c run taken steps) }) ≡ result_err (held net.stations taken (answer_place net given room (Some (length steps))))
      fault_is given room =
          let at = answer_offset net given in
          let need = bytes_needed net given (Some (length steps)) in
          ap (λ o. cond (length given == net.stations) (cond (nat_lt room need) (Some (page_fault (PageTooShort need))) o) (Some (page_fault (EstimateCount (length given))))) (answer_holds at)
          ∙ by (length given == net.stations) (nat_lt room need)
        where
          by_taken : (t : Bool) (f : Fault) → cond t None (Some f) ≡ result_err (cond {A = Result (Unit {0}) Fault} t (Ok tt) (Err f))
          by_taken true f = refl
          by_taken false f = refl

          by : (a b : Bool) → let at = answer_offset net given in let need = bytes_needed net given (Some (length steps)) in cond a (cond b (Some (page_fault (PageTooShort need))) (cond (nat_lt taken net.stations) None (Some (page_fault (FieldOutOfRange at))))) (Some (page_fault (EstimateCount (length given)))) ≡ result_err (held net.stations taken (cond a (cond b (Err (page_fault (PageTooShort need))) (Ok at)) (Err (page_fault (EstimateCount (length given))))))
          by false b = refl
          by true true = refl
          by true false = by_taken (nat_lt taken net.stations) (page_fault (FieldOutOfRange (answer_offset net given)))
