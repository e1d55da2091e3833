-- Why a call is turned down, and what an accepted one says, on any sheet.
use Rattle.std.proofs.Common.{◌≡◌, ℕ, ◌+◌, ◌<◌, ◌≤◌, Bool, true, false, true≢false, cond, ◌⊎◌, inl, inr, length, Some, None, List, Option, option_map, Ok, Err, Result, IfOk, nat_lt, refl, sym, subst, ◌∙◌, arith}
use Rattle.std.specs.Result.{result_err}
use Rattle.std.proofs.lemmas.Bool.{ltb-true, ltb-false}
use Rattle.std.proofs.lemmas.Option.{none-some}
use Rattle.faults.specs.declared.Side.{Side}
use Rattle.faults.specs.declared.Side.TheVariants.{Forward, Backward}
use Rattle.faults.specs.declared.Fault.{Fault}
use Rattle.faults.specs.declared.Layer.TheVariants as layer
use Rattle.faults.specs.declared.Refusal.TheVariants.{Ended, NotEnded, ForeignSheet}
use Rattle.faults.specs.Reasons.{Reasons, refused_if, else_accepted, FirstReason}
use Rattle.faults.proofs.InOrder.{named, passed}
use Rattle.optimality.specs.declared.sheet.Row.{Row}
use Rattle.optimality.specs.declared.sheet.Front.{Front}
use Rattle.optimality.specs.declared.sheet.Ceiling.{Ceiling}
use Rattle.optimality.specs.declared.sheet.Ceiling.TheVariants.{Absent, Met}
use Rattle.optimality.specs.Sheets.{State}
use Rattle.optimality.specs.Problems.{Problem, Fair}
use Rattle.optimality.specs.Search.{Spread, front, floor, ended, gone_through, after}
use Rattle.optimality.specs.Published.{IsNext, TooLarge}
use Rattle.optimality.specs.Bounded.{IsEnded, IsGoingOn}
use Rattle.optimality.proofs.Fronts.{front_next}
use Rattle.optimality.proofs.Bounded.{next_only, front_is, is_floor, is_ended, is_going_on, ended_found, not_both}
use Rattle.optimality.proofs.Rule.{too_large, all_held}
use Rattle.search.specs.declared.running.Bounds.{Bounds}
use Rattle.search.specs.declared.running.Running.{Running}
use Rattle.search.specs.Calls.{own, short, foreign, turned_down, search_fault, next, stepped_to, step_by, step, bounds, unfinished, conclusion, finish_by, finish, standing}
use Rattle.search.specs.Rules.{Keeps, step_reasons, bounds_reasons, finish_reasons, BoundsRule, FinishRule, WritesTooLarge, finish_fault}
use Rattle.search.proofs.Ruling.{own_long}

-- What an accepted Finish tells ------------------------------------------------------------------

pub told_at : {C N E L S : Type 0} (p : Problem C L S) (s : Running C N E L S) (x : Ceiling L) → s.ceiling ≡ x → Keeps s (conclusion p s x)
told_at p s Absent at = record { network = refl; estimates = refl; taken = refl; ceiling = at }
told_at p s (Met a m) at = record { network = refl; estimates = refl; taken = refl; ceiling = at }

module _ {C L S : Type 0} (p : Problem C L S) (fair : Fair p) (st : State C L S) where
  abbrev rows : ℕ
  rows = length st.rows

  abbrev here : State C L S
  here = own p st

  abbrev Few : Type 0
  Few = rows < p.net.stations

  room_for : short p st ≡ false → p.net.stations ≤ rows
  room_for e = ltb-false _ _ e

  not_few : short p st ≡ false → Few → ⊥
  not_few e few = let room = room_for e in absurd (omega arith)

  -- Steps ----------------------------------------------------------------------------------------

  module _ (side : Side) where
    -- the step would bring the taken count to the stations, or write what no row holds
    abbrev Foreign : Type 0
    Foreign = (p.net.stations ≤ st.taken + 1) ⊎ WritesTooLarge p st side

    -- the reasons behind the first, and behind the second
    abbrev third : Reasons
    third = refused_if Foreign (ForeignSheet rows) else_accepted

    abbrev second : Reasons
    second = refused_if (IsEnded p here) (Ended st.taken) third

    -- what is so of an answer, where the search goes on
    abbrev Third : Result (Unit {0}) Fault → Type 0
    Third answer = FirstReason layer.Search third (result_err answer)

    module _ (room : p.net.stations ≤ rows) where
      module _ (f : Front L) (is : front p here side ≡ Some f) where
        comes_next : IsNext p here.rows side f
        comes_next = front_next p fair.laws here side f is

        by_gone : st.taken + 1 < p.net.stations → (o : Option (Spread C L S)) → gone_through p side f here ≡ o → Third ((stepped_to p st (option_map (after here) o)).answer)
        by_gone more None gone =
            let (v, k, a, large) = too_large p fair side f here (own_long p fair st side room) is gone in
            named layer.Search (ForeignSheet rows) else_accepted (inr (f, v, k, a, comes_next, large))
        by_gone more (Some sp) gone = (none, tt)
          where
            none : Foreign → ⊥
            none (inl last) = absurd (omega arith)
            none (inr w) =
                all_held p fair side f here (own_long p fair st side room) is sp gone w.1 w.2 w.3
                (subst (λ x. TooLarge p side x here w.1 w.2 w.3) (next_only p fair.laws here.rows side w.0 f w.4 comes_next) w.5)

        by_count : (b : Bool) → nat_lt (st.taken + 1) p.net.stations ≡ b → Third ((stepped_to p st (cond b (option_map (after here) (gone_through p side f here)) None)).answer)
        by_count true e = by_gone (ltb-true _ _ e) (gone_through p side f here) refl
        by_count false e = named layer.Search (ForeignSheet rows) else_accepted (inl (ltb-false _ _ e))

      -- a search that goes on has a front on each side
      has_front : (s : Side) → IsGoingOn p here → (f : Front L) × IsNext p here.rows s f
      has_front Forward on = (on.keys.0.0, on.keys.0.1)
      has_front Backward on = (on.keys.1.0, on.keys.1.1)

      by_front : ended p here ≡ false → (o : Option (Front L)) → front p here side ≡ o → Third ((step_by p st side o).answer)
      by_front on None is =
          let (f, next) = has_front side (is_going_on p fair.laws here on) in
          absurd (none-some f (sym is ∙ front_is p fair.laws here side f next))
      by_front on (Some f) is = by_count f is (nat_lt (st.taken + 1) p.net.stations) refl

      by_end : (b : Bool) → ended p here ≡ b → FirstReason layer.Search second (result_err ((step_by p st side (cond b None (front p here side))).answer))
      by_end true e = named layer.Search (Ended st.taken) third (is_ended p fair.laws here e)
      by_end false e =
          passed layer.Search (Ended st.taken) third _
          (λ over. true≢false (sym (ended_found p fair.laws here over) ∙ e))
          (by_front e (front p here side) refl)

    pub step_reasoned : FirstReason layer.Search (step_reasons p st side) (result_err ((step p st side).answer))
    step_reasoned = go (short p st) refl
      where
        go : (b : Bool) → short p st ≡ b → FirstReason layer.Search (step_reasons p st side) (result_err ((cond b (turned_down p st (foreign p st)) (step_by p st side (next p st side))).answer))
        go true e = named layer.Search (ForeignSheet rows) second (ltb-true _ _ e)
        go false e = passed layer.Search (ForeignSheet rows) second (result_err ((step_by p st side (next p st side)).answer)) (not_few e) (by_end (room_for e) (ended p here) refl)

  -- Bounds ---------------------------------------------------------------------------------------

  abbrev known : Bool → Result (Bounds L) Fault
  known b = cond b (Err (foreign p st)) (Ok (record { floor = floor p here; ceiling = st.ceiling }))

  pub bounds_reasoned : FirstReason layer.Search (bounds_reasons p st) (result_err (bounds p st))
  bounds_reasoned = go (short p st) refl
    where
      go : (b : Bool) → short p st ≡ b → FirstReason layer.Search (bounds_reasons p st) (result_err (known b))
      go true e = named layer.Search (ForeignSheet rows) else_accepted (ltb-true _ _ e)
      go false e = (not_few e, tt)

  pub bounds_ruled : IfOk (bounds p st) (BoundsRule p st)
  bounds_ruled = go (short p st)
    where
      go : (b : Bool) → IfOk (known b) (BoundsRule p st)
      go true = tt
      go false = record { floor = is_floor p fair.laws here; ceiling = refl }

  -- Finish ---------------------------------------------------------------------------------------

  abbrev why : Bool → Bool → Option Fault
  why few over = cond few (Some (foreign p st)) (cond over None (Some (search_fault (NotEnded st.taken))))

  abbrev going : Reasons
  going = refused_if (IsGoingOn p here) (NotEnded st.taken) else_accepted

  unfinished_reasoned : FirstReason layer.Search (finish_reasons p st) (unfinished p st)
  unfinished_reasoned = go (short p st) (ended p here) refl refl
    where
      go : (few over : Bool) → short p st ≡ few → ended p here ≡ over → FirstReason layer.Search (finish_reasons p st) (why few over)
      go true over e k = named layer.Search (ForeignSheet rows) going (ltb-true _ _ e)
      go false true e k = (not_few e, (λ on. not_both p fair.laws here on k, tt))
      go false false e k = passed layer.Search (ForeignSheet rows) going (Some (search_fault (NotEnded st.taken))) (not_few e) (named layer.Search (NotEnded st.taken) else_accepted (is_going_on p fair.laws here k))

  ended_by : unfinished p st ≡ None → IsEnded p here
  ended_by = go (short p st) (ended p here) refl
    where
      go : (few over : Bool) → ended p here ≡ over → why few over ≡ None → IsEnded p here
      go true over k h = absurd (none-some _ (sym h))
      go false true k h = is_ended p fair.laws here k
      go false false k h = absurd (none-some _ (sym h))

  module _ {N E : Type 0} (s : Running C N E L S) where
    pub finish_reasoned : FirstReason layer.Search (finish_reasons p st) (finish_fault (finish_by p s (unfinished p st)))
    finish_reasoned = subst (FirstReason layer.Search (finish_reasons p st)) (sym (named_by (unfinished p st))) unfinished_reasoned
      where
        named_by : (f : Option Fault) → finish_fault (finish_by p s f) ≡ f
        named_by None = refl
        named_by (Some f) = refl

module _ {C N E L S : Type 0} (p : Problem C L S) (fair : Fair p) (s : Running C N E L S) (sheet : List (Row C L S)) where
  pub finish_ruled : IfOk (finish p s sheet) (FinishRule p s sheet)
  finish_ruled = go (unfinished p (standing s sheet)) refl
    where
      go : (f : Option Fault) → unfinished p (standing s sheet) ≡ f → IfOk (finish_by p s f) (FinishRule p s sheet)
      go (Some f) e = tt
      go None e = record { ended = ended_by p fair (standing s sheet) e; told = told_at p s s.ceiling refl }
