-- What the contract of each call says beyond its answer.
use Rattle.std.proofs.Common.{◌≡◌, List, [], ◌∷◌, ◌++◌, length, inl, inr, is_some, Some, None, Option, option_map, Ok, Err, Result, OnOk, IfOk, refl, sym, ap, subst, ◌∙◌}
use Rattle.std.specs.Result.{result_err}
use Rattle.amounts.specs.declared.cost.Cost as cost
use Rattle.networks.specs.declared.network.Network as network
use Rattle.networks.specs.declared.estimates.Estimates as estimates
use Rattle.faults.specs.declared.Side.{Side}
use Rattle.faults.specs.declared.Fault.{Fault}
use Rattle.faults.specs.declared.Layer.TheVariants as layer
use Rattle.faults.specs.declared.Refusal.{Refusal}
use Rattle.faults.specs.Reasons.{FirstReason}
use Rattle.optimality.specs.declared.sheet.Row.{Row}
use Rattle.optimality.specs.declared.sheet.Ceiling.{Ceiling}
use Rattle.optimality.specs.declared.sheet.Ceiling.TheVariants.{Absent, Met}
use Rattle.optimality.specs.Sheets.{State}
use Rattle.optimality.specs.Problems.{Problem, Fair}
use Rattle.search.specs.declared.running.Bounds.{Bounds}
use Rattle.search.specs.declared.running.Running.{Running}
use Rattle.search.specs.declared.running.Finished.{Finished}
use Rattle.search.specs.declared.running.Unfinished.{Unfinished}
use Rattle.search.specs.Calls.{search_fault, standing, running, Opening, Left, opening_by, unfit, begun, step, unfinished, conclusion, finish_by, posed, problem, open_of, step_of, bounds_of, finish_of}
use Rattle.search.specs.Claims.{Call, step_by_side, ask_bounds, try_finish, left, GoesOn, Own, Sound, HasItsSheet, AllStands, OpenStands, StepStands, BoundsStand, FinishStands}
use Rattle.search.proofs.Consistency.{unfit_consistent, unfit_broken, open_reasoned}
use Rattle.search.proofs.Main.{StillStands, sound, still}
use Rattle.search.specs.Rules.{open_fault, finish_fault, OpenReason, step_reasons, bounds_reasons, StepRule, BoundsRule, finish_reasons, FinishRule}
use Rattle.search.proofs.Ruling.{not_ok, step_ruled}
use Rattle.search.proofs.Reasoned.{told_at, step_reasoned, bounds_ruled, bounds_reasoned, finish_ruled, finish_reasoned}

on_ok_from : (a : Result (Unit {0}) Fault) (P : Type 0) → (a ≡ Ok tt → P) → OnOk a P
on_ok_from (Ok _) P h = h refl
on_ok_from (Err f) P h = tt

module _ {C N E L S : Type 0} (c : cost.Ghosts C L S) (n : network.Ghosts N C L S) (e : estimates.Ghosts E C L S) where
  -- one call more
  more : (s : Running C N E L S) (sheet : List (Row C L S)) → Fair (problem c n e s) → (calls : List Call) (k : Call) → HasItsSheet c n e calls s sheet → GoesOn (problem c n e s) (standing s sheet) k → StillStands (problem c n e s) (calls ++ (k ∷ [])) (left (problem c n e s) (standing s sheet) k)
  more s sheet fair calls k own on = still (problem c n e s) fair calls k (standing s sheet) own on

  all_by : (calls : List Call) (s : Running C N E L S) (sheet : List (Row C L S)) → StillStands (problem c n e s) calls (standing s sheet) → AllStands c n e calls s sheet
  all_by calls s sheet now = record { own = now.own; sound = now.sound }

  module _ (net : N) (given : E) (fair : Fair (posed c n e net given)) (sheet : List (Row C L S)) where
    abbrev p : Problem C L S
    p = posed c n e net given

    abbrev Opened : Opening C N E L S → Type 0
    Opened o = OpenStands c n e net given o.answer o.sheet

    opened_by : (r : Option Refusal) → unfit p (length sheet) ≡ r → Opened (opening_by p net given sheet r)
    opened_by None is =
        let own : Own p [] (begun p sheet) = record { sheet = sheet; accepts = is; led = refl } in
        (unfit_consistent p fair (length sheet) is, record { own = own; sound = sound p fair [] (begun p sheet) own })
    opened_by (Some r) is = λ k side fault. unfit_broken p fair (length sheet) k side (is ∙ ap (λ f. Some f.refusal) fault)

    pub open_stands : (o : Opening C N E L S) → o ≡ open_of c n e net given sheet → OpenStands c n e net given o.answer o.sheet
    open_stands o is = subst Opened (sym is) (opened_by (unfit p (length sheet)) refl)

    -- turned down, it is for the first reason that is so
    pub open_reason : (o : Opening C N E L S) → o ≡ open_of c n e net given sheet → OpenReason p (length sheet) (open_fault o.answer)
    open_reason o is = subst (λ x. OpenReason p (length sheet) (open_fault x.answer)) (sym is) (subst (OpenReason p (length sheet)) (sym (named_by (unfit p (length sheet)))) (open_reasoned p fair (length sheet)))
      where
        named_by : (r : Option Refusal) → open_fault ((opening_by p net given sheet r).answer) ≡ option_map search_fault r
        named_by None = refl
        named_by (Some r) = refl

  module _ (s : Running C N E L S) (fair : Fair (problem c n e s)) (sheet : List (Row C L S)) where
    abbrev q : Problem C L S
    q = problem c n e s

    abbrev st : State C L S
    st = standing s sheet

    module _ (side : Side) (r : Left C N E L S) (is : r ≡ step_of c n e side s sheet) where
      -- accepted, it goes by the rule
      pub step_rule : OnOk r.answer (StepRule q side st (standing r.search r.sheet))
      step_rule = subst (λ x. OnOk x.answer (StepRule q side st (standing x.search x.sheet))) (sym is) (on_ok_from ((step q st side).answer) (StepRule q side st ((step q st side).state)) (step_ruled q fair st side))

      -- turned down, it is for the first reason that is so
      pub step_reason : FirstReason layer.Search (step_reasons q st side) (result_err r.answer)
      step_reason = subst (λ x. FirstReason layer.Search (step_reasons q st side) (result_err x.answer)) (sym is) (step_reasoned q fair st side)

      pub step_stands : (calls : List Call) → HasItsSheet c n e calls s sheet → StepStands c n e calls side s sheet r.answer r.search r.sheet
      step_stands calls own =
          let now = sound q fair calls st own in
          record {
            before = record { own = own; sound = now };
            after_it = subst (λ x. AllStands c n e (calls ++ (step_by_side side ∷ [])) x.search x.sheet) (sym is) (all_by (calls ++ (step_by_side side ∷ [])) (running s.net s.estimates ((step q st side).state)) ((step q st side).state.rows) (more s sheet fair calls (step_by_side side) own tt));
            only_ended = λ f err. elim (now.steps side) [ inl took ↦ absurd (not_ok f (sym err ∙ ap (λ x. x.answer) is ∙ took.answer)) | inr stop ↦ stop.ended ];
          }

    pub bounds_rule : (r : Result (Bounds L) Fault) → r ≡ bounds_of c n e s sheet → IfOk r (BoundsRule q st)
    bounds_rule r is = subst (λ x. IfOk x (BoundsRule q st)) (sym is) (bounds_ruled q fair st)

    pub bounds_reason : (r : Result (Bounds L) Fault) → r ≡ bounds_of c n e s sheet → FirstReason layer.Search (bounds_reasons q st) (result_err r)
    bounds_reason r is = subst (λ x. FirstReason layer.Search (bounds_reasons q st) (result_err x)) (sym is) (bounds_reasoned q fair st)

    pub bounds_stand : (r : Result (Bounds L) Fault) → r ≡ bounds_of c n e s sheet → (calls : List Call) → HasItsSheet c n e calls s sheet → BoundsStand c n e calls s sheet r
    bounds_stand r is calls own =
        let all = sound q fair calls st own in
        let (b, at) = all.answered in
        subst (BoundsStand c n e calls s sheet) (sym (is ∙ at)) (all.floor b at, λ a m met. all.ceiling b a m at met, all_by (calls ++ (ask_bounds ∷ [])) s sheet (more s sheet fair calls ask_bounds own tt))

    pub finish_rule : (r : Result (Finished C N E L S) (Unfinished C N E L S)) → r ≡ finish_of c n e s sheet → IfOk r (FinishRule q s sheet)
    finish_rule r is = subst (λ x. IfOk x (FinishRule q s sheet)) (sym is) (finish_ruled q fair s sheet)

    pub finish_reason : (r : Result (Finished C N E L S) (Unfinished C N E L S)) → r ≡ finish_of c n e s sheet → FirstReason layer.Search (finish_reasons q st) (finish_fault r)
    finish_reason r is = subst (λ x. FirstReason layer.Search (finish_reasons q st) (finish_fault x)) (sym is) (finish_reasoned q fair st s)

    pub finish_stands : (r : Result (Finished C N E L S) (Unfinished C N E L S)) → r ≡ finish_of c n e s sheet → (calls : List Call) → HasItsSheet c n e calls s sheet → FinishStands c n e calls s sheet r
    finish_stands r is calls own = subst (FinishStands c n e calls s sheet) (sym is) (by_fault (unfinished q st) refl)
      where
        all : Sound q calls st own
        all = sound q fair calls st own

        stood : AllStands c n e calls s sheet
        stood = record { own = own; sound = all }

        by_ceiling : unfinished q st ≡ None → (x : Ceiling L) → s.ceiling ≡ x → FinishStands c n e calls s sheet (Ok (conclusion q s x))
        by_ceiling over Absent at = record { before = stood; told = told_at q s Absent at; no_route = (all.none over).0 at }
        by_ceiling over (Met a m) at =
            let right = all.least a m over at in
            record { before = stood; told = told_at q s (Met a m) at; reachable = right.0; least = right.1 }

        by_fault : (f : Option Fault) → unfinished q st ≡ f → FinishStands c n e calls s sheet (finish_by q s f)
        by_fault (Some f) at = all_by (calls ++ (try_finish ∷ [])) s sheet (more s sheet fair calls try_finish own (ap is_some at))
        by_fault None at = by_ceiling at s.ceiling refl
