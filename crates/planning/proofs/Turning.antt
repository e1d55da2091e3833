-- A search that goes forward and backward in turn ends, and what Finish then answers.
use Rattle.std.proofs.Common.{ap₂, subst₂, ◌≡◌, ℕ, zero, suc, ◌+◌, ◌≤◌, Bool, true, false, rules, true≢false, cond, inl, inr, List, [], ◌∷◌, ◌++◌, length, is_ok, is_err, IsErrAnd, Some, None, Option, Ok, Err, Result, refl, sym, ap, subst, ◌∙◌, arith, ◌==◌}
use Rattle.std.proofs.lemmas.Bool.{le-ltb}
use Rattle.std.proofs.lemmas.Option.{none-some}
use Rattle.amounts.specs.declared.cost.Cost as cost
use Rattle.networks.specs.declared.network.Network as network
use Rattle.networks.specs.declared.estimates.Estimates as estimates
use Rattle.networks.specs.declared.section.Section.{Section}
use Rattle.faults.specs.Faults.{opposite}
use Rattle.faults.specs.declared.Fault.{Fault}
use Rattle.faults.specs.declared.Side.{Side}
use Rattle.faults.specs.declared.Side.TheVariants.{Forward, Backward}
use Rattle.faults.specs.declared.Refusal.{Refusal}
use Rattle.faults.specs.declared.Refusal.TheVariants.{TooFewRows, EstimateCount, Inconsistent, NotEnded}
use Rattle.optimality.specs.declared.sheet.Row.{Row}
use Rattle.optimality.specs.declared.sheet.Ceiling.{Ceiling}
use Rattle.optimality.specs.declared.sheet.Ceiling.TheVariants.{Absent, Met}
use Rattle.optimality.specs.Sheets.{State}
use Rattle.optimality.specs.Problems.{Problem, Fair}
use Rattle.optimality.specs.Keys.{breaks}
use Rattle.search.specs.declared.running.Running.{Running}
use Rattle.search.specs.declared.running.Unopened.{Unopened}
use Rattle.search.specs.declared.running.Finished.{Finished}
use Rattle.search.specs.declared.running.Unfinished.{Unfinished}
use Rattle.optimality.specs.Search.{front, ended}
use Rattle.search.specs.Calls.{search_fault, Left, step_of, standing, running, Opening, Stepped, opening_by, begun, first_broken, unfit, own, short, foreign, turned_down, step_by, step, unfinished, finish_by, conclusion, posed, problem, open_of, finish_of}
use Rattle.search.specs.Claims.{Call, step_by_side, one_if, Leads, Own, StepAccepted, StepRefused, Sound}
use Rattle.search.proofs.Consistency.{unfit_room, unfit_consistent, unfit_broken}
use Rattle.search.proofs.Runs.{begun_good, through, after_call}
use Rattle.search.proofs.Main.{sound, own_more}
use Rattle.planning.specs.Turns.{steps_in_turn, calls_in_turn, in_turn, opened_to, Searched, searched_by, searched_of}
use Rattle.planning.specs.Claims.{Suits, SearchStands}

ok_err : {X Y : Type 0} (x : X) (y : Y) → ◌≡◌ {A = Result X Y} (Ok x) (Err y) → ⊥
ok_err x y e = true≢false (ap is_ok e)

module _ {C L S : Type 0} (p : Problem C L S) where
  -- so many steps in turn lead to a state where the search is ended
  record Ends (n : ℕ) (side : Side) (st last : State C L S) : Type 0 where
    led : Leads p st (steps_in_turn n side) last
    over : unfinished p last ≡ None

  -- an ended search turns steps down, and stands
  stays : (st : State C L S) (side : Side) → unfinished p st ≡ None → (step p st side).state ≡ st
  stays st side over = go (short p st) (ended p (own p st)) over
    where
      go : (s b : Bool) → cond s (Some (foreign p st)) (cond b None (Some (search_fault (NotEnded st.taken)))) ≡ None → (cond s (turned_down p st (foreign p st)) (step_by p st side (cond b None (front p (own p st) side)))).state ≡ st
      go true b h = absurd (none-some _ (sym h))
      go false true h = refl
      go false false h = absurd (none-some _ (sym h))

  all_stay : (n : ℕ) (side : Side) (st : State C L S) → unfinished p st ≡ None → Leads p st (steps_in_turn n side) st
  all_stay zero side st over = refl
  all_stay (suc n) side st over = (tt, subst (λ s. Leads p s (steps_in_turn n (opposite side)) st) (sym (stays st side over)) (all_stay n (opposite side) st over))

  module _ (fair : Fair p) where
    -- a step that is accepted is counted
    one_more : (calls : List Call) (st : State C L S) (side : Side) → Own p calls st → (step p st side).answer ≡ Ok tt → (step p st side).state.taken ≡ st.taken + 1
    one_more calls st side own took =
        let con = unfit_consistent p fair (length own.sheet) own.accepts in
        let first = begun_good p fair own.sheet (unfit_room p fair (length own.sheet) own.accepts) in
        let good = (through p fair con calls (begun p own.sheet) st first own.led).good_last in
        (after_call p fair con st good (step_by_side side)).counts ∙ ap (λ a. st.taken + one_if a) took

    -- As many steps as there are stations left to take: one is turned down, since one station always is left.
    turns_end : (n : ℕ) (side : Side) (calls : List Call) (st : State C L S) → Own p calls st → p.net.stations ≤ st.taken + n → Ends n side st (in_turn p n side st)
    turns_end zero side calls st own far = absurd (omega (arith, (sound p fair calls st own).few))
    turns_end (suc n) side calls st own far =
        let now = (step p st side).state in
        let more = own_more p calls (step_by_side side) st own tt in
        elim ((sound p fair calls st own).steps side) [ inl took ↦ on_took took (turns_end n (opposite side) (calls ++ (step_by_side side ∷ [])) now more (omega (arith, one_more calls st side own took.answer))) | inr stop ↦ on_stop stop ]
      where
        on_stop : StepRefused p st side → Ends (suc n) side st (in_turn p (suc n) side st)
        on_stop stop =
            subst (λ r. Ends (suc n) side st (cond (is_ok r.answer) (in_turn p n (opposite side) r.state) r.state)) (sym stop.answer)
            (record { led = all_stay (suc n) side st stop.ended; over = stop.ended })

        on_took : StepAccepted p st side → Ends n (opposite side) ((step p st side).state) (in_turn p n (opposite side) ((step p st side).state)) → Ends (suc n) side st (in_turn p (suc n) side st)
        on_took took rest =
            subst (λ b. Ends (suc n) side st (cond b (in_turn p n (opposite side) ((step p st side).state)) ((step p st side).state))) (sym (ap is_ok took.answer))
            (record { led = (tt, rest.led); over = rest.over })

    search_ends : (sheet : List (Row C L S)) → unfit p (length sheet) ≡ None → Ends p.net.stations Forward (begun p sheet) (in_turn p p.net.stations Forward (begun p sheet))
    search_ends sheet fit = turns_end p.net.stations Forward [] (begun p sheet) (record { sheet = sheet; accepts = fit; led = refl }) (omega arith)

    -- Turned down -------------------------------------------------------------------------------

    broken_is : (k : ℕ) (ss : List (Section S)) (r : Refusal) → first_broken p k ss ≡ Some r → (j : ℕ) × (side : Side) × (r ≡ Inconsistent j side)
    broken_is k [] r e = absurd (none-some _ e)
    broken_is k (s ∷ ss) r e = go (breaks p.kind p.estimates Forward s) (breaks p.kind p.estimates Backward s) e (broken_is (k + 1) ss r)
      where
        go : (f b : Bool) → cond f (Some (Inconsistent k Forward)) (cond b (Some (Inconsistent k Backward)) (first_broken p (k + 1) ss)) ≡ Some r → (first_broken p (k + 1) ss ≡ Some r → (j : ℕ) × (side : Side) × (r ≡ Inconsistent j side)) → (j : ℕ) × (side : Side) × (r ≡ Inconsistent j side)
        go true b e later = (k, Forward, cc)
        go false true e later = (k, Backward, cc)
        go false false e later = later e

    -- where sheet and estimates suit the network, Open accepts
    pub suited : (rows : ℕ) → Suits p rows → unfit p rows ≡ None
    suited rows suits = fit ∙ none (first_broken p 0 p.net.sections) refl
      where
        fit : unfit p rows ≡ first_broken p 0 p.net.sections
        fit =
            ap (λ b. cond b (Some (TooFewRows rows)) (cond (length p.estimates == p.net.stations) (first_broken p 0 p.net.sections) (Some (EstimateCount (length p.estimates))))) (le-ltb rows p.net.stations suits.room)
            ∙ ap (λ b. cond b (first_broken p 0 p.net.sections) (Some (EstimateCount (length p.estimates)))) {y = true} (search (rules, suits.counts))

        none : (o : Option Refusal) → first_broken p 0 p.net.sections ≡ o → o ≡ None
        none None e = refl
        none (Some r) e =
            let (k, side, is) = broken_is 0 p.net.sections r e in
            let (s, arc, far) = (unfit_broken p fair rows k side (fit ∙ e ∙ ap Some is)).breaks in
            absurd (far (suits.consistent side k s arc))

-- Each turn ---------------------------------------------------------------------------------------

module _ {C N E L S : Type 0} (c : cost.Ghosts C L S) (n : network.Ghosts N C L S) (e : estimates.Ghosts E C L S) (side : Side) (s : Running C N E L S) (sheet : List (Row C L S)) (r : Left C N E L S) (is : r ≡ step_of c n e side s sheet) (q : Problem C L S) (same : problem c n e s ≡ q) where
  abbrev turn : Problem C L S → ℕ → State C L S
  turn q k = in_turn q (suc k) side (standing s sheet)

  abbrev now : Stepped C L S
  now = step (problem c n e s) (standing s sheet) side

  answered : r.answer ≡ now.answer
  answered = ap (λ x. x.answer) is

  stands : standing r.search r.sheet ≡ now.state
  stands = ap (λ x. standing x.search x.sheet) is

  abbrev next : ℕ → Result (Unit {0}) Fault → State C L S
  next k a = cond (is_ok a) (in_turn (problem c n e s) k (opposite side) now.state) now.state

  next_ok : (k : ℕ) (a : Result (Unit {0}) Fault) → is_err a ≡ false → next k a ≡ in_turn (problem c n e s) k (opposite side) now.state
  next_ok k (Ok _) h = refl
  next_ok k (Err f) h = absurd (true≢false h)

  next_err : (k : ℕ) (a : Result (Unit {0}) Fault) → is_err a ≡ true → next k a ≡ now.state
  next_err k (Ok _) h = absurd (true≢false (sym h))
  next_err k (Err f) h = refl

  -- accepted, the other turns follow
  pub turn_more : (k : ℕ) → is_err r.answer ≡ false → in_turn q k (opposite side) (standing r.search r.sheet) ≡ turn q k
  turn_more k ok =
      subst (λ q. in_turn q k (opposite side) (standing r.search r.sheet) ≡ turn q k) same
      (ap (in_turn (problem c n e s) k (opposite side)) stands ∙ sym (next_ok k r.answer ok) ∙ ap (next k) answered)

  -- turned down, it is the last one
  pub turn_last : (k : ℕ) → is_err r.answer ≡ true → standing r.search r.sheet ≡ turn q k
  turn_last k err =
      subst (λ q. standing r.search r.sheet ≡ turn q k) same
      (stands ∙ sym (next_err k r.answer err) ∙ ap (next k) answered)

-- Open, the steps, and Finish ---------------------------------------------------------------------

module _ {C N E L S : Type 0} (c : cost.Ghosts C L S) (n : network.Ghosts N C L S) (e : estimates.Ghosts E C L S) (net : N) (given : E) (sheet : List (Row C L S)) where
  abbrev p : Problem C L S
  p = posed c n e net given

  -- what a search answers, and what the sheet then holds, as it is claimed
  pub record Right (answer : Result (Finished C N E L S) Fault) (after : List (Row C L S)) : Type 0 where
    pub exact : ◌≡◌ {A = Searched C N E L S} (record { answer = answer; sheet = after }) (searched_of c n e net given sheet)
    pub stands : SearchStands c n e net given sheet answer after

  -- Open turned it down
  module _ (fair : Fair p) where
    refused_by : (r : Option Refusal) → unfit p (length sheet) ≡ r → (o : Opening C N E L S) → o ≡ opening_by p net given sheet r → (back : Unopened N E) → o.answer ≡ Err back → (f : Fault) → f ≡ back.fault → Right (Err f) o.sheet
    refused_by None fit o is back err f same = absurd (ok_err _ _ (sym (ap (λ o. o.answer) is) ∙ err))
    refused_by (Some r) fit o is back err f same =
        let given_back : ◌≡◌ {A = Result (Running C N E L S) (Unopened N E)} (Err (record { net = net; estimates = given; fault = search_fault r })) (Err back) = sym (ap (λ o. o.answer) is) ∙ err in
        let fault : f ≡ search_fault r = same ∙ sym (fault_back _ _ given_back) in
        record {
          exact = ap₂ (λ f sheet. record { answer = Err f; sheet = sheet }) fault (ap (λ o. o.sheet) is) ∙ sym (ap (λ r. searched_by p net given sheet (opened_to p sheet r)) fit);
          stands = λ suits. none-some r (sym (suited p fair (length sheet) suits) ∙ fit);
        }
      where
        fault_back : (x y : Unopened N E) → ◌≡◌ {A = Result (Running C N E L S) (Unopened N E)} (Err x) (Err y) → x.fault ≡ y.fault
        fault_back x y e = let same : x ≡ y = cc in ap (λ x. x.fault) same

    pub open_refused : (o : Opening C N E L S) → o ≡ open_of c n e net given sheet → (back : Unopened N E) → o.answer ≡ Err back → (r : Result (Finished C N E L S) Fault) → IsErrAnd r (λ f. f ≡ back.fault) → Right r o.sheet
    open_refused o is back err (Ok x) same = absurd same
    open_refused o is back err (Err f) same = refused_by (unfit p (length sheet)) refl o is back err f same

  -- Open accepted it
  opening_ok : (r : Option Refusal) (s : Running C N E L S) → (opening_by p net given sheet r).answer ≡ Ok s → r ≡ None
  opening_ok None s h = refl
  opening_ok (Some r) s h = absurd (ok_err _ _ (sym h))

  module _ (o : Opening C N E L S) (is : o ≡ open_of c n e net given sheet) (s : Running C N E L S) (ok : o.answer ≡ Ok s) where
    fit : unfit p (length sheet) ≡ None
    fit = opening_ok (unfit p (length sheet)) s (sym (ap (λ o. o.answer) is) ∙ ok)

    opened : o ≡ opening_by p net given sheet None
    opened = is ∙ ap (opening_by p net given sheet) fit

    first : s ≡ running net given (begun p sheet)
    first = same_ok _ _ (sym ok ∙ ap (λ o. o.answer) opened)
      where
        same_ok : (x y : Running C N E L S) → ◌≡◌ {A = Result (Running C N E L S) (Unopened N E)} (Ok x) (Ok y) → x ≡ y
        same_ok x y e = cc

    abbrev last : State C L S
    last = in_turn p p.net.stations Forward (begun p sheet)

    abbrev there : Running C N E L S
    there = running net given last

    -- the steps lead to the last state
    module _ (turns : ℕ) (all : turns ≡ p.net.stations) (t : Running C N E L S) (rows : List (Row C L S)) (led : standing t rows ≡ in_turn (problem c n e s) turns Forward (standing s o.sheet)) (kept : (t.net ≡ s.net) × (t.estimates ≡ s.estimates)) where
      leads : standing t rows ≡ last
      leads =
          led
          ∙ ap (λ s. in_turn (problem c n e s) turns Forward (standing s o.sheet)) first
          ∙ ap₂ (λ turns rows. in_turn p turns Forward (standing (running net given (begun p sheet)) rows)) all (ap (λ o. o.sheet) opened)

      same_search : t ≡ there
      same_search =
          let same_net : t.net ≡ net = kept.0 ∙ ap (λ s. s.net) first in
          let same_given : t.estimates ≡ given = kept.1 ∙ ap (λ s. s.estimates) first in
          ap₂ (λ net given. running net given (standing t rows)) same_net same_given ∙ ap (running net given) leads

      same_rows : rows ≡ last.rows
      same_rows = ap (λ st. st.rows) leads

      -- Finish is accepted, and its answer is as it is claimed
      module _ (fair : Fair p) (r : Result (Finished C N E L S) (Unfinished C N E L S)) (answers : r ≡ finish_of c n e t rows) where
        end : Ends p p.net.stations Forward (begun p sheet) last
        end = search_ends p fair sheet fit

        abbrev own_sheet : Own p (calls_in_turn p) last
        own_sheet = record { sheet = sheet; accepts = fit; led = end.led }

        sure : Sound p (calls_in_turn p) last own_sheet
        sure = sound p fair (calls_in_turn p) last own_sheet

        finished_there : finish_of c n e there last.rows ≡ Ok (conclusion p there last.ceiling)
        finished_there = ap (finish_by p there) end.over

        accepted : r ≡ Ok (conclusion p there last.ceiling)
        accepted = answers ∙ ap₂ (finish_of c n e) same_search same_rows ∙ finished_there

        pub finish_refused : (back : Unfinished C N E L S) → r ≡ Err back → ⊥
        finish_refused back err = ok_err _ _ (sym accepted ∙ err)

        concluded : (ceiling : Ceiling L) → last.ceiling ≡ ceiling → SearchStands c n e net given sheet (Ok (conclusion p there ceiling)) last.rows
        concluded Absent is =
            record {
              by_turns = record { search = there; sheet = last.rows; own = own_sheet; finished = finished_there ∙ ap (λ x. Ok (conclusion p there x)) is };
              taken = sure.counted;
              no_route = (sure.none end.over).0 is;
            }
        concluded (Met a m) is =
            let right = sure.least a m end.over is in
            record {
              by_turns = record { search = there; own = own_sheet; finished = finished_there ∙ ap (λ x. Ok (conclusion p there x)) is };
              taken = sure.counted;
              reachable = right.0;
              least = right.1;
            }

        pub finish_accepted : (x : Finished C N E L S) → r ≡ Ok x → Right (Ok x) rows
        finish_accepted x is =
            let answer : Ok (conclusion p there last.ceiling) ≡ Ok x = sym accepted ∙ is in
            record {
              exact = ap₂ (λ answer sheet. record { answer = answer; sheet = sheet }) (ok_again _ _ (sym answer)) same_rows ∙ sym (ap (λ r. searched_by p net given sheet (opened_to p sheet r)) fit);
              stands = subst₂ (SearchStands c n e net given sheet) (ok_again _ _ answer) (sym same_rows) (concluded last.ceiling refl);
            }
          where
            ok_again : {X Y Z : Type 0} (x y : X) → ◌≡◌ {A = Result X Y} (Ok x) (Ok y) → ◌≡◌ {A = Result X Z} (Ok x) (Ok y)
            ok_again x y e = let same : x ≡ y = cc in ap Ok same
