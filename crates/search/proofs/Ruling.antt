-- An accepted step takes the side's front by the rule, on any sheet.
use Rattle.std.proofs.Common.{◌≡◌, ℕ, ◌≤◌, Bool, true, false, cond, ◌++◌, length, drop, Some, None, Option, Ok, Err, Result, refl, sym, ap, subst, ◌∙◌, arith, length-take}
use Rattle.std.proofs.Math.Seq.{drop-append_seam}
use Rattle.std.proofs.lemmas.Bool.{ltb-false}
use Rattle.faults.specs.declared.Side.{Side}
use Rattle.faults.specs.declared.Fault.{Fault}
use Rattle.optimality.specs.declared.sheet.Front.{Front}
use Rattle.optimality.specs.Sheets.{State}
use Rattle.optimality.specs.Problems.{Problem, Fair}
use Rattle.optimality.specs.Search.{front, ended, taking}
use Rattle.optimality.specs.Published.{TakenByRule}
use Rattle.optimality.proofs.Rule.{takes_rule}
use Rattle.search.specs.Calls.{Stepped, own, short, foreign, next, stepped_to, step_by, step}
use Rattle.search.specs.Claims.{one_if}
use Rattle.search.specs.Rules.{StepRule}
use Rattle.search.proofs.Owned.{own_over}

-- what is refused is not accepted
pub not_ok : (f : Fault) → ◌≡◌ {A = Result (Unit {0}) Fault} (Err f) (Ok tt) → ⊥
not_ok f e = let no_one : ◌≡◌ {A = ℕ} 0 1 = ap one_if e in omega arith

module _ {C L S : Type 0} (p : Problem C L S) (fair : Fair p) (st : State C L S) (side : Side) where
  -- what is accepted
  abbrev Ruled : Stepped C L S → Type 0
  Ruled r = r.answer ≡ Ok tt → StepRule p side st r.state

  -- a search's own rows are as many as the stations
  pub own_long : p.net.stations ≤ length st.rows → length ((own p st).rows) ≡ p.net.stations
  own_long room = omega (arith, length-take p.net.stations st.rows)

  ruled_front : p.net.stations ≤ length st.rows → (f : Front L) → front p (own p st) side ≡ Some f → (o : Option (State C L S)) → taking p side f (own p st) ≡ o → Ruled (stepped_to p st o)
  ruled_front room f here None e ok = absurd (not_ok _ ok)
  ruled_front room f here (Some after) e ok =
      let rule = takes_rule p fair side f (own p st) (own_long room) here after e in
      let long : length after.rows ≡ p.net.stations = rule.rows ∙ own_long room in
      record {
        taken_front = f;
        rule = subst (TakenByRule p side f (own p st)) (sym (own_over p st.rows after long)) rule;
        past = ap (λ n. drop n (after.rows ++ drop p.net.stations st.rows)) (sym long) ∙ drop-append_seam after.rows (drop p.net.stations st.rows);
      }

  ruled_next : p.net.stations ≤ length st.rows → (b : Bool) → (o : Option (Front L)) → front p (own p st) side ≡ o → Ruled (step_by p st side (cond b None o))
  ruled_next room true o here ok = absurd (not_ok _ ok)
  ruled_next room false None here ok = absurd (not_ok _ ok)
  ruled_next room false (Some f) here ok = ruled_front room f here (taking p side f (own p st)) refl ok

  ruled_short : (b : Bool) → short p st ≡ b → Ruled (cond b (record { answer = Err (foreign p st); state = st }) (step_by p st side (next p st side)))
  ruled_short true e ok = absurd (not_ok _ ok)
  ruled_short false e ok = ruled_next (ltb-false _ _ e) (ended p (own p st)) (front p (own p st) side) refl ok

  pub step_ruled : Ruled (step p st side)
  step_ruled = ruled_short (short p st) refl
