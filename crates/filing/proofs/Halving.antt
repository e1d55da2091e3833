-- The two halves of a route, as they are planned and then listed.
use Rattle.std.proofs.Common.{◌≡◌, ℕ, zero, suc, ◌+◌, ◌-◌, ◌≤◌, Bool, true, false, cond, List, ◌∷◌, length, take, Some, None, Option, Ok, Err, Result, nat_lt, is_ok, true≢false, option_map, option_and_then, refl, sym, ap, subst, add-one}
use Rattle.std.proofs.lemmas.Option.{none-some}
use Rattle.std.proofs.lemmas.Bool.{ltb-false}
use Rattle.std.specs.List.{slice_get}
use Rattle.faults.specs.declared.Side.{Side}
use Rattle.faults.specs.declared.Side.TheVariants.{Forward, Backward}
use Rattle.faults.specs.declared.Fault.{Fault}
use Rattle.faults.specs.declared.Refusal.TheVariants.{ForeignSheet, ListTooShort}
use Rattle.networks.specs.Nets.{Net}
use Rattle.optimality.specs.declared.sheet.Row.{Row}
use Rattle.filing.specs.declared.follow.Halves.{Halves}
use Rattle.filing.specs.Arrivals.{Line, through, arrival_at, before, back_from, followed, ahead_of, line}
use Rattle.filing.specs.Halves.{halves_of, halved}
use Rattle.filing.specs.Listing.{filing_fault, with_room, lined}

module _ {C L S : Type 0} (net : Net S) (rows : List (Row C L S)) (side : Side) where
  -- what is followed from one section on
  abbrev then_on : ℕ → (ℕ → Option (List ℕ)) → Option ℕ → Option (List ℕ)
  then_on k rest o = option_and_then (λ v. option_map (λ ks. k ∷ ks) (rest v)) o

  -- as many steps as there are suffice
  pub enough : (n u : ℕ) (ks : List ℕ) → followed net rows side n u ≡ Some ks → followed net rows side (suc (length ks)) u ≡ Some ks
  enough zero u ks e = absurd (none-some _ e)
  enough (suc n) u ks e = by_arrival (enough n) (arrival_at rows side u) e
    where
      by_rest : ((v : ℕ) (js : List ℕ) → followed net rows side n v ≡ Some js → followed net rows side (suc (length js)) v ≡ Some js) → (k v : ℕ) (o : Option (List ℕ)) → followed net rows side n v ≡ o → option_map (λ ks. k ∷ ks) o ≡ Some ks → then_on k (followed net rows side (length ks)) (Some v) ≡ Some ks
      by_rest rec k v None is z = absurd (none-some _ z)
      by_rest rec k v (Some js) is z =
          let same : k ∷ js ≡ ks = cc in
          subst (λ x. then_on k (followed net rows side (length x)) (Some v) ≡ Some x) same (ap (option_map (λ ks. k ∷ ks)) (rec v js is))

      by_before : ((v : ℕ) (js : List ℕ) → followed net rows side n v ≡ Some js → followed net rows side (suc (length js)) v ≡ Some js) → (k : ℕ) (o : Option ℕ) → then_on k (followed net rows side n) o ≡ Some ks → then_on k (followed net rows side (length ks)) o ≡ Some ks
      by_before rec k None z = absurd (none-some _ z)
      by_before rec k (Some v) z = by_rest rec k v (followed net rows side n v) refl z

      by_arrival : ((v : ℕ) (js : List ℕ) → followed net rows side n v ≡ Some js → followed net rows side (suc (length js)) v ≡ Some js) → (a : Option ℕ) → back_from net rows side (followed net rows side n) u a ≡ Some ks → back_from net rows side (followed net rows side (length ks)) u a ≡ Some ks
      by_arrival rec None z = z
      by_arrival rec (Some k) z = by_before rec k (before side u (slice_get net.sections k)) z

-- what a plan is made of
pub record Planned {C L S : Type 0} (net : Net S) (meeting : ℕ) (sheet : List (Row C L S)) (room : ℕ) (h : Halves) : Type 0 where
  pub halves : Line
  pub planned : lined net meeting sheet room ≡ Ok halves
  pub long : h ≡ halves_of halves
  pub fits : length (through halves) ≤ room
  pub found : line net (take net.stations sheet) meeting ≡ Some halves
  pub back : followed net (take net.stations sheet) Forward (length halves.behind + 1) meeting ≡ Some halves.behind
  pub on : followed net (take net.stations sheet) Backward (length halves.ahead + 1) meeting ≡ Some halves.ahead

module _ {C L S : Type 0} (net : Net S) (meeting : ℕ) (sheet : List (Row C L S)) (room : ℕ) (h : Halves) where
  abbrev own : List (Row C L S)
  own = take net.stations sheet

  both : (l : Line) → line net own meeting ≡ Some l → (followed net own Forward (length l.behind + 1) meeting ≡ Some l.behind) × (followed net own Backward (length l.ahead + 1) meeting ≡ Some l.ahead)
  both l e = by_behind (followed net own Forward net.stations meeting) refl e
    where
      by_ahead : (ks : List ℕ) → followed net own Forward net.stations meeting ≡ Some ks → (o : Option (List ℕ)) → followed net own Backward (net.stations - length ks) meeting ≡ o → option_map (λ js. record { behind = ks; ahead = js }) o ≡ Some l → (followed net own Forward (length l.behind + 1) meeting ≡ Some l.behind) × (followed net own Backward (length l.ahead + 1) meeting ≡ Some l.ahead)
      by_ahead ks is None at z = absurd (none-some _ z)
      by_ahead ks is (Some js) at z =
          let same : record { behind = ks; ahead = js } ≡ l = cc in
          subst (λ x. (followed net own Forward (length x.behind + 1) meeting ≡ Some x.behind) × (followed net own Backward (length x.ahead + 1) meeting ≡ Some x.ahead)) same
          (rw add-one (enough net own Forward net.stations meeting ks is), rw add-one (enough net own Backward (net.stations - length ks) meeting js at))

      by_behind : (o : Option (List ℕ)) → followed net own Forward net.stations meeting ≡ o → option_and_then (ahead_of net own meeting) o ≡ Some l → (followed net own Forward (length l.behind + 1) meeting ≡ Some l.behind) × (followed net own Backward (length l.ahead + 1) meeting ≡ Some l.ahead)
      by_behind None at z = absurd (none-some _ z)
      by_behind (Some ks) at z = by_ahead ks at (followed net own Backward (net.stations - length ks) meeting) refl z

  with_room_ok : (rows : ℕ) (o : Option Line) (l : Line) → with_room rows room o ≡ Ok l → (o ≡ Some l) × (length (through l) ≤ room)
  with_room_ok rows None l e = absurd (true≢false (sym (ap is_ok e)))
  with_room_ok rows (Some k) l e = by (nat_lt room (length (through k))) refl e
    where
      by : (b : Bool) → nat_lt room (length (through k)) ≡ b → cond b (Err (filing_fault (ListTooShort room))) (Ok k) ≡ Ok l → (Some k ≡ Some l) × (length (through l) ≤ room)
      by true is z = absurd (true≢false (sym (ap is_ok z)))
      by false is z = let same : k ≡ l = cc in (ap Some same, subst (λ x. length (through x) ≤ room) same (ltb-false room (length (through k)) is))

  pub lined_ok : (l : Line) → lined net meeting sheet room ≡ Ok l → (line net own meeting ≡ Some l) × (length (through l) ≤ room)
  lined_ok l e = by (nat_lt (length sheet) net.stations) e
    where
      by : (b : Bool) → cond b (Err (filing_fault (ForeignSheet (length sheet)))) (with_room (length sheet) room (line net own meeting)) ≡ Ok l → (line net own meeting ≡ Some l) × (length (through l) ≤ room)
      by true z = absurd (true≢false (sym (ap is_ok z)))
      by false z = with_room_ok (length sheet) (line net own meeting) l z

  -- the plan of a line
  pub line_planned : (l : Line) → lined net meeting sheet room ≡ Ok l → h ≡ halves_of l → Planned net meeting sheet room h
  line_planned l is long =
      let there = lined_ok l is in
      let ways = both l there.0 in
      record { halves = l; planned = is; long = long; fits = there.1; found = there.0; back = ways.0; on = ways.1 }

  pub plan_of : Ok h ≡ halved (lined net meeting sheet room) → Planned net meeting sheet room h
  plan_of e = by (lined net meeting sheet room) refl e
    where
      by : (r : Result Line Fault) → lined net meeting sheet room ≡ r → Ok h ≡ halved r → Planned net meeting sheet room h
      by (Err f) is z = absurd (true≢false (ap is_ok z))
      by (Ok l) is z = line_planned l is cc
