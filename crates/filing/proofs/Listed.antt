-- On every sheet: what is listed is a route, and every cost so far is right.
use Rattle.std.proofs.Common.{◌≡◌, ℕ, zero, suc, ◌<◌, ◌≤◌, ◌==◌, true, false, not, ◌&&◌, List, [], ◌∷◌, length, take, Some, refl, sym, ap, ap₂, ◌∙◌, subst, arith}
use Rattle.std.proofs.Math.Seq.{take-length}
use Rattle.std.proofs.lemmas.Bool.{eq-eqb}
use Rattle.std.proofs.lemmas.Option.{none-some}
use Rattle.std.specs.List.{slice_get, AllByRecursion}
use Rattle.amounts.specs.declared.cost.Cost as cost
use Rattle.amounts.specs.Amount.{RangeLaws, Laws, computed, total}
use Rattle.amounts.specs.Forms.{Forms, OnPage, TotalsOnPage}
use Rattle.networks.specs.declared.section.Section.{Section}
use Rattle.networks.specs.Nets.{Net, InRange, SectionInRange}
use Rattle.networks.specs.Routes.{Joins, Route, worth_in, cost_of}
use Rattle.contents.specs.declared.answer.Step.{Step}
use Rattle.contents.specs.Content.{from_of, to_of}
use Rattle.contents.specs.Encoding.{StepValid}
use Rattle.contents.specs.Retracing.{sections_of, same, step_right, walks, Retraced}
use Rattle.contents.proofs.Routing.{Ends}
use Rattle.contents.proofs.Retold.{small, retold}
use Rattle.optimality.proofs.Ranges.{all_at}
use Rattle.filing.specs.Listing.{step_at, cost_along, steps_along, last_cost}
use Rattle.filing.specs.Filing.{route_filed}
use Rattle.filing.specs.Claims.{Listed}
use Rattle.filing.proofs.Lists.{length_along}

module _ {C L S : Type 0} (c : cost.Ghosts C L S) (net : Net S) where
  -- the steps go along the sections
  pub along_sections : (a : L) (ks : List ℕ) → sections_of (steps_along c net a ks) ≡ ks
  along_sections a [] = refl
  along_sections a (k ∷ ks) = ap (λ js. k ∷ js) (along_sections (cost_along c net a k) ks)

  -- to their ends
  pub along_ends : (a : L) (ks : List ℕ) → AllByRecursion (λ s. (x : Section S) → slice_get net.sections s.section ≡ Some x → s.to ≡ x.to) (steps_along c net a ks)
  along_ends a [] = tt
  along_ends a (k ∷ ks) = (λ x e. ap to_of e, along_ends (cost_along c net a k) ks)

  -- retraced step by step, they pass
  module _ (laws : Laws c.ops) where
    same_self : (a : L) → same c a a ≡ true
    same_self a = ap (λ t. t && c.ops.leb a a) (laws.le_refl a) ∙ laws.le_refl a

    step_passes : (a : L) (u k : ℕ) (x : Section S) → slice_get net.sections k ≡ Some x → x.shut ≡ false → x.from ≡ u → step_right c u a (step_at c net k (cost_along c net a k)) (slice_get net.sections k) ≡ true
    step_passes a u k x there shut here =
        let next = cost_along c net a k in
        let sum : (computed c.ops).plus a (c.worth x.amount) ≡ next = ap (λ o. (computed c.ops).plus a (worth_in c.ops c.worth o)) (sym there) in
        ap (step_right c u a (step_at c net k next)) there
        ∙ ap (λ t. not t && (x.from == u && same c ((computed c.ops).plus a (c.worth x.amount)) next)) shut
        ∙ ap (λ t. t && same c ((computed c.ops).plus a (c.worth x.amount)) next) (eq-eqb x.from u here)
        ∙ ap (λ w. same c w next) sum
        ∙ same_self next

    pub along_walks : (a : L) (u : ℕ) (ks : List ℕ) → Joins net u ks net.trap → walks c net u a (last_cost a (steps_along c net a ks)) (steps_along c net a ks) ≡ true
    along_walks a u [] j = ap (λ t. t && same c a a) (eq-eqb u net.trap j) ∙ same_self a
    along_walks a u (k ∷ ks) j =
        let x = j.0 in
        let next = cost_along c net a k in
        let rest = steps_along c net next ks in
        ap (λ t. t && walks c net (to_of (slice_get net.sections k)) next (last_cost next rest) rest) (step_passes a u k x j.1 j.2 j.3)
        ∙ subst (λ v. walks c net v next (last_cost next rest) rest ≡ true) (sym (ap to_of j.1)) (along_walks next x.to ks j.4)

  -- each step is there, with its section's ends
  pub along_there : (a : L) (u v : ℕ) (ks : List ℕ) → Joins net u ks v → (i : ℕ) (s : Step L) → slice_get (steps_along c net a ks) i ≡ Some s → (x : Section S) × (slice_get net.sections s.section ≡ Some x) × (s.from ≡ x.from) × (s.to ≡ x.to)
  along_there a u v [] j i s e = absurd (none-some _ e)
  along_there a u v (k ∷ ks) j zero s e =
      let same : step_at c net k (cost_along c net a k) ≡ s = cc in
      subst (λ t. (x : Section S) × (slice_get net.sections t.section ≡ Some x) × (t.from ≡ x.from) × (t.to ≡ x.to)) same (j.0, j.1, ap from_of j.1, ap to_of j.1)
  along_there a u v (k ∷ ks) j (suc i) s e = let x = j.0 in along_there (cost_along c net a k) x.to v ks j.4 i s e

  -- the amounts of the first n sections
  pub amounts : (u v : ℕ) (ks : List ℕ) → Joins net u ks v → AllByRecursion (SectionInRange c.section_range net.stations) net.sections → (n : ℕ) → (ss : List S) × (AllByRecursion c.section_range ss) × (length ss ≤ length ks) × (total c.ops c.worth ss ≡ cost_of c.ops c.worth net (take n ks))
  amounts u v [] j range zero = ([], tt, omega arith, refl)
  amounts u v [] j range (suc n) = ([], tt, omega arith, refl)
  amounts u v (k ∷ ks) j range zero = ([], tt, omega arith, refl)
  amounts u v (k ∷ ks) j range (suc n) =
      let x = j.0 in
      let (ss, fair, short, sum) = amounts x.to v ks j.4 range n in (
        x.amount ∷ ss,
        ((all_at (SectionInRange c.section_range net.stations) net.sections k x range j.1).amount, fair),
        omega arith,
        ap₂ c.ops.plus (ap (worth_in c.ops c.worth) (sym j.1)) sum,
      )

pub all_from : {X : Type 0} (P : X → Type 0) (xs : List X) → ((i : ℕ) (x : X) → slice_get xs i ≡ Some x → P x) → AllByRecursion P xs
all_from P [] h = tt
all_from P (x ∷ xs) h = (h 0 x refl, all_from P xs (λ i y e. h (suc i) y e))

module _ {C L S : Type 0} (c : cost.Ghosts C L S) (forms : Forms L S) (laws : Laws c.ops) (fit : RangeLaws c.ops c.worth c.section_range c.estimate_range) (totals : TotalsOnPage c.ops c.worth c.section_range forms) (net : Net S) (range : InRange c.section_range net) (ks : List ℕ) (route : Route net ks) (few : length ks < net.stations) where
  abbrev steps : List (Step L)
  steps = steps_along c net c.ops.zero ks

  -- whatever run they are filed under
  pub along_retraced : (run taken : ℕ) → Retraced c net (route_filed c run taken steps)
  along_retraced run taken =
      (retold c laws fit net range (Some (route_filed c run taken steps))
      (λ m e. let same : route_filed c run taken steps ≡ m = cc in subst (λ m. Ends c laws net (small c laws fit net range) m.cost m.steps) same (along_ends c net c.ops.zero ks))
      (omega (arith, length_along c net c.ops.zero ks, range.few))).0 (along_walks c net laws c.ops.zero net.launcher ks route)

  pub along_listed : Listed c forms net steps
  along_listed =
      let r = along_retraced 0 0 in
      record {
        route = r.route;
        few = omega (arith, length_along c net c.ops.zero ks);
        each = all_from (StepValid c forms net.sections) steps (λ i s e.
            let (x, there, from, to) = along_there c net c.ops.zero net.launcher net.trap ks route i s e in
            let (ss, fair, short, sum) = amounts c net net.launcher net.trap ks route range.each (suc i) in
            let here : s.so_far ≡ total c.ops c.worth ss = r.so_far i s e ∙ ap (λ js. cost_of c.ops c.worth net (take (suc i) js)) (along_sections c net c.ops.zero ks) ∙ sym sum in
            record { section = x; there = there; from = from; to = to; cost = subst (OnPage forms) (sym here) (totals ss fair (omega (arith, range.few))) });
        so_far = r.so_far;
        total = r.total;
      }

  -- the whole cost stands on a page
  pub total_shown : OnPage forms (last_cost c.ops.zero steps)
  total_shown =
      let (ss, fair, short, sum) = amounts c net net.launcher net.trap ks route range.each (length ks) in
      let here : last_cost c.ops.zero steps ≡ total c.ops c.worth ss = along_listed.total ∙ ap (cost_of c.ops c.worth net) (along_sections c net c.ops.zero ks ∙ sym (take-length ks)) ∙ sym sum in
      subst (OnPage forms) (sym here) (totals ss fair (omega (arith, range.few)))
