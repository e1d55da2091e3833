-- Steps that are walked to the end are a route, and every cost that they show is right.
use Rattle.std.proofs.Common.{◌≡◌, ℕ, zero, suc, ◌+◌, ◌*◌, ◌^◌, ◌<◌, ◌≤◌, true, false, not, ◌&&◌, eqb, List, [], ◌∷◌, length, take, Some, None, Option, sym, refl, ap, ◌∙◌, subst, arith}
use Rattle.std.specs.List.{AllByRecursion, slice_get}
use Rattle.std.proofs.lemmas.Bool.{and_parts, eqb-true, eq-eqb, le-leb, not-true}
use Rattle.amounts.specs.declared.cost.Cost as cost
use Rattle.amounts.specs.Amount.{Laws, computed}
use Rattle.networks.specs.declared.section.Section.{Section}
use Rattle.networks.specs.Nets.{Net}
use Rattle.networks.specs.Routes.{Joins, cost_of, worth_in}
use Rattle.contents.specs.declared.answer.Step.{Step}
use Rattle.contents.specs.Retracing.{sections_of, same, step_right, walks}

module _ {C L S : Type 0} (c : cost.Ghosts C L S) (laws : Laws c.ops) (net : Net S) (small : (k : ℕ) (x : Section S) → slice_get net.sections k ≡ Some x → c.ops.size (c.worth x.amount) < 2 ^ 32) (total : L) where
  -- what the rest of a route from u at the cost a has to be
  pub record Right (u : ℕ) (a : L) (steps : List (Step L)) : Type 0 where
    pub joined : Joins net u (sections_of steps) net.trap
    pub each : (k : ℕ) (s : Step L) → slice_get steps k ≡ Some s → s.so_far ≡ c.ops.plus a (cost_of c.ops c.worth net (take (suc k) (sections_of steps)))
    pub whole : total ≡ c.ops.plus a (cost_of c.ops c.worth net (sections_of steps))

  same_eq : (a b : L) → same c a b ≡ true → a ≡ b
  same_eq a b e = let p = and_parts (c.ops.leb a b) (c.ops.leb b a) e in laws.le_anti a b p.0 p.1

  eq_same : (a b : L) → a ≡ b → same c a b ≡ true
  eq_same a b e = subst (λ x. same c a x ≡ true) e (ap (λ t. t && c.ops.leb a a) (laws.le_refl a) ∙ laws.le_refl a)

  -- a small sum is exact
  exact : (a w : L) → c.ops.size a + c.ops.size w ≤ 2 ^ 60 → (computed c.ops).plus a w ≡ c.ops.plus a w
  exact a w h = rw (le-leb _ _ h)

  -- the steps name their sections' ends
  abbrev pub Ends : List (Step L) → Type 0
  Ends steps = AllByRecursion (λ s. (x : Section S) → slice_get net.sections s.section ≡ Some x → s.to ≡ x.to) steps

  -- a step that is right
  pub record Open (u : ℕ) (a : L) (s : Step L) : Type 0 where
    pub section : Section S
    pub there : slice_get net.sections s.section ≡ Some section
    pub «open» : section.shut ≡ false
    pub here : section.from ≡ u
    pub cost : (computed c.ops).plus a (c.worth section.amount) ≡ s.so_far

  step_open : (u : ℕ) (a : L) (s : Step L) (o : Option (Section S)) → slice_get net.sections s.section ≡ o → step_right c u a s o ≡ true → Open u a s
  step_open u a s None e r = cc
  step_open u a s (Some x) e r =
      let p = and_parts (not x.shut) _ r in
      let q = and_parts (eqb x.from u) _ p.1 in
      record { section = x; there = e; «open» = not-true x.shut p.0; here = eqb-true x.from u q.0; cost = same_eq _ _ q.1 }

  open_step : (u : ℕ) (a : L) (s : Step L) → Open u a s → step_right c u a s (slice_get net.sections s.section) ≡ true
  open_step u a s p =
      let x = p.section in
      rw (p.there, p.«open», eq-eqb _ _ p.here) (eq_same _ _ p.cost)

  -- the cost of a route with one section more in front
  module _ (u : ℕ) (a : L) (s : Step L) (x : Section S) (there : slice_get net.sections s.section ≡ Some x) (sum : c.ops.plus a (c.worth x.amount) ≡ s.so_far) where
    regroup : (ks : List ℕ) → c.ops.plus s.so_far (cost_of c.ops c.worth net ks) ≡ c.ops.plus a (cost_of c.ops c.worth net (s.section ∷ ks))
    regroup ks =
        let rest = cost_of c.ops c.worth net ks in
        ap (λ y. c.ops.plus y rest) (sym sum) ∙ laws.assoc a (c.worth x.amount) rest ∙ ap (λ o. c.ops.plus a (c.ops.plus (worth_in c.ops c.worth o) rest)) (sym there)

  -- the cost after a step stays small
  grows : (n : ℕ) (a b w : L) → c.ops.size a ≤ n * 2 ^ 32 → c.ops.size w < 2 ^ 32 → c.ops.plus a w ≡ b → c.ops.size b ≤ (n + 1) * 2 ^ 32
  grows n a b w h k e = omega (arith, laws.size_plus a w, ap c.ops.size e)

  pub walks_right : (n : ℕ) (steps : List (Step L)) (u : ℕ) (a : L) → c.ops.size a ≤ n * 2 ^ 32 → n + length steps ≤ 2 ^ 20 → Ends steps → walks c net u a total steps ≡ true → Right u a steps
  walks_right n [] u a h l ends e =
      let p = and_parts (eqb u net.trap) (same c a total) e in
      record { joined = eqb-true u net.trap p.0; each = λ k s z. cc; whole = sym (same_eq a total p.1) ∙ sym (laws.unit a) }
  walks_right n (s ∷ ss) u a h l ends e =
      let p = and_parts (step_right c u a s (slice_get net.sections s.section)) (walks c net s.to s.so_far total ss) e in
      let o = step_open u a s (slice_get net.sections s.section) refl p.0 in
      let x = o.section in
      let k = small s.section x o.there in
      let sum = sym (exact a (c.worth x.amount) (omega arith)) ∙ o.cost in
      let next = walks_right (n + 1) ss s.to s.so_far (grows n a s.so_far (c.worth x.amount) h k sum) (omega arith) ends.1 p.1 in
      record {
        joined = (x, o.there, o.«open», o.here, subst (λ v. Joins net v (sections_of ss) net.trap) (ends.0 x o.there) next.joined);
        each = each_of u a s ss x o.there sum next.each;
        whole = next.whole ∙ regroup u a s x o.there sum (sections_of ss);
      }
    where
      each_of : (u : ℕ) (a : L) (s : Step L) (ss : List (Step L)) (x : Section S) (there : slice_get net.sections s.section ≡ Some x) (sum : c.ops.plus a (c.worth x.amount) ≡ s.so_far) → ((k : ℕ) (t : Step L) → slice_get ss k ≡ Some t → t.so_far ≡ c.ops.plus s.so_far (cost_of c.ops c.worth net (take (suc k) (sections_of ss)))) → (k : ℕ) (t : Step L) → slice_get (s ∷ ss) k ≡ Some t → t.so_far ≡ c.ops.plus a (cost_of c.ops c.worth net (take (suc k) (sections_of (s ∷ ss))))
      each_of u a s ss x there sum later zero t e = let z : s ≡ t = cc in ap (λ y. y.so_far) (sym z) ∙ sym (laws.unit s.so_far) ∙ regroup u a s x there sum []
      each_of u a s ss x there sum later (suc k) t e = later k t e ∙ regroup u a s x there sum (take (suc k) (sections_of ss))

  pub right_walks : (n : ℕ) (steps : List (Step L)) (u : ℕ) (a : L) → c.ops.size a ≤ n * 2 ^ 32 → n + length steps ≤ 2 ^ 20 → Ends steps → Right u a steps → walks c net u a total steps ≡ true
  right_walks n [] u a h l ends r = rw (eq-eqb u net.trap r.joined) (eq_same a total (sym (r.whole ∙ laws.unit a)))
  right_walks n (s ∷ ss) u a h l ends r =
      let x = r.joined.0 in
      let there = r.joined.1 in
      let w = c.worth x.amount in
      let k = small s.section x there in
      let sum : c.ops.plus a w ≡ s.so_far = sym (r.each 0 s refl ∙ ap (λ o. c.ops.plus a (c.ops.plus (worth_in c.ops c.worth o) c.ops.zero)) there ∙ ap (c.ops.plus a) (laws.unit w)) in
      let o : Open u a s = record { section = x; there = there; «open» = r.joined.2; here = r.joined.3; cost = exact a w (omega arith) ∙ sum } in
      let next : Right s.to s.so_far ss = record {
        joined = subst (λ v. Joins net v (sections_of ss) net.trap) (sym (ends.0 x there)) r.joined.4;
        each = λ i t e. r.each (suc i) t e ∙ sym (regroup u a s x there sum (take (suc i) (sections_of ss)));
        whole = r.whole ∙ sym (regroup u a s x there sum (sections_of ss));
      } in
      ap (λ b. b && walks c net s.to s.so_far total ss) (open_step u a s o)
      ∙ right_walks (n + 1) ss s.to s.so_far (grows n a s.so_far w h k sum) (omega arith) ends.1 next
