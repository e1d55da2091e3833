-- Walks: what they cost, how they join and turn, and the walk that a chain of arrivals is.
use Rattle.std.proofs.Common.{◌≡◌, ℕ, zero, suc, ◌-◌, ◌*◌, ◌^◌, ◌≤◌, true, List, [], ◌∷◌, ◌++◌, reverse, length, length-append, Some, None, Option, sym, refl, ap, ◌∙◌, arith}
use Rattle.std.proofs.lemmas.List.{reverse-append}
use Rattle.amounts.specs.Amount.{Ops, Laws, total}
use Rattle.faults.specs.Faults.{opposite}
use Rattle.faults.specs.declared.Side.{Side}
use Rattle.faults.specs.declared.Side.TheVariants.{Forward, Backward}
use Rattle.networks.specs.declared.section.Section.{Section}
use Rattle.networks.specs.Nets.{tail, head}
use Rattle.networks.specs.Routes.{Joins, worth_in}
use Rattle.optimality.specs.Problems.{Problem, Fair, Arc, start, route_cost}
use Rattle.optimality.proofs.Marked.{On}
use Rattle.optimality.proofs.Having.{has_parts, has_from, on_at}
use Rattle.optimality.proofs.Group.{unit_left}
use Rattle.optimality.proofs.Invariant.{Marks, Walk, Chain}

-- Costs ---------------------------------------------------------------------------------------

module _ {L X : Type 0} {o : Ops L} (l : Laws o) (worth : X → L) where
  -- the total of two lists
  total_append : (xs ys : List X) → total o worth (xs ++ ys) ≡ o.plus (total o worth xs) (total o worth ys)
  total_append [] ys = sym (unit_left l (total o worth ys))
  total_append (x ∷ xs) ys = ap (o.plus (worth x)) (total_append xs ys) ∙ sym (l.assoc _ _ _)

  -- a total does not depend on the direction
  total_reverse : (xs : List X) → total o worth (reverse xs) ≡ total o worth xs
  total_reverse [] = refl
  total_reverse (x ∷ xs) =
      ap (total o worth) (reverse-append (x ∷ []) xs) ∙ total_append (reverse xs) (x ∷ []) ∙ l.comm _ _ ∙ simp (l.unit, total_reverse xs)

module _ {C L S : Type 0} (p : Problem C L S) where
  -- Walks --------------------------------------------------------------------------------------

  -- a walk, and on
  pub walk_append : (side : Side) (u v w : ℕ) (ks js : List ℕ) → Walk p side u ks v → Walk p side v js w → Walk p side u (ks ++ js) w
  walk_append side u v w [] js a b = rw a b
  walk_append side u v w (k ∷ ks) js a b = let (s, arc, here, rest) = a in (s, arc, here, walk_append side (head side s) v w ks js rest b)

  -- the opposite side's head is the side's own tail
  back : (side : Side) (s : Section S) → head (opposite side) s ≡ tail side s
  back Forward s = refl
  back Backward s = refl

  -- a walk, the other way
  pub walk_turned : (side : Side) (u v : ℕ) (ks : List ℕ) → Walk p side u ks v → Walk p (opposite side) v (reverse ks) u
  walk_turned side u v [] a = sym a
  walk_turned side u v (k ∷ ks) a =
      let (s, arc, here, rest) = a in
      rw (reverse-append (k ∷ []) ks)
      (walk_append (opposite side) v (head side s) u (reverse ks) (k ∷ []) (walk_turned side (head side s) v ks rest) (s, arc, refl, back side s ∙ here))

  -- sections that join are a forward walk
  pub joins_walk : (u v : ℕ) (ks : List ℕ) → Joins p.net u ks v → Walk p Forward u ks v
  joins_walk u v [] a = a
  joins_walk u v (k ∷ ks) a = let (s, there, shut, here, rest) = a in (s, (there, shut), here, joins_walk s.to v ks rest)

  -- and the other way
  pub walk_joins : (u v : ℕ) (ks : List ℕ) → Walk p Forward u ks v → Joins p.net u ks v
  walk_joins u v [] a = a
  walk_joins u v (k ∷ ks) a = let (s, arc, here, rest) = a in (s, arc.0, arc.1, here, walk_joins s.to v ks rest)

  -- a section in front of a walk
  pub step_cost : (k : ℕ) (s : Section S) (ks : List ℕ) → Arc p k s → route_cost p (k ∷ ks) ≡ p.kind.ops.plus (p.kind.worth s.amount) (route_cost p ks)
  step_cost k s ks arc = ap (λ x. p.kind.ops.plus (worth_in p.kind.ops p.kind.worth x) (route_cost p ks)) arc.0

  -- Chains -------------------------------------------------------------------------------------

  -- a chain in a sheet that keeps what is closed
  pub chain_kept : (side : Side) (f g : Marks L) → ((i : ℕ) → On (f i) (λ m. m.closed ≡ true → g i ≡ Some m)) → (n v : ℕ) (label : L) (arrival : Option ℕ) → Chain p side f n v label arrival → Chain p side g n v label arrival
  chain_kept side f g kept n v label None c = c
  chain_kept side f g kept zero v label (Some k) c = c
  chain_kept side f g kept (suc n) v label (Some k) c =
      let (s, arc, here, has) = c in
      let (m, e, (was, is, before)) = has_parts (f (tail side s)) _ has in
      let same : g (tail side s) ≡ Some m = on_at (f (tail side s)) _ m e (kept (tail side s)) was in
      (s, arc, here, has_from (g (tail side s)) _ m same (was, is, chain_kept side f g kept n (tail side s) m.label m.arrival before))

  -- and with a step more
  pub chain_more : (side : Side) (f : Marks L) (n v : ℕ) (label : L) (arrival : Option ℕ) → Chain p side f n v label arrival → Chain p side f (suc n) v label arrival
  chain_more side f n v label None c = c
  chain_more side f zero v label (Some k) c = absurd c
  chain_more side f (suc n) v label (Some k) c =
      let (s, arc, here, has) = c in
      let (m, e, (was, is, before)) = has_parts (f (tail side s)) _ has in
      (s, arc, here, has_from (f (tail side s)) _ m e (was, is, chain_more side f n (tail side s) m.label m.arrival before))

  module _ (laws : Laws p.kind.ops) where
    -- what two walks cost, one after the other
    pub cost_append : (ks js : List ℕ) → route_cost p (ks ++ js) ≡ p.kind.ops.plus (route_cost p ks) (route_cost p js)
    cost_append ks js = total_append laws _ ks js

    -- a walk costs the same the other way
    pub cost_reverse : (ks : List ℕ) → route_cost p (reverse ks) ≡ route_cost p ks
    cost_reverse ks = total_reverse laws _ ks

    -- a section at the end of a walk
    pub last_cost : (k : ℕ) (s : Section S) (ks : List ℕ) → Arc p k s → route_cost p (ks ++ k ∷ []) ≡ p.kind.ops.plus (route_cost p ks) (p.kind.worth s.amount)
    last_cost k s ks arc = cost_append ks (k ∷ []) ∙ ap (p.kind.ops.plus (route_cost p ks)) (step_cost k s [] arc ∙ laws.unit _)

    -- a chain is a walk from the start, as long and as dear as it says
    pub chain_walk : (side : Side) (f : Marks L) (n v : ℕ) (label : L) (arrival : Option ℕ) → Chain p side f n v label arrival → (ks : List ℕ) × Walk p side (start p.net side) ks v × (route_cost p ks ≡ label) × (length ks ≤ n)
    chain_walk side f n v label None c = ([], sym c.0, sym c.1, omega arith)
    chain_walk side f zero v label (Some k) c = absurd c
    chain_walk side f (suc n) v label (Some k) c =
        let (s, arc, here, has) = c in
        let (m, e, (was, is, before)) = has_parts (f (tail side s)) _ has in
        let (ks, walk, cost, long) = chain_walk side f n (tail side s) m.label m.arrival before in
        (ks ++ k ∷ [], walk_append side (start p.net side) (tail side s) v ks (k ∷ []) walk (s, arc, refl, here), last_cost k s ks arc ∙ cc, omega (arith, length-append ks (k ∷ [])))

module _ {C L S : Type 0} (p : Problem C L S) (fair : Fair p) where
  -- the size of what a walk costs
  pub walk_size : (side : Side) (u v : ℕ) (ks : List ℕ) → Walk p side u ks v → p.kind.ops.size (route_cost p ks) ≤ length ks * (2 ^ 32 - 1)
  walk_size side u v [] a = omega (arith, fair.laws.size_zero)
  walk_size side u v (k ∷ ks) a =
      let (s, arc, here, rest) = a in
      let sum = fair.laws.size_plus (p.kind.worth s.amount) (route_cost p ks) in
      let fit = fair.fit k s arc.0 in
      omega (arith, walk_size side (head side s) v ks rest, ap p.kind.ops.size (step_cost p k s ks arc))

  -- the label at the end of n steps
  pub chain_size : (side : Side) (f : Marks L) (n v : ℕ) (label : L) (arrival : Option ℕ) → Chain p side f n v label arrival → p.kind.ops.size label ≤ n * (2 ^ 32 - 1)
  chain_size side f n v label arrival c =
      let (ks, walk, cost, long) = chain_walk p fair.laws side f n v label arrival c in
      omega (arith, walk_size side (start p.net side) v ks walk, ap p.kind.ops.size cost)
