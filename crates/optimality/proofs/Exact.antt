-- What is computed of small labels is exact, and what keys are.
use Rattle.std.proofs.Common.{◌≡◌, ℕ, ◌+◌, ◌^◌, ◌<◌, ◌≤◌, Some, le-leb, arith}
use Rattle.std.specs.List.{slice_get}
use Rattle.amounts.specs.Amount.{Le}
use Rattle.amounts.specs.declared.cost.Cost as cost
use Rattle.faults.specs.Faults.{opposite}
use Rattle.faults.specs.declared.Side.{Side}
use Rattle.faults.specs.declared.Side.TheVariants.{Forward, Backward}
use Rattle.networks.specs.declared.section.Section.{Section}
use Rattle.networks.specs.Nets.{tail, head}
use Rattle.optimality.specs.Problems.{Problem, Fair, Consistent, Arc, guess}
use Rattle.optimality.specs.Keys.{computed_sum, computed_difference, key}
use Rattle.optimality.proofs.Group.{minus_plus, opposite_sum, drop_le, key_rises, key_half, key_pair}
use Rattle.optimality.proofs.Invariant.{drop, key_at}

module _ {C L S : Type 0} (c : cost.Ghosts C L S) where
  -- a sum is exact while the sizes fit
  pub sum_is : (a b : L) → c.ops.size a + c.ops.size b ≤ 2 ^ 60 → computed_sum c a b ≡ c.ops.plus a b
  sum_is a b h = rw (le-leb _ _ h)

  -- and so is a difference
  pub difference_is : (a b : L) → c.ops.size a + c.ops.size b ≤ 2 ^ 60 → computed_difference c a b ≡ c.ops.minus a b
  difference_is a b h = rw (le-leb _ _ h)

module _ {C L S : Type 0} (p : Problem C L S) (fair : Fair p) where
  -- Sizes --------------------------------------------------------------------------------------

  -- the key of a label that a row holds is small too
  pub key_small : (side : Side) (u : ℕ) (label : L) → p.kind.ops.size label < 2 ^ 44 → p.kind.ops.size (key_at p side u label) < 2 ^ 46
  key_small side u label h =
      let two = fair.laws.size_plus label label in
      let less = fair.laws.size_minus (guess p side u) (guess p (opposite side) u) in
      let all = fair.laws.size_plus (p.kind.ops.plus label label) (drop p side u) in
      omega (arith, fair.small side u, fair.small (opposite side) u)

  -- and what is computed is the key itself
  pub key_is : (side : Side) (u : ℕ) (label : L) → p.kind.ops.size label < 2 ^ 44 → key p.kind p.estimates side u label ≡ key_at p side u label
  key_is side u label h =
      let o = p.kind.ops in
      let e = guess p side u in
      let f = guess p (opposite side) u in
      let two = fair.laws.size_plus label label in
      let three = fair.laws.size_plus (o.plus label label) e in
      let k = fair.small side u in
      let j = fair.small (opposite side) u in
      rw (sum_is p.kind label label (omega arith), sum_is p.kind (o.plus label label) e (omega arith), difference_is p.kind (o.plus (o.plus label label) e) f (omega arith))
      (minus_plus fair.laws (o.plus label label) e f)

  -- a small label and a section's amount
  pub candidate_is : (k : ℕ) (s : Section S) (g : L) → slice_get p.net.sections k ≡ Some s → p.kind.ops.size g < 2 ^ 44 → computed_sum p.kind g (p.kind.worth s.amount) ≡ p.kind.ops.plus g (p.kind.worth s.amount)
  candidate_is k s g there h = let fit = fair.fit k s there in sum_is p.kind g (p.kind.worth s.amount) (omega arith)

  -- two small labels
  pub labels_sum_is : (g h : L) → p.kind.ops.size g < 2 ^ 44 → p.kind.ops.size h < 2 ^ 44 → computed_sum p.kind g h ≡ p.kind.ops.plus g h
  labels_sum_is g h a b = sum_is p.kind g h (omega arith)

  -- Keys ---------------------------------------------------------------------------------------

  -- at one station the two drops cancel
  pub drops_cancel : (side : Side) (u : ℕ) → p.kind.ops.plus (drop p side u) (drop p (opposite side) u) ≡ p.kind.ops.zero
  drops_cancel Forward u = opposite_sum fair.laws _ _
  drops_cancel Backward u = opposite_sum fair.laws _ _

  -- at one station the two keys add up to twice the sum of the labels
  pub keys_at : (side : Side) (u : ℕ) (g h : L) → p.kind.ops.plus (key_at p side u g) (key_at p (opposite side) u h) ≡ p.kind.ops.plus (p.kind.ops.plus g h) (p.kind.ops.plus g h)
  keys_at side u g h = key_pair fair.laws g h (drop p side u) (drop p (opposite side) u) (drops_cancel side u)

  -- at one station keys are ordered as labels
  pub key_cancel : (side : Side) (u : ℕ) (g h : L) → Le p.kind.ops (key_at p side u g) (key_at p side u h) → Le p.kind.ops g h
  key_cancel side u g h k = key_half fair.laws g h (drop p side u) k

  module _ (con : Consistent p) where
    -- along an open section a side's drop falls by at most twice the amount
    pub drop_along : (side : Side) (k : ℕ) (s : Section S) → Arc p k s → Le p.kind.ops (drop p side (tail side s)) (p.kind.ops.plus (drop p side (head side s)) (p.kind.ops.plus (p.kind.worth s.amount) (p.kind.worth s.amount)))
    drop_along Forward k s arc = drop_le fair.laws _ _ _ _ _ (con Forward k s arc) (con Backward k s arc)
    drop_along Backward k s arc = drop_le fair.laws _ _ _ _ _ (con Backward k s arc) (con Forward k s arc)

    -- and keys do not fall
    pub key_along : (side : Side) (k : ℕ) (s : Section S) (g : L) → Arc p k s → Le p.kind.ops (key_at p side (tail side s) g) (key_at p side (head side s) (p.kind.ops.plus g (p.kind.worth s.amount)))
    key_along side k s g arc = key_rises fair.laws g (p.kind.worth s.amount) (drop p side (tail side s)) (drop p side (head side s)) (drop_along side k s arc)
