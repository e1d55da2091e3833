-- Bounds, where what is absent counts as above every amount.
use Rattle.std.proofs.Common.{◌≡◌, ℕ, ◌^◌, ◌<◌, true, false, true≢false, List, length, Some, None, Option, sym, refl, ap, ◌∙◌, add_comm, arith}
use Rattle.std.proofs.lemmas.Bool.{cond_both}
use Rattle.amounts.specs.Amount.{Laws, Le}
use Rattle.faults.specs.Faults.{opposite}
use Rattle.faults.specs.declared.Side.{Side}
use Rattle.faults.specs.declared.Side.TheVariants.{Forward, Backward}
use Rattle.optimality.specs.declared.sheet.Mark.{Mark}
use Rattle.optimality.specs.declared.sheet.Row.{Row}
use Rattle.optimality.specs.declared.sheet.Front.{Front}
use Rattle.optimality.specs.declared.sheet.Ceiling.{Ceiling}
use Rattle.optimality.specs.declared.sheet.Ceiling.TheVariants.{Absent, Met}
use Rattle.optimality.specs.Sheets.{State}
use Rattle.optimality.specs.Problems.{Problem, Fair}
use Rattle.optimality.specs.Keys.{computed_sum, within, smaller, key_sum, twice}
use Rattle.optimality.specs.Search.{mark_at, front, least_sum}
use Rattle.optimality.proofs.Marked.{OnMet, CeilLe}
use Rattle.optimality.proofs.Having.{has_parts, on_at}
use Rattle.optimality.proofs.Group.{le_of_not, le_add, le_half, le_double}
use Rattle.optimality.proofs.Exact.{sum_is, key_small}
use Rattle.optimality.proofs.Fronts.{seen_small, front_stands, front_there}
use Rattle.optimality.proofs.Invariant.{Meeting, key_at}

-- x is at most y
abbrev pub Below : {C L S : Type 0} → Problem C L S → Option L → Option L → Type 0
Below p x y = within p.kind x y ≡ true

-- a ceiling no larger than two labels of a row add up to
abbrev pub Small : {C L S : Type 0} → Problem C L S → Ceiling L → Type 0
Small p ceiling = OnMet ceiling (λ a m. p.kind.ops.size a < 2 ^ 45)

module _ {C L S : Type 0} (p : Problem C L S) (laws : Laws p.kind.ops) where
  -- Order --------------------------------------------------------------------------------------

  -- each bound is at most itself
  pub below_refl : (x : Option L) → Below p x x
  below_refl None = refl
  below_refl (Some a) = laws.le_refl a

  -- what is at most one that is at most a third
  pub below_trans : (x y z : Option L) → Below p x y → Below p y z → Below p x z
  below_trans x y None h k = refl
  below_trans x None (Some c) h k = absurd (true≢false (sym k))
  below_trans None (Some b) (Some c) h k = absurd (true≢false (sym h))
  below_trans (Some a) (Some b) (Some c) h k = laws.le_trans a b c h k

  -- where x is not at most y, y is at most x
  pub below_other : (x y : Option L) → within p.kind x y ≡ false → Below p y x
  below_other x None e = absurd (true≢false e)
  below_other None (Some b) e = refl
  below_other (Some a) (Some b) e = le_of_not laws a b e

  -- the smaller of two is at most the first
  pub smaller_left : (x y : Option L) → Below p (smaller p.kind x y) x
  smaller_left x y = cond_both (within p.kind x y) x y (λ z. Below p z x) (λ e. below_refl x) (below_other x y)

  -- and at most the second
  pub smaller_right : (x y : Option L) → Below p (smaller p.kind x y) y
  smaller_right x y = cond_both (within p.kind x y) x y (λ z. Below p z y) (λ e. e) (λ e. below_refl y)

  -- what is at most both is at most the smaller
  pub smaller_most : (z x y : Option L) → Below p z x → Below p z y → Below p z (smaller p.kind x y)
  smaller_most z x y h k = cond_both (within p.kind x y) x y (Below p z) (λ e. h) (λ e. k)

  -- The two least keys -------------------------------------------------------------------------

  -- a computed sum does not depend on the order
  sum_comm : (a b : L) → computed_sum p.kind a b ≡ computed_sum p.kind b a
  sum_comm a b = rw (laws.comm a b, add_comm (p.kind.ops.size a) (p.kind.ops.size b))

  -- nor does the sum of two fronts' keys
  key_sum_comm : (x y : Option (Front L)) → key_sum p.kind x y ≡ key_sum p.kind y x
  key_sum_comm None None = refl
  key_sum_comm None (Some b) = refl
  key_sum_comm (Some a) None = refl
  key_sum_comm (Some a) (Some b) = ap Some (sum_comm a.key b.key)

  -- the sum of the two least keys, whichever side comes first
  pub least_sum_by : (st : State C L S) (side : Side) → key_sum p.kind (front p st side) (front p st (opposite side)) ≡ least_sum p st
  least_sum_by st Forward = refl
  least_sum_by st Backward = key_sum_comm (front p st Backward) (front p st Forward)

module _ {C L S : Type 0} (p : Problem C L S) (fair : Fair p) where
  -- a front's key is small
  pub front_small : (st : State C L S) (side : Side) (r : Front L) → length st.rows ≡ p.net.stations → front p st side ≡ Some r → p.kind.ops.size r.key < 2 ^ 46
  front_small st side r long e =
      let next = front_stands p fair st side r long e in
      let small = on_at (mark_at p.kind st.rows side r.station) _ _ next.marked (seen_small p.kind fair.laws st.rows side r.station) in
      rw next.its_key (key_small p fair side r.station r.label small)

  -- the sum of the least keys is exact
  pub least_sum_is : (st : State C L S) (side : Side) (a b : Front L) → length st.rows ≡ p.net.stations → front p st side ≡ Some a → front p st (opposite side) ≡ Some b → least_sum p st ≡ Some (p.kind.ops.plus a.key b.key)
  least_sum_is st side a b long e h =
      let k = front_small st side a long e in
      let j = front_small st (opposite side) b long h in
      sym (least_sum_by p fair.laws st side) ∙ rw (e, h) (ap Some (sum_is p.kind a.key b.key (omega arith)))

  -- and at most the sum of the keys of two open stations, one of each side
  pub least_sum_below : (st : State C L S) (side : Side) → length st.rows ≡ p.net.stations → (u v : ℕ) (m w : Mark L) (x : L) → mark_at p.kind st.rows side u ≡ Some m → m.closed ≡ false → mark_at p.kind st.rows (opposite side) v ≡ Some w → w.closed ≡ false → Le p.kind.ops (p.kind.ops.plus (key_at p side u m.label) (key_at p (opposite side) v w.label)) x → Below p (least_sum p st) (Some x)
  least_sum_below st side long u v m w x e o k q le =
      let (a, is, low) = front_there p fair st side long u m e o in
      let (b, at, less) = front_there p fair st (opposite side) long v w k q in
      rw (least_sum_is st side a b long is at) (fair.laws.le_trans _ _ _ (le_add fair.laws _ _ _ _ low less) le)

  -- Ceilings -----------------------------------------------------------------------------------

  -- twice a small amount is exact
  double_is : (a : L) → p.kind.ops.size a < 2 ^ 45 → computed_sum p.kind a a ≡ p.kind.ops.plus a a
  double_is a h = sum_is p.kind a a (omega arith)

  -- and so is twice a small ceiling
  pub twice_is : (a : L) (m : ℕ) → p.kind.ops.size a < 2 ^ 45 → twice p.kind (Met a m) ≡ Some (p.kind.ops.plus a a)
  twice_is a m h = ap Some (double_is a h)

  -- a ceiling of at most x is, doubled, at most twice x
  pub ceil_below : (ceiling : Ceiling L) (x : L) → Small p ceiling → CeilLe p.kind.ops ceiling x → Below p (twice p.kind ceiling) (Some (p.kind.ops.plus x x))
  ceil_below Absent x small h = absurd h
  ceil_below (Met a m) x small h = rw (double_is a small) (le_double fair.laws a x h)

  -- and the other way
  pub below_ceil : (ceiling : Ceiling L) (x : L) → Small p ceiling → Below p (twice p.kind ceiling) (Some (p.kind.ops.plus x x)) → CeilLe p.kind.ops ceiling x
  below_ceil Absent x small h = absurd (true≢false (sym h))
  below_ceil (Met a m) x small h = le_half fair.laws a x (rw (double_is a small) at h)

  -- a ceiling that is the sum of two labels that are read is small
  pub ceiling_small : (rows : List (Row C L S)) (side : Side) (ceiling : Ceiling L) → Meeting p (mark_at p.kind rows side) (mark_at p.kind rows (opposite side)) ceiling → Small p ceiling
  ceiling_small rows side Absent h = tt
  ceiling_small rows side (Met a m) h =
      let f = mark_at p.kind rows side m in
      let w = mark_at p.kind rows (opposite side) m in
      let (x, e, has) = has_parts f _ h in
      let (y, k, is) = has_parts w _ has in
      let small = on_at f _ x e (seen_small p.kind fair.laws rows side m) in
      let other = on_at w _ y k (seen_small p.kind fair.laws rows (opposite side) m) in
      omega (arith, ap p.kind.ops.size is, fair.laws.size_plus x.label y.label)
