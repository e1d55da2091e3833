-- Which labels are better than a mark, and when a ceiling is lowered.
use Rattle.std.proofs.Common.{◌≡◌, ℕ, ◌^◌, ◌<◌, Bool, true, false, not, Some, None, Option, inl, inr, sym, refl, ap, ◌∙◌, true≢false}
use Rattle.std.proofs.lemmas.Bool.{true_from_ne_false, not-true, not-false, and_parts, and_cases}
use Rattle.amounts.specs.Amount.{Laws, Le}
use Rattle.amounts.specs.declared.cost.Cost as cost
use Rattle.optimality.specs.declared.sheet.Mark.{Mark}
use Rattle.optimality.specs.declared.sheet.Ceiling.{Ceiling}
use Rattle.optimality.specs.declared.sheet.Ceiling.TheVariants.{Absent, Met}
use Rattle.optimality.specs.Problems.{Problem, Fair}
use Rattle.optimality.specs.Keys.{opened_mark, computed_sum, within, lowered, improves}
use Rattle.optimality.specs.Published.{amount_of}
use Rattle.optimality.proofs.Group.{le_of_not}
use Rattle.optimality.proofs.Exact.{labels_sum_is}

-- whether a ceiling is at most an amount
abbrev pub under : {C L S : Type 0} → cost.Ghosts C L S → Ceiling L → L → Bool
under c ceiling a = within c (amount_of ceiling) (Some a)

module _ {C L S : Type 0} (c : cost.Ghosts C L S) where
  -- Labels -------------------------------------------------------------------------------------

  -- no label is better than a closed mark
  pub closed_stands : (a b : L) (k : Option ℕ) → improves c a (Some (record { label = b; arrival = k; closed = true })) ≡ true → ⊥
  closed_stands a b k h = true≢false (sym h)

  -- a label is better than an open mark that is not at most it
  pub better_open : (a b : L) (k : Option ℕ) → improves c a (Some (opened_mark b k)) ≡ true → c.ops.leb b a ≡ false
  better_open a b k h = not-true (c.ops.leb b a) h

  -- a label is not better than an open mark that is at most it
  pub worse_open : (a b : L) (k : Option ℕ) → Le c.ops b a → improves c a (Some (opened_mark b k)) ≡ false
  worse_open a b k h = ap not h

  -- and the other way
  pub open_most : (a b : L) (k : Option ℕ) → improves c a (Some (opened_mark b k)) ≡ false → Le c.ops b a
  open_most a b k h = not-false (c.ops.leb b a) h

  -- Ceilings -----------------------------------------------------------------------------------

  -- a ceiling of at most a stays
  pub lowered_stays : (a : L) (u : ℕ) (ceiling : Ceiling L) → under c ceiling a ≡ true → lowered c a u ceiling ≡ ceiling
  lowered_stays a u Absent h = absurd (true≢false (sym h))
  lowered_stays a u (Met b m) h = rw h

  -- any other becomes a
  pub lowered_falls : (a : L) (u : ℕ) (ceiling : Ceiling L) → under c ceiling a ≡ false → lowered c a u ceiling ≡ Met a u
  lowered_falls a u Absent h = refl
  lowered_falls a u (Met b m) h = rw h

  module _ (laws : Laws c.ops) where
    -- what is better than a mark is at most what is not
    pub better_le : (a b : L) (x : Option (Mark L)) → improves c a x ≡ true → improves c b x ≡ false → Le c.ops a b
    better_le a b None h k = absurd (true≢false k)
    better_le a b (Some m) h k =
        let both = and_parts (not m.closed) _ h in
        elim (and_cases (not m.closed) _ k) [
          | inl e ↦ absurd (true≢false (sym both.0 ∙ e))
          | inr e ↦ laws.le_trans a m.label b (le_of_not laws m.label a (not-true _ both.1)) (not-false _ e)
        ]

    -- what is at most a better label is better
    pub better_too : (a b : L) (x : Option (Mark L)) → Le c.ops b a → improves c a x ≡ true → improves c b x ≡ true
    better_too a b x le h =
        true_from_ne_false (improves c b x) (λ no. let same : a ≡ b = laws.le_anti a b (better_le a b x h no) le in true≢false (sym h ∙ ap (λ l. improves c l x) same ∙ no))

module _ {C L S : Type 0} (p : Problem C L S) (fair : Fair p) where
  -- the less of two labels has the less sum with a third
  pub sum_less : (a b g : L) → p.kind.ops.size a < 2 ^ 44 → p.kind.ops.size b < 2 ^ 44 → p.kind.ops.size g < 2 ^ 44 → p.kind.ops.leb b a ≡ false → Le p.kind.ops (computed_sum p.kind b g) (computed_sum p.kind a g) → ⊥
  sum_less a b g x y z less le =
      let exact = rw (labels_sum_is p fair b g y z, labels_sum_is p fair a g x z) at le in
      true≢false (sym (fair.laws.le_cancel b a g exact) ∙ less)
