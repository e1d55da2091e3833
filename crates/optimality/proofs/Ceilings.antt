-- How the ceiling moves.
use Rattle.std.proofs.Common.{◌≡◌, ℕ, false, Some, None, Option, sym, refl, ◌∙◌, true≢false}
use Rattle.std.proofs.lemmas.Bool.{cond_both}
use Rattle.amounts.specs.Amount.{Ops, Laws, Le}
use Rattle.amounts.specs.declared.cost.Cost as cost
use Rattle.optimality.specs.declared.sheet.Mark.{Mark}
use Rattle.optimality.specs.declared.sheet.Ceiling.{Ceiling}
use Rattle.optimality.specs.declared.sheet.Ceiling.TheVariants.{Absent, Met}
use Rattle.optimality.specs.Problems.{Problem}
use Rattle.optimality.specs.Keys.{opened_mark, computed_sum, lowered, met}
use Rattle.optimality.proofs.Marked.{On, Has, CeilLe}
use Rattle.optimality.proofs.Having.{on_from, on_at, has_from, has_parts}
use Rattle.optimality.proofs.Moving.{on_map}
use Rattle.optimality.proofs.Group.{le_of_not}
use Rattle.optimality.proofs.Invariant.{Marks, Joint, Meeting}
use Rattle.optimality.proofs.Putting.{Puts, puts_ind}

-- the new ceiling is at most what the old one is at most
abbrev pub Falls : {L : Type 0} → Ops L → Ceiling L → Ceiling L → Type 0
Falls {L} o old new = (x : L) → CeilLe o old x → CeilLe o new x

module _ {C L S : Type 0} (c : cost.Ghosts C L S) (laws : Laws c.ops) where
  -- it is the new amount, or the old one where that is no higher
  lowered_ind : (a : L) (u : ℕ) (ceiling : Ceiling L) (P : Ceiling L → Type 0) → (Falls c.ops ceiling (Met a u) → P (Met a u)) → (CeilLe c.ops ceiling a → P ceiling) → P (lowered c a u ceiling)
  lowered_ind a u Absent P new old = new (λ x h. absurd h)
  lowered_ind a u (Met b m) P new old = cond_both (c.ops.leb b a) (Met b m) (Met a u) P old (λ e. new (λ x h. laws.le_trans a b x (le_of_not laws b a e) h))

  -- the two labels of a station are added up without loss
  abbrev Exact : L → Option (Mark L) → Type 0
  Exact a w = On w (λ m. computed_sum c a m.label ≡ c.ops.plus a m.label)

  -- a new label where the other side has the mark w
  pub met_ind : (a : L) (u : ℕ) (w : Option (Mark L)) → Exact a w → (ceiling : Ceiling L) (P : Ceiling L → Type 0) → On w (λ m. P (Met (c.ops.plus a m.label) u)) → (On w (λ m. CeilLe c.ops ceiling (c.ops.plus a m.label)) → P ceiling) → P (met c a u w ceiling)
  met_ind a u None exact ceiling P new old = old tt
  met_ind a u (Some m) exact ceiling P new old = rw exact (lowered_ind (c.ops.plus a m.label) u ceiling P (λ falls. new) old)

  -- the ceiling does not rise
  pub met_falls : (a : L) (u : ℕ) (w : Option (Mark L)) → Exact a w → (ceiling : Ceiling L) → Falls c.ops ceiling (met c a u w ceiling)
  met_falls a u None exact ceiling = λ x h. h
  met_falls a u (Some m) exact ceiling = rw exact (lowered_ind (c.ops.plus a m.label) u ceiling (Falls c.ops ceiling) (λ falls. falls) (λ h x k. k))

  -- and is at most the sum of the two labels
  pub met_le : (a : L) (u : ℕ) (w : Option (Mark L)) → Exact a w → (ceiling : Ceiling L) → On w (λ m. CeilLe c.ops (met c a u w ceiling) (c.ops.plus a m.label))
  met_le a u None exact ceiling = tt
  met_le a u (Some m) exact ceiling = rw exact (lowered_ind (c.ops.plus a m.label) u ceiling (λ t. CeilLe c.ops t (c.ops.plus a m.label)) (λ falls. laws.le_refl _) (λ h. h))

module _ {C L S : Type 0} (p : Problem C L S) (laws : Laws p.kind.ops) where
  -- the sides change places
  pub joint_turned : (f w : Marks L) (ceiling : Ceiling L) → Joint p f w ceiling → Joint p w f ceiling
  joint_turned f w ceiling joint v =
      on_from (w v) _ (λ b wb. on_from (f v) _ (λ a fa. rw (laws.comm b.label a.label) (on_at (w v) _ b wb (on_at (f v) _ a fa (joint v)))))

  pub meeting_turned : (f w : Marks L) (ceiling : Ceiling L) → Meeting p f w ceiling → Meeting p w f ceiling
  meeting_turned f w Absent meeting = tt
  meeting_turned f w (Met x m) meeting =
      let (a, fa, has) = has_parts (f m) _ meeting in
      let (b, wb, is) = has_parts (w m) _ has in
      has_from (w m) _ b wb (has_from (f m) _ a fa (is ∙ laws.comm a.label b.label))

  -- a sum with q is not at most the same sum with a, which is below q
  undercut : (x a q b : L) → p.kind.ops.leb q a ≡ false → x ≡ p.kind.ops.plus q b → Le p.kind.ops x (p.kind.ops.plus a b) → ⊥
  undercut x a q b below is le = true≢false (sym (laws.le_cancel q a b (rw is at le)) ∙ below)

  -- a better label a is put at v
  module _ (f g w : Marks L) (v : ℕ) (a : L) (k : Option ℕ) (puts : Puts f v (opened_mark a k) g) (exact : On (w v) (λ m. computed_sum p.kind a m.label ≡ p.kind.ops.plus a m.label)) (ceiling : Ceiling L) where
    -- the ceiling is still at most the sum of two labels of one station
    pub joint_met : Joint p f w ceiling → Joint p g w (met p.kind a v (w v) ceiling)
    joint_met joint i =
        let now = met p.kind a v (w v) ceiling in
        puts_ind puts i (λ x. On x (λ m. On (w i) (λ b. CeilLe p.kind.ops now (p.kind.ops.plus m.label b.label))))
        (λ e. rw e (met_le p.kind laws a v (w v) exact ceiling))
        (λ ne. on_map (f i) _ _ (λ m h. on_map (w i) _ _ (λ b l. met_falls p.kind laws a v (w v) exact ceiling _ l) h) (joint i))

    -- where the ceiling stays it has another station than v, since the better label would lower it
    kept : (now : Ceiling L) → On (f v) (λ m. p.kind.ops.leb m.label a ≡ false) → Meeting p f w now → On (w v) (λ m. CeilLe p.kind.ops now (p.kind.ops.plus a m.label)) → Meeting p g w now
    kept Absent better meeting le = tt
    kept (Met x m) better meeting le =
        puts_ind puts m (λ y. Has y (λ q. Has (w m) (λ b. x ≡ p.kind.ops.plus q.label b.label)))
        (λ e.
        absurd
        (let (q, fq, has) = has_parts (f v) _ (rw e at meeting) in
        let (b, wb, is) = has_parts (w v) _ has in
        undercut x a q.label b.label (on_at (f v) _ q fq better) is (on_at (w v) _ b wb le)))
        (λ ne. meeting)

    -- and still such a sum itself
    pub meeting_met : On (f v) (λ m. p.kind.ops.leb m.label a ≡ false) → Meeting p f w ceiling → Meeting p g w (met p.kind a v (w v) ceiling)
    meeting_met better meeting =
        met_ind p.kind laws a v (w v) exact ceiling (Meeting p g w)
        (on_from (w v) _ (λ b wb. has_from (g v) _ _ puts.here (has_from (w v) _ b wb refl)))
        (kept ceiling better meeting)
