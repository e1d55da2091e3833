-- A taken station's sections are gone through, one after the other.
use Rattle.std.proofs.Common.{◌≡◌, ℕ, zero, suc, ◌*◌, ◌-◌, ◌^◌, ◌<◌, ◌≤◌, true, false, true≢false, not, ◌⊎◌, ⊎_elim, inl, inr, List, [], ◌∷◌, length, Some, None, Option, sym, refl, ap, ◌∙◌, subst, arith}
use Rattle.std.specs.List.{slice_get, count_by}
use Rattle.std.proofs.lemmas.Bool.{cond_both, and_parts, and_cases, not-true, not-false, cases_eq, lt-ltb, eqb-true, eq-eqb}
use Rattle.std.proofs.lemmas.Option.{none-some, same_Some}
use Rattle.amounts.specs.Amount.{Le}
use Rattle.amounts.specs.declared.cost.Cost as cost
use Rattle.faults.specs.Faults.{opposite}
use Rattle.faults.specs.declared.Side.{Side}
use Rattle.networks.specs.declared.section.Section.{Section}
use Rattle.networks.specs.Nets.{tail, starts, starters, head}
use Rattle.networks.proofs.Rolls.{roll_of}
use Rattle.optimality.specs.declared.sheet.Mark.{Mark}
use Rattle.optimality.specs.declared.sheet.Row.{Row}
use Rattle.optimality.specs.declared.sheet.Front.{Front}
use Rattle.optimality.specs.declared.sheet.Ceiling.{Ceiling}
use Rattle.optimality.specs.Sheets.{is_closed, put, State}
use Rattle.optimality.specs.Problems.{Problem, Fair, Consistent, Arc}
use Rattle.optimality.specs.Keys.{opened_mark, computed_sum, met, improves}
use Rattle.optimality.specs.Search.{mark_at, Spread, reach, along, spread, closing}
use Rattle.optimality.proofs.Marked.{On, Has}
use Rattle.optimality.proofs.Having.{on_at, has_from, has_parts}
use Rattle.optimality.proofs.Moving.{on_map, has_then}
use Rattle.optimality.proofs.Exact.{key_along, key_cancel, candidate_is, labels_sum_is}
use Rattle.optimality.proofs.Walks.{chain_size}
use Rattle.optimality.proofs.Fronts.{seen_small}
use Rattle.optimality.proofs.Invariant.{Marks, row_closed, Next, Stands}
use Rattle.optimality.proofs.Putting.{puts_ind, put_puts, put_other, length-put, count_kept}
use Rattle.optimality.proofs.Ceilings.{Falls, met_falls}
use Rattle.optimality.proofs.Going.{Going, closing_going, Low, goes_on, putting_going}
use Rattle.optimality.proofs.Sides.{part_of}
use Rattle.optimality.proofs.Closing.{closing_puts, closing_other, closing_long}

-- k is among the numbers
abbrev pub Among : List ℕ → ℕ → Type 0
Among ks k = (i : ℕ) × (slice_get ks i ≡ Some k)

-- what is another than the first is among the rest
among_next : (k j : ℕ) (ks : List ℕ) → (j ≡ k → ⊥) → Among (k ∷ ks) j → Among ks j
among_next k j ks ne (zero, e) = absurd (ne (sym (same_Some k j e)))
among_next k j ks ne (suc i, e) = (i, e)

module _ {C L S : Type 0} (c : cost.Ghosts C L S) (a : L) where
  -- a candidate that improves what is there
  improves_yes : (m : Option (Mark L)) → improves c a m ≡ true → On m (λ q. (q.closed ≡ false) × (c.ops.leb q.label a ≡ false))
  improves_yes None e = tt
  improves_yes (Some m) e = let both = and_parts (not m.closed) _ e in (not-true _ both.0, not-true _ both.1)

  -- and one that does not
  improves_no : (m : Option (Mark L)) → improves c a m ≡ false → Has m (λ q. (q.closed ≡ true) ⊎ Le c.ops q.label a)
  improves_no None e = true≢false e
  improves_no (Some m) e = ⊎_elim (λ h. inl (not-false _ h)) (λ h. inr (not-false _ h)) (and_cases (not m.closed) _ e)

module _ {C L S : Type 0} (p : Problem C L S) (side : Side) where
  -- What going through sections leaves as it is; and the ceiling has not risen.
  pub record Keeps (from to : Spread C L S) : Type 0 where
    pub falls : Falls p.kind.ops from.ceiling to.ceiling
    pub closed : (i : ℕ) → is_closed (mark_at p.kind to.rows side i) ≡ is_closed (mark_at p.kind from.rows side i)
    pub other : mark_at p.kind to.rows (opposite side) ≡ mark_at p.kind from.rows (opposite side)
    pub long : length to.rows ≡ length from.rows
    pub counted : count_by row_closed to.rows ≡ count_by row_closed from.rows

  -- The front r is closed after n others, at `from`, and the sections that wait have not been gone through.
  pub record Gone (r : Front L) (n : ℕ) (from : Spread C L S) (Waits : ℕ → Type 0) (sp : Spread C L S) : Type 0 where
    pub going : Going p side r n (mark_at p.kind from.rows (opposite side)) (mark_at p.kind sp.rows side) sp.ceiling Waits
    pub keeps : Keeps from sp

-- what is there is open
open_there : {L : Type 0} (m : Option (Mark L)) (P : Mark L → Type 0) → On m (λ q. (q.closed ≡ false) × P q) → is_closed m ≡ false
open_there None P h = refl
open_there (Some q) P h = h.0

module _ {C L S : Type 0} (p : Problem C L S) (side : Side) where
  -- an open mark is put where the side was not closed
  keeps_put : (from sp : Spread C L S) → Keeps p side from sp → (v : ℕ) → v < length sp.rows → (a : L) (k : Option ℕ) → p.kind.ops.size a < 2 ^ 44 → is_closed (mark_at p.kind sp.rows side v) ≡ false → (ceiling : Ceiling L) → Falls p.kind.ops sp.ceiling ceiling → Keeps p side from (record { rows = put sp.rows side v (opened_mark a k); ceiling = ceiling })
  keeps_put from sp keeps v inside a k small was ceiling falls =
      record {
        falls = λ x h. falls x (keeps.falls x h);
        closed = λ i.
            puts_ind (put_puts p.kind sp.rows v inside side (opened_mark a k) small) i (λ m. is_closed m ≡ is_closed (mark_at p.kind from.rows side i)) (λ e. rw e (sym was ∙ keeps.closed v)) (λ ne. keeps.closed i);
        other = put_other p.kind sp.rows v inside side (opened_mark a k) ∙ keeps.other;
        long = length-put sp.rows side v (opened_mark a k) ∙ keeps.long;
        counted = count_kept p.kind sp.rows v inside side (opened_mark a k) was ∙ keeps.counted;
      }

module _ {C L S : Type 0} (p : Problem C L S) (fair : Fair p) (con : Consistent p) (side : Side) (r : Front L) (n : ℕ) (few : n < 4096) (from : Spread C L S) (long : length from.rows ≡ p.net.stations) where
  module _ (k : ℕ) (ks : List ℕ) (s : Section S) (there : slice_get p.net.sections k ≡ Some s) (leaves : tail side s ≡ r.station) where
    abbrev v : ℕ
    v = head side s

    abbrev a : L
    a = p.kind.ops.plus r.label (p.kind.worth s.amount)

    -- section k is done with
    done : (sp : Spread C L S) → (s.shut ≡ false → Low p side r (mark_at p.kind sp.rows side) s) → Gone p side r n from (Among (k ∷ ks)) sp → Gone p side r n from (Among ks) sp
    done sp low gone =
        let f = mark_at p.kind sp.rows side in
        let here : (x : Section S) → Arc p k x → (tail side x ≡ r.station) × Low p side r f x =
        λ x arc. let same = same_Some s x (sym there ∙ arc.0) in rw (← same) (leaves, low (ap (λ y. y.shut) same ∙ arc.1)) in
        record {
          going = goes_on p side r n _ f sp.ceiling (Among (k ∷ ks)) (Among ks) (λ j x arc free. ⊎_elim (λ e. inr (here x (subst (λ i. Arc p i x) e arc))) (λ ne. inl (λ among. free (among_next k j ks ne among))) (cases_eq j k)) gone.going;
          keeps = gone.keeps;
        }

    module _ (sp : Spread C L S) (gone : Gone p side r n from (Among (k ∷ ks)) sp) where
      abbrev f : Marks L
      f = mark_at p.kind sp.rows side

      -- the label is small, and so is the candidate, as walks of so few sections are
      label_small : p.kind.ops.size r.label ≤ n * (2 ^ 32 - 1)
      label_small = chain_size p fair side f n r.station r.label r.arrival gone.going.base

      a_small : p.kind.ops.size a < 2 ^ 44
      a_small = let fit = fair.fit k s there in omega (arith, fair.laws.size_plus r.label (p.kind.worth s.amount), label_small)

      -- a label that the candidate does not improve is low enough
      low : s.shut ≡ false → improves p.kind a (f v) ≡ false → Low p side r f s
      low arc e =
          let (q, fq, either) = has_parts (f v) _ (improves_no p.kind a (f v) e) in
          has_from (f v) _ q fq
          (⊎_elim
          (λ t. key_cancel p fair side v q.label a (fair.laws.le_trans _ _ _ (on_at (f v) _ q fq (gone.going.highest v) t) (rw leaves at (key_along p fair con side k s r.label (there, arc)))))
          (λ le. le)
          either)

      -- an improving candidate is put
      placed : s.shut ≡ false → improves p.kind a (f v) ≡ true → Gone p side r n from (Among ks) (record { rows = put sp.rows side v (opened_mark a (Some k)); ceiling = met p.kind a v (mark_at p.kind sp.rows (opposite side) v) sp.ceiling })
      placed arc e =
          let m = opened_mark a (Some k) in
          let end = fair.ends k s (opposite side) there in
          let inside : v < length sp.rows = omega (arith, gone.keeps.long) in
          let puts = put_puts p.kind sp.rows v inside side m a_small in
          let better = improves_yes p.kind a (f v) e in
          let exact : (rows : List (Row C L S)) → On (mark_at p.kind rows (opposite side) v) (λ q. computed_sum p.kind a q.label ≡ p.kind.ops.plus a q.label) =
          λ rows. on_map (mark_at p.kind rows (opposite side) v) _ _ (λ q. labels_sum_is p fair a q.label a_small) (seen_small p.kind fair.laws rows (opposite side) v) in
          done (record { rows = put sp.rows side v m; ceiling = met p.kind a v (mark_at p.kind sp.rows (opposite side) v) sp.ceiling }) (λ o. has_from _ _ m puts.here (fair.laws.le_refl a))
          (record {
            going = subst (λ q. Going p side r n (mark_at p.kind from.rows (opposite side)) (mark_at p.kind (put sp.rows side v m) side) (met p.kind a v q sp.ceiling) (Among (k ∷ ks))) (ap (λ h. h v) (sym gone.keeps.other)) (putting_going p fair con side r n _ f sp.ceiling (Among (k ∷ ks)) gone.going k s (there, arc) leaves better _ puts (exact from.rows));
            keeps = keeps_put p side from sp gone.keeps v inside a (Some k) a_small (open_there (f v) _ better) _ (met_falls p.kind fair.laws a v (mark_at p.kind sp.rows (opposite side) v) (exact sp.rows) sp.ceiling);
          })

      -- the candidate is looked at
      reached : s.shut ≡ false → Has (reach p.kind side k v a sp) (Gone p side r n from (Among ks))
      reached arc =
          cond_both (improves p.kind a (f v)) _ (Some sp) (λ x. Has x (Gone p side r n from (Among ks))) (λ e. rw (lt-ltb _ _ a_small) (placed arc e)) (λ e. done sp (λ o. low o e) gone)

      -- and so is section k
      along_gone : Has (along p.kind side r.label k (slice_get p.net.sections k) sp) (Gone p side r n from (Among ks))
      along_gone = rw there (cond_both s.shut (Some sp) _ (λ x. Has x (Gone p side r n from (Among ks))) (λ e. done sp (λ o. absurd (true≢false (sym e ∙ o))) gone) (λ e. rw (candidate_is p fair k s r.label there (omega (arith, label_small))) (reached e)))

  -- once none is left none waits
  none_waits : (sp : Spread C L S) → Gone p side r n from (Among []) sp → Gone p side r n from (λ k. ⊥) sp
  none_waits sp gone = record {
    going = goes_on p side r n _ _ sp.ceiling (Among []) (λ k. ⊥) (λ k s arc free. inl (λ among. none-some k among.1)) gone.going;
    keeps = gone.keeps;
  }

  -- the numbered sections, one after the other
  spread_gone : (ks : List ℕ) → ((i k : ℕ) → slice_get ks i ≡ Some k → (s : Section S) × (slice_get p.net.sections k ≡ Some s) × (starts side r.station s ≡ true)) → (sp : Spread C L S) → Gone p side r n from (Among ks) sp → Has (spread p.kind p.net side r.label ks sp) (Gone p side r n from (λ k. ⊥))
  spread_gone [] each sp gone = none_waits sp gone
  spread_gone (k ∷ ks) each sp gone =
      let (s, there, leaves) = each 0 k refl in
      has_then (spread p.kind p.net side r.label ks) (along p.kind side r.label k (slice_get p.net.sections k) sp) _ _
      (along_gone k ks s there (eqb-true _ _ leaves) sp gone)
      (spread_gone ks (λ i j. each (suc i) j))

module _ {C L S : Type 0} (p : Problem C L S) (fair : Fair p) (con : Consistent p) (side : Side) (r : Front L) (st : State C L S) (n : Side → ℕ) (stands : Stands p st n) (next : Next p side (mark_at p.kind st.rows side) r) where
  -- the front is closed, and all its sections wait
  closed_gone : Gone p side r (n side) (closing side r st) (Among (starters side p.net r.station)) (closing side r st)
  closed_gone =
      let roll = roll_of (starts side r.station) p.net.sections in
      record {
        going = subst (λ w. Going p side r (n side) w (mark_at p.kind (closing side r st).rows side) st.ceiling (Among (starters side p.net r.station))) (sym (closing_other p fair st side r stands.long next))
            (closing_going p fair side r (n side) _ _ _ next (closing_puts p fair st side r stands.long next) (stands.sides side) st.ceiling (stands.joint side) (stands.meeting side) _ (λ k s arc leaves. roll.complete k s arc.0 (eq-eqb _ _ leaves)));
        keeps = record { falls = λ x h. h; closed = λ i. refl; other = refl; long = refl; counted = refl };
      }

  -- what is there once all of them are gone through
  pub spread_leaves : Has (spread p.kind p.net side r.label (starters side p.net r.station) (closing side r st)) (Gone p side r (n side) (closing side r st) (λ k. ⊥))
  spread_leaves =
      let few : n side < 4096 = omega (arith, part_of side n, stands.counted, stands.few, fair.few) in
      let roll = roll_of (starts side r.station) p.net.sections in
      spread_gone p fair con side r (n side) few (closing side r st) (closing_long p fair st side r stands.long next) _ roll.nothing_else (closing side r st) closed_gone
