-- A station is closed, and its sections are gone through: what one side's marks say meanwhile.
use Rattle.std.proofs.Common.{◌≡◌, ℕ, suc, true, false, true≢false, ◌⊎◌, ⊎_elim, Some, Option, sym, refl, ap, ◌∙◌}
use Rattle.amounts.specs.Amount.{Le}
use Rattle.faults.specs.declared.Side.{Side}
use Rattle.networks.specs.declared.section.Section.{Section}
use Rattle.networks.specs.Nets.{tail, head}
use Rattle.optimality.specs.declared.sheet.Mark.{Mark}
use Rattle.optimality.specs.declared.sheet.Front.{Front}
use Rattle.optimality.specs.declared.sheet.Ceiling.{Ceiling}
use Rattle.optimality.specs.declared.sheet.Ceiling.TheVariants.{Absent, Met}
use Rattle.optimality.specs.Problems.{Problem, Fair, Consistent, Arc, start}
use Rattle.optimality.specs.Keys.{opened_mark, computed_sum, met}
use Rattle.optimality.proofs.Marked.{On, Has, CeilLe}
use Rattle.optimality.proofs.Having.{on_at, on_from, has_from, has_parts}
use Rattle.optimality.proofs.Moving.{on_map}
use Rattle.optimality.proofs.Group.{le_of_not}
use Rattle.optimality.proofs.Exact.{key_along}
use Rattle.optimality.proofs.Walks.{chain_kept, chain_more}
use Rattle.optimality.proofs.Invariant.{Marks, Chain, SideStands, Joint, Meeting, Next, key_at}
use Rattle.optimality.proofs.Putting.{Puts, puts_ind}
use Rattle.optimality.proofs.Ceilings.{joint_met, meeting_met}

-- the mark of a front, once its station is closed
abbrev pub closed_mark : {L : Type 0} → Front L → Mark L
closed_mark r = record { label = r.label; arrival = r.arrival; closed = true }

-- The front r is closed after n others: f has the side's marks, w the other side's, and the sections that wait have not
-- been gone through.
pub record Going {C L S : Type 0} (p : Problem C L S) (side : Side) (r : Front L) (n : ℕ) (w f : Marks L) (ceiling : Ceiling L) (Waits : ℕ → Type 0) : Type 0 where
  pub stands : SideStands p side f (suc n) Waits
  pub taken : f r.station ≡ Some (closed_mark r)
  pub highest : (v : ℕ) → On (f v) (λ m. m.closed ≡ true → Le p.kind.ops (key_at p side v m.label) (key_at p side r.station r.label))
  pub base : Chain p side f n r.station r.label r.arrival
  pub joint : Joint p f w ceiling
  pub meeting : Meeting p f w ceiling

-- Closing --------------------------------------------------------------------------------------

module _ {C L S : Type 0} (p : Problem C L S) (fair : Fair p) (side : Side) (r : Front L) (n : ℕ) (w f g : Marks L) (next : Next p side f r) (puts : Puts f r.station (closed_mark r) g) where
  -- the labels and the arrivals are what they were
  on_same : (i : ℕ) (P : L → Option ℕ → Type 0) → On (f i) (λ m. P m.label m.arrival) → On (g i) (λ m. P m.label m.arrival)
  on_same i P h = puts_ind puts i (λ x. On x (λ m. P m.label m.arrival)) (λ e. on_at (f r.station) _ _ next.marked (rw e at h)) (λ ne. h)

  has_same : (i : ℕ) (P : L → Option ℕ → Type 0) → Has (f i) (λ m. P m.label m.arrival) → Has (g i) (λ m. P m.label m.arrival)
  has_same i P h = puts_ind puts i (λ x. Has x (λ m. P m.label m.arrival)) (λ e. rw next.marked at (rw e at h)) (λ ne. h)

  -- what was closed is as it was
  kept : (i : ℕ) → On (f i) (λ m. m.closed ≡ true → g i ≡ Some m)
  kept i = on_from (f i) _ (λ m fm t. puts_ind puts i (λ x. x ≡ Some m) (λ e. let was = next.marked in cc) (λ ne. fm))

  -- no closed key is above an open one
  closed_sorted : SideStands p side f n (λ k. ⊥) → (i j : ℕ) → On (g i) (λ a. a.closed ≡ true → On (g j) (λ b. b.closed ≡ false → Le p.kind.ops (key_at p side i a.label) (key_at p side j b.label)))
  closed_sorted stands i j =
      puts_ind puts i (λ x. On x (λ a. a.closed ≡ true → On (g j) (λ b. b.closed ≡ false → Le p.kind.ops (key_at p side i a.label) (key_at p side j b.label))))
      (λ e t. rw (e, ← next.its_key) (still j _ (next.least j)))
      (λ ne. on_map (f i) _ _ (λ a h t. still j _ (h t)) (stands.sorted i j))
    where
      -- no new station is open
      still : (j : ℕ) (P : L → Type 0) → On (f j) (λ b. b.closed ≡ false → P b.label) → On (g j) (λ b. b.closed ≡ false → P b.label)
      still j P h = puts_ind puts j (λ x. On x (λ b. b.closed ≡ false → P b.label)) (λ e o. absurd (true≢false o)) (λ ne. h)

  -- no closed key is above that of r
  closed_highest : SideStands p side f n (λ k. ⊥) → (v : ℕ) → On (g v) (λ m. m.closed ≡ true → Le p.kind.ops (key_at p side v m.label) (key_at p side r.station r.label))
  closed_highest stands v =
      puts_ind puts v (λ x. On x (λ m. m.closed ≡ true → Le p.kind.ops (key_at p side v m.label) (key_at p side r.station r.label)))
      (λ e t. rw e (fair.laws.le_refl _))
      (λ ne. on_map (f v) _ _ (λ m h t. on_at (f r.station) (λ b. b.closed ≡ false → Le p.kind.ops (key_at p side v m.label) (key_at p side r.station b.label)) _ next.marked (h t) refl) (stands.sorted v r.station))

  -- the ceiling's station has the labels that it had
  closed_meeting : (ceiling : Ceiling L) → Meeting p f w ceiling → Meeting p g w ceiling
  closed_meeting Absent meeting = tt
  closed_meeting (Met x m) meeting = has_same m (λ label arrival. Has (w m) (λ b. x ≡ p.kind.ops.plus label b.label)) meeting

  -- the front is closed, and all its sections wait
  pub closing_going : SideStands p side f n (λ k. ⊥) → (ceiling : Ceiling L) → Joint p f w ceiling → Meeting p f w ceiling → (Waits : ℕ → Type 0) → ((k : ℕ) (s : Section S) → Arc p k s → tail side s ≡ r.station → Waits k) → Going p side r n w g ceiling Waits
  closing_going stands ceiling joint meeting Waits all_wait =
      let stays : (v : ℕ) → On (f v) (λ m. Chain p side g n v m.label m.arrival) = λ v. on_map (f v) _ _ (λ m. chain_kept p side f g kept n v m.label m.arrival) (stands.chained v) in
      record {
        stands = record {
          begun = has_same (start p.net side) (λ label arrival. Le p.kind.ops label p.kind.ops.zero) stands.begun;
          relaxed = λ k s arc free.
              puts_ind puts (tail side s) (λ x. On x (λ m. m.closed ≡ true → Has (g (head side s)) (λ h. Le p.kind.ops h.label (p.kind.ops.plus m.label (p.kind.worth s.amount)))))
              (λ e. absurd (free (all_wait k s arc e)))
              (λ ne. on_map (f (tail side s)) _ _ (λ m h t. has_same (head side s) (λ label arrival. Le p.kind.ops label (p.kind.ops.plus m.label (p.kind.worth s.amount))) (h t)) (stands.relaxed k s arc (λ no. no)));
          sorted = closed_sorted stands;
          chained = λ v. on_same v (λ label arrival. Chain p side g (suc n) v label arrival) (on_map (f v) _ _ (λ m. chain_more p side g n v m.label m.arrival) (stays v));
        };
        taken = puts.here;
        highest = closed_highest stands;
        base = on_at (f r.station) _ _ next.marked (stays r.station);
        joint = λ v. on_same v (λ label arrival. On (w v) (λ b. CeilLe p.kind.ops ceiling (p.kind.ops.plus label b.label))) (joint v);
        meeting = closed_meeting ceiling meeting;
      }

-- Labelling ------------------------------------------------------------------------------------

-- the section's other end has a label that is low enough
abbrev pub Low : {C L S : Type 0} → Problem C L S → Side → Front L → Marks L → Section S → Type 0
Low p side r f s = Has (f (head side s)) (λ h. Le p.kind.ops h.label (p.kind.ops.plus r.label (p.kind.worth s.amount)))

module _ {C L S : Type 0} (p : Problem C L S) (side : Side) (r : Front L) (n : ℕ) (w f : Marks L) (ceiling : Ceiling L) where
  -- a section whose other end has one needs to wait no longer
  pub goes_on : (Waits Still : ℕ → Type 0) → ((k : ℕ) (s : Section S) → Arc p k s → (Still k → ⊥) → (Waits k → ⊥) ⊎ ((tail side s ≡ r.station) × Low p side r f s)) → Going p side r n w f ceiling Waits → Going p side r n w f ceiling Still
  goes_on Waits Still done going =
      record {
        stands = record {
          begun = going.stands.begun;
          relaxed = λ k s arc free. ⊎_elim (going.stands.relaxed k s arc) (λ d. rw (d.0, going.taken) (λ t. d.1)) (done k s arc free);
          sorted = going.stands.sorted;
          chained = going.stands.chained;
        };
        taken = going.taken;
        highest = going.highest;
        base = going.base;
        joint = going.joint;
        meeting = going.meeting;
      }

-- a better label a is put at the other end of section k, which leaves the front's station
module _ {C L S : Type 0} (p : Problem C L S) (fair : Fair p) (con : Consistent p) (side : Side) (r : Front L) (n : ℕ) (w f : Marks L) (ceiling : Ceiling L) (Waits : ℕ → Type 0) (going : Going p side r n w f ceiling Waits) (k : ℕ) (s : Section S) (arc : Arc p k s) (leaves : tail side s ≡ r.station) where
  abbrev v : ℕ
  v = head side s

  abbrev a : L
  a = p.kind.ops.plus r.label (p.kind.worth s.amount)

  module _ (better : On (f v) (λ m. (m.closed ≡ false) × (p.kind.ops.leb m.label a ≡ false))) (g : Marks L) (puts : Puts f v (opened_mark a (Some k)) g) where
    -- no label rises
    lower : (i : ℕ) (b : L) → Has (f i) (λ m. Le p.kind.ops m.label b) → Has (g i) (λ m. Le p.kind.ops m.label b)
    lower i b h =
        puts_ind puts i (λ x. Has x (λ m. Le p.kind.ops m.label b))
        (λ e. let (m, fm, le) = has_parts (f v) _ (rw e at h) in fair.laws.le_trans a m.label b (le_of_not fair.laws m.label a (on_at (f v) _ m fm better).1) le)
        (λ ne. h)

    -- what is closed is as it was
    unmoved : (i : ℕ) → On (f i) (λ m. m.closed ≡ true → g i ≡ Some m)
    unmoved i = on_from (f i) _ (λ m fm t. puts_ind puts i (λ x. x ≡ Some m) (λ e. let o = on_at (f v) _ m (rw e at fm) better in absurd (true≢false (sym t ∙ o.0))) (λ ne. fm))

    -- the front is closed still
    here : g r.station ≡ Some (closed_mark r)
    here = on_at (f r.station) _ _ going.taken (unmoved r.station) refl

    -- keys do not fall along the section
    rises : Le p.kind.ops (key_at p side r.station r.label) (key_at p side v a)
    rises = rw leaves at (key_along p fair con side k s r.label arc)

    -- no closed key is above an open one, the new one included
    put_sorted : (i j : ℕ) → On (g i) (λ m. m.closed ≡ true → On (g j) (λ b. b.closed ≡ false → Le p.kind.ops (key_at p side i m.label) (key_at p side j b.label)))
    put_sorted i j =
        puts_ind puts i (λ x. On x (λ m. m.closed ≡ true → On (g j) (λ b. b.closed ≡ false → Le p.kind.ops (key_at p side i m.label) (key_at p side j b.label))))
        (λ e t. absurd (true≢false (sym t)))
        (λ ne.
        on_from (f i) _
        (λ m fm t.
        puts_ind puts j (λ x. On x (λ b. b.closed ≡ false → Le p.kind.ops (key_at p side i m.label) (key_at p side j b.label)))
        (λ e o. rw e (fair.laws.le_trans _ _ _ (on_at (f i) _ m fm (going.highest i) t) rises))
        (λ ne. on_at (f i) _ m fm (going.stands.sorted i j) t)))

    -- the new label's arrival leads back through the front
    put_chained : (i : ℕ) → On (g i) (λ m. Chain p side g (suc n) i m.label m.arrival)
    put_chained i =
        puts_ind puts i (λ x. On x (λ m. Chain p side g (suc n) i m.label m.arrival))
        (λ e. (s, arc, sym e, has_from (g (tail side s)) _ (closed_mark r) (ap g leaves ∙ here) (refl, refl, rw leaves (chain_kept p side f g unmoved n r.station r.label r.arrival going.base))))
        (λ ne. on_map (f i) _ _ (λ m. chain_kept p side f g unmoved (suc n) i m.label m.arrival) (going.stands.chained i))

    -- all else stands too, with the ceiling that is met
    pub putting_going : On (w v) (λ m. computed_sum p.kind a m.label ≡ p.kind.ops.plus a m.label) → Going p side r n w g (met p.kind a v (w v) ceiling) Waits
    putting_going exact =
        record {
          stands = record {
            begun = lower (start p.net side) p.kind.ops.zero going.stands.begun;
            relaxed = λ j x arc free.
                puts_ind puts (tail side x) (λ y. On y (λ m. m.closed ≡ true → Has (g (head side x)) (λ h. Le p.kind.ops h.label (p.kind.ops.plus m.label (p.kind.worth x.amount)))))
                (λ e t. absurd (true≢false (sym t)))
                (λ ne. on_map (f (tail side x)) _ _ (λ m h t. lower (head side x) _ (h t)) (going.stands.relaxed j x arc free));
            sorted = put_sorted;
            chained = put_chained;
          };
          taken = here;
          highest = λ i.
              puts_ind puts i (λ x. On x (λ m. m.closed ≡ true → Le p.kind.ops (key_at p side i m.label) (key_at p side r.station r.label))) (λ e t. absurd (true≢false (sym t))) (λ ne. going.highest i);
          base = chain_kept p side f g unmoved n r.station r.label r.arrival going.base;
          joint = joint_met p fair.laws f g w v a (Some k) puts exact ceiling going.joint;
          meeting = meeting_met p fair.laws f g w v a (Some k) puts exact ceiling (on_map (f v) _ _ (λ m h. h.1) better) going.meeting;
        }
