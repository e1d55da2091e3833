-- A search that was just opened stands.
use Rattle.std.proofs.Common.{◌≡◌, ℕ, ◌+◌, ◌<◌, Bool, true, false, true≢false, cond, List, [], ◌∷◌, map, Some, None, Option, option_map, ◌==◌, ⊎_elim, sym, refl, ap, ap₂, ◌∙◌, subst, arith}
use Rattle.std.specs.List.{slice_get, count_by, range_with_len}
use Rattle.std.proofs.lemmas.Bool.{cond_both, cases_lt, or_from, eqb-true, eq-eqb}
use Rattle.std.proofs.lemmas.List.FromFn.{length-map-range_with_len, get_or-map-range_with_len}
use Rattle.std.proofs.lemmas.List.Sums.{sum_by-cons}
use Rattle.std.proofs.lemmas.Option.{slice_get-get_or, slice_get_past}
use Rattle.faults.specs.Faults.{opposite}
use Rattle.faults.specs.declared.Side.{Side}
use Rattle.faults.specs.declared.Side.TheVariants.{Forward, Backward}
use Rattle.networks.specs.Nets.{tail}
use Rattle.optimality.specs.declared.sheet.Mark.{Mark}
use Rattle.optimality.specs.declared.sheet.Ceiling.TheVariants.{Absent, Met}
use Rattle.optimality.specs.Sheets.{is_closed, mark_on, blank_row}
use Rattle.optimality.specs.Problems.{Problem, Fair, start}
use Rattle.optimality.specs.Keys.{opened_mark, first_mark, seen}
use Rattle.optimality.specs.Search.{mark_in, mark_at, first_row, opened}
use Rattle.optimality.proofs.Marked.{On, CeilLe}
use Rattle.optimality.proofs.Having.{has_from}
use Rattle.optimality.proofs.Group.{le_of_eq}
use Rattle.optimality.proofs.Invariant.{Marks, Chain, SideStands, Joint, Meeting, Stands, row_closed}
use Rattle.optimality.proofs.Putting.{reads}
use Rattle.optimality.proofs.Sides.{both_ways}
use Rattle.optimality.proofs.Ceilings.{joint_turned, meeting_turned}

module _ {C L S : Type 0} (p : Problem C L S) (fair : Fair p) where
  -- what a side reads
  abbrev first : Side → Marks L
  first side = mark_at p.kind (opened p).rows side

  -- the start's mark
  abbrev first_one : Mark L
  first_one = opened_mark p.kind.ops.zero None

  -- a row, by side
  row_by : (side : Side) (u : ℕ) → mark_on side (first_row p.kind p.net u) ≡ first_mark p.kind (u == start p.net side)
  row_by Forward u = refl
  row_by Backward u = refl

  -- a station's row
  row_there : (u : ℕ) → u < p.net.stations → slice_get (opened p).rows u ≡ Some (first_row p.kind p.net u)
  row_there u lt =
      slice_get-get_or (opened p).rows u blank_row (omega (arith, length-map-range_with_len (first_row p.kind p.net) 0 p.net.stations))
      ∙ ap Some (get_or-map-range_with_len (first_row p.kind p.net) 0 p.net.stations u u blank_row lt (omega arith))

  -- zero is read as it is
  zero_reads : seen p.kind first_one ≡ first_one
  zero_reads = reads p.kind first_one (omega (arith, fair.laws.size_zero))

  -- what a side reads at a station
  first_there : (side : Side) (u : ℕ) → u < p.net.stations → first side u ≡ first_mark p.kind (u == start p.net side)
  first_there side u lt =
      ap (λ r. option_map (seen p.kind) (mark_in side r)) (row_there u lt)
      ∙ ap (option_map (seen p.kind)) (row_by side u)
      ∙ cond_both (u == start p.net side) (Some first_one) None (λ m. option_map (seen p.kind) m ≡ m) (λ e. ap Some zero_reads) (λ e. refl)

  -- only the start has a mark
  first_ind : (side : Side) (u : ℕ) (P : Option (Mark L) → Type 0) → (u ≡ start p.net side → P (Some first_one)) → P None → P (first side u)
  first_ind side u P here elsewhere =
      ⊎_elim
      (λ lt. subst P (sym (first_there side u lt)) (cond_both (u == start p.net side) (Some first_one) None P (λ e. here (eqb-true _ _ e)) (λ e. elsewhere)))
      (λ le. subst P (sym (ap (λ r. option_map (seen p.kind) (mark_in side r)) (slice_get_past (opened p).rows u (omega (arith, length-map-range_with_len (first_row p.kind p.net) 0 p.net.stations))))) elsewhere)
      (cases_lt u p.net.stations)

  -- and it has it
  at_start : (side : Side) → first side (start p.net side) ≡ Some first_one
  at_start side = first_there side (start p.net side) (fair.starts side) ∙ ap (first_mark p.kind) (eq-eqb _ _ refl)

  -- no mark is closed
  none_closed : (side : Side) (u : ℕ) (P : Mark L → Type 0) → On (first side u) (λ m. m.closed ≡ true → P m)
  none_closed side u P = first_ind side u (λ x. On x (λ m. m.closed ≡ true → P m)) (λ e t. absurd (true≢false (sym t))) tt

  -- so nothing is closed
  first_open : (side : Side) (u : ℕ) → is_closed (first side u) ≡ false
  first_open side u = first_ind side u (λ m. is_closed m ≡ false) (λ e. refl) refl

  -- each side stands, with no station closed
  opened_side : (side : Side) → SideStands p side (first side) 0 (λ k. ⊥)
  opened_side side =
      record {
        begun = rw (at_start side) (fair.laws.le_refl p.kind.ops.zero);
        relaxed = λ k s arc free. none_closed side (tail side s) _;
        sorted = λ u v. none_closed side u _;
        chained = λ v. first_ind side v (λ m. On m (λ a. Chain p side (first side) 0 v a.label a.arrival)) (λ e. (e, refl)) tt;
      }

  -- the ceiling stands where the launcher is the trap
  joint : Joint p (first Forward) (first Backward) (opened p).ceiling
  joint v =
      let ceiling = (opened p).ceiling in
      first_ind Forward v (λ x. On x (λ a. On (first Backward v) (λ b. CeilLe p.kind.ops ceiling (p.kind.ops.plus a.label b.label))))
      (λ e. first_ind Backward v (λ x. On x (λ b. CeilLe p.kind.ops ceiling (p.kind.ops.plus p.kind.ops.zero b.label))) (λ k. rw (eq-eqb _ _ (sym e ∙ k)) (le_of_eq fair.laws _ _ (sym (fair.laws.unit p.kind.ops.zero)))) tt)
      tt

  -- and there it is the sum of the two labels
  meeting : Meeting p (first Forward) (first Backward) (opened p).ceiling
  meeting =
      cond_both (p.net.launcher == p.net.trap) (Met p.kind.ops.zero p.net.launcher) Absent (Meeting p (first Forward) (first Backward))
      (λ e.
      has_from (first Forward p.net.launcher) _ first_one (at_start Forward)
      (has_from (first Backward p.net.launcher) _ first_one (ap (first Backward) (eqb-true _ _ e) ∙ at_start Backward) (sym (fair.laws.unit p.kind.ops.zero))))
      (λ e. tt)

  -- whether or not a row has a mark at first, none is closed
  mark_open : (b : Bool) → is_closed (first_mark p.kind b) ≡ false
  mark_open true = refl
  mark_open false = refl

  -- so no row is closed
  tallied : (us : List ℕ) → count_by row_closed (map (first_row p.kind p.net) us) ≡ 0
  tallied [] = refl
  tallied (u ∷ us) =
      sum_by-cons (λ r. cond (row_closed r) 1 0) (first_row p.kind p.net u) (map (first_row p.kind p.net) us)
      ∙ ap₂ (λ b n. cond b 1 0 + n) (or_from _ _ (mark_open (u == p.net.launcher)) (mark_open (u == p.net.trap))) (tallied us)

  -- the opened search stands
  pub opened_stands : Stands p (opened p) (λ side. 0)
  opened_stands = record {
    long = length-map-range_with_len (first_row p.kind p.net) 0 p.net.stations;
    sides = opened_side;
    joint = both_ways (λ f w. Joint p f w (opened p).ceiling) (λ f w. joint_turned p fair.laws f w (opened p).ceiling) first Forward joint;
    meeting = both_ways (λ f w. Meeting p f w (opened p).ceiling) (λ f w. meeting_turned p fair.laws f w (opened p).ceiling) first Forward meeting;
    once = λ side u t. first_open (opposite side) u;
    counted = refl;
    tallied = tallied (range_with_len 0 p.net.stations);
    few = let start = fair.starts Forward in omega arith;
  }
