-- What Open asks of the estimates: that they are consistent, and else which section breaks them first.
use Rattle.std.proofs.Common.{◌≡◌, ℕ, zero, suc, ◌+◌, ◌<◌, ◌≤◌, Bool, true, false, true≢false, cond, not, ◌&&◌, List, [], ◌∷◌, length, Some, None, Option, option_map, inl, ◌==◌, nat_lt, refl, sym, ap, subst, ◌∙◌, arith}
use Rattle.std.proofs.lemmas.Bool.{ltb-true, ltb-false, eqb-true, eqb-false}
use Rattle.std.proofs.lemmas.Option.{none-some}
use Rattle.std.specs.List.{slice_get}
use Rattle.amounts.specs.Amount.{Le}
use Rattle.faults.specs.declared.Side.{Side}
use Rattle.faults.specs.declared.Side.TheVariants.{Forward, Backward}
use Rattle.faults.specs.Faults.{number_of}
use Rattle.faults.specs.declared.Refusal.{Refusal}
use Rattle.faults.specs.declared.Refusal.TheVariants.{Inconsistent, TooFewRows, EstimateCount}
use Rattle.faults.specs.declared.Layer.TheVariants as layer
use Rattle.faults.specs.Reasons.{Reasons, refused_if, else_accepted}
use Rattle.faults.proofs.InOrder.{named, passed}
use Rattle.networks.specs.declared.section.Section.{Section}
use Rattle.networks.specs.Nets.{tail, head}
use Rattle.optimality.specs.Problems.{Problem, Fair, Consistent, guess}
use Rattle.optimality.specs.Keys.{breaks, computed_difference, at_most}
use Rattle.optimality.proofs.Exact.{difference_is}
use Rattle.optimality.proofs.Sides.{sides_differ}
use Rattle.search.specs.Calls.{search_fault, first_broken, unfit}
use Rattle.search.specs.Rules.{FirstBreak, OpenReason}

abbrev number_in : Option Refusal → ℕ
number_in None = 0
number_in (Some r) = number_of r

module _ {C L S : Type 0} (p : Problem C L S) (fair : Fair p) where
  abbrev Near : Side → Section S → Type 0
  Near side s = Le p.kind.ops (p.kind.ops.minus (guess p side (tail side s)) (guess p side (head side s))) (p.kind.worth s.amount)

  -- the difference that is computed is the difference
  drop_is : (side : Side) (s : Section S) → computed_difference p.kind (guess p side (tail side s)) (guess p side (head side s)) ≡ p.kind.ops.minus (guess p side (tail side s)) (guess p side (head side s))
  drop_is side s = difference_is p.kind _ _ (omega (arith, fair.small side (tail side s), fair.small side (head side s)))

  abbrev computed : Side → Section S → Bool
  computed side s = at_most p.kind (computed_difference p.kind (guess p side (tail side s)) (guess p side (head side s))) (p.kind.worth s.amount)

  computed_is : (side : Side) (s : Section S) (b : Bool) → p.kind.ops.leb (p.kind.ops.minus (guess p side (tail side s)) (guess p side (head side s))) (p.kind.worth s.amount) ≡ b → computed side s ≡ b
  computed_is side s b e = ap (λ d. p.kind.ops.leb d (p.kind.worth s.amount)) (drop_is side s) ∙ e

  fine : (side : Side) (s : Section S) → s.shut ≡ false → breaks p.kind p.estimates side s ≡ false → Near side s
  fine side s live h = ap (λ d. p.kind.ops.leb d (p.kind.worth s.amount)) (sym (drop_is side s)) ∙ go (computed side s) refl
    where
      go : (b : Bool) → computed side s ≡ b → computed side s ≡ true
      go true e = e
      go false e = absurd (true≢false (sym (ap (λ x. not x && not (computed side s)) live ∙ ap not e) ∙ h))

  broken : (side : Side) (s : Section S) → breaks p.kind p.estimates side s ≡ true → (s.shut ≡ false) × (Near side s → ⊥)
  broken side s h = go s.shut refl
    where
      go : (b : Bool) → s.shut ≡ b → (s.shut ≡ false) × (Near side s → ⊥)
      go true e = absurd (true≢false (sym h ∙ ap (λ x. not x && not (computed side s)) e))
      go false e = (e, λ near. true≢false (sym h ∙ ap (λ x. not x && not (computed side s)) e ∙ ap not (computed_is side s true near)))

  abbrev breaks_it : Side → Section S → Bool
  breaks_it side s = breaks p.kind p.estimates side s

  -- no section breaks them
  abbrev AllFine : List (Section S) → Type 0
  AllFine ss = (i : ℕ) (s : Section S) (side : Side) → slice_get ss i ≡ Some s → breaks_it side s ≡ false

  -- the i-th section is the first that does, and this its first side
  pub record Broke (ss : List (Section S)) (i : ℕ) (side : Side) : Type 0 where
    pub section : Section S
    pub there : slice_get ss i ≡ Some section
    pub breaks_here : breaks_it side section ≡ true
    pub forward_fine : side ≡ Backward → breaks_it Forward section ≡ false
    pub earlier : (j : ℕ) (s : Section S) (other : Side) → j < i → slice_get ss j ≡ Some s → breaks_it other s ≡ false

  abbrev look : Bool → Bool → ℕ → Option Refusal → Option Refusal
  look f b k rest = cond f (Some (Inconsistent k Forward)) (cond b (Some (Inconsistent k Backward)) rest)

  look_none : (f b : Bool) (k : ℕ) (rest : Option Refusal) → look f b k rest ≡ None → (f ≡ false) × (b ≡ false) × (rest ≡ None)
  look_none true b k rest h = absurd (none-some _ (sym h))
  look_none false true k rest h = absurd (none-some _ (sym h))
  look_none false false k rest h = (refl, refl, h)

  by_sides : (P : Side → Type 0) → P Forward → P Backward → (side : Side) → P side
  by_sides P f b Forward = f
  by_sides P f b Backward = b

  none_broken : (k : ℕ) (ss : List (Section S)) → first_broken p k ss ≡ None → AllFine ss
  none_broken k [] h i s side e = absurd (none-some _ e)
  none_broken k (x ∷ xs) h zero s side e =
      let (f, b, rest) = look_none (breaks_it Forward x) (breaks_it Backward x) k (first_broken p (k + 1) xs) h in
      let same : x ≡ s = cc in
      subst (λ s. breaks_it side s ≡ false) same (by_sides (λ side. breaks_it side x ≡ false) f b side)
  none_broken k (x ∷ xs) h (suc i) s side e =
      let (f, b, rest) = look_none (breaks_it Forward x) (breaks_it Backward x) k (first_broken p (k + 1) xs) h in
      none_broken (k + 1) xs rest i s side e

  -- the first, counted from k
  some_broken : (k : ℕ) (ss : List (Section S)) (n : ℕ) (side : Side) → first_broken p k ss ≡ Some (Inconsistent n side) → (i : ℕ) × (n ≡ k + i) × Broke ss i side
  some_broken k [] n side h = absurd (none-some _ h)
  some_broken k (x ∷ xs) n side h = go (breaks_it Forward x) (breaks_it Backward x) refl refl h (some_broken (k + 1) xs n side)
    where
      nothing : (j : ℕ) (s : Section S) (other : Side) → j < 0 → slice_get (x ∷ xs) j ≡ Some s → breaks_it other s ≡ false
      nothing j s other lt e = absurd (omega arith)

      go : (f b : Bool) → breaks_it Forward x ≡ f → breaks_it Backward x ≡ b → look f b k (first_broken p (k + 1) xs) ≡ Some (Inconsistent n side) → (first_broken p (k + 1) xs ≡ Some (Inconsistent n side) → (i : ℕ) × (n ≡ k + 1 + i) × Broke xs i side) → (i : ℕ) × (n ≡ k + i) × Broke (x ∷ xs) i side
      go true b e q h later =
          let number : k ≡ n = cc in
          let same : Forward ≡ side = cc in
          (0, omega arith, subst (λ side. Broke (x ∷ xs) 0 side) same (record { section = x; there = refl; breaks_here = e; forward_fine = λ b. absurd (sides_differ Backward b); earlier = nothing }))
      go false true e q h later =
          let number : k ≡ n = cc in
          let same : Backward ≡ side = cc in
          (0, omega arith, subst (λ side. Broke (x ∷ xs) 0 side) same (record { section = x; there = refl; breaks_here = q; forward_fine = λ b. e; earlier = nothing }))
      go false false e q h later =
          let (i, at, broke) = later h in
          (suc i, omega arith, record { section = broke.section; there = broke.there; breaks_here = broke.breaks_here; forward_fine = broke.forward_fine; earlier = before broke.earlier })
        where
          before : {i : ℕ} → ((j : ℕ) (s : Section S) (other : Side) → j < i → slice_get xs j ≡ Some s → breaks_it other s ≡ false) → (j : ℕ) (s : Section S) (other : Side) → j < suc i → slice_get (x ∷ xs) j ≡ Some s → breaks_it other s ≡ false
          before rest zero s other lt is = let same : x ≡ s = cc in subst (λ s. breaks_it other s ≡ false) same (by_sides (λ side. breaks_it side x ≡ false) e q other)
          before rest (suc j) s other lt is = rest j s other (omega arith) is

  -- where none is broken the estimates are consistent
  all_near : first_broken p 0 p.net.sections ≡ None → Consistent p
  all_near h side k s arc = fine side s arc.1 (none_broken 0 p.net.sections h k s side arc.0)

  -- why no search can be opened -------------------------------------------------------------------

  abbrev asked : Bool → Bool → ℕ → Option Refusal → Option Refusal
  asked few same rows rest = cond few (Some (TooFewRows rows)) (cond same rest (Some (EstimateCount (length p.estimates))))

  asked_none : (few same : Bool) (rows : ℕ) (rest : Option Refusal) → asked few same rows rest ≡ None → (few ≡ false) × (rest ≡ None)
  asked_none true same rows rest h = absurd (none-some _ (sym h))
  asked_none false true rows rest h = (refl, h)
  asked_none false false rows rest h = absurd (none-some _ (sym h))

  asked_some : (few same : Bool) (rows : ℕ) (rest : Option Refusal) (k : ℕ) (side : Side) → asked few same rows rest ≡ Some (Inconsistent k side) → rest ≡ Some (Inconsistent k side)
  asked_some true same rows rest k side h = let differ : ◌≡◌ {A = ℕ} 5 7 = ap number_in h in absurd (omega arith)
  asked_some false true rows rest k side h = h
  asked_some false false rows rest k side h = let differ : ◌≡◌ {A = ℕ} 6 7 = ap number_in h in absurd (omega arith)

  -- an accepted sheet has a row for each station, and the estimates are consistent
  pub unfit_room : (rows : ℕ) → unfit p rows ≡ None → p.net.stations ≤ rows
  unfit_room rows h = ltb-false _ _ ((asked_none (nat_lt rows p.net.stations) (length p.estimates == p.net.stations) rows (first_broken p 0 p.net.sections) h).0)

  pub unfit_consistent : (rows : ℕ) → unfit p rows ≡ None → Consistent p
  unfit_consistent rows h =
      all_near ((asked_none (nat_lt rows p.net.stations) (length p.estimates == p.net.stations) rows (first_broken p 0 p.net.sections) h).1)

  first_break : (i : ℕ) (side : Side) → Broke p.net.sections i side → FirstBreak p i side
  first_break i side broke =
      record {
        breaks = let (live, far) = broken side broke.section broke.breaks_here in (broke.section, (broke.there, live), far);
        earlier = λ j other lt b. b.2 (fine other b.0 b.1.1 (broke.earlier j b.0 other lt b.1.0));
        forward_first = λ e b. b.2 (fine Forward b.0 b.1.1 (subst (λ s. breaks_it Forward s ≡ false) (one_there broke.there b.1.0) (broke.forward_fine e)));
      }
    where
      one_there : {s t : Section S} → slice_get p.net.sections i ≡ Some s → slice_get p.net.sections i ≡ Some t → s ≡ t
      one_there e f = cc

  breaks_first : (k : ℕ) (side : Side) → first_broken p 0 p.net.sections ≡ Some (Inconsistent k side) → FirstBreak p k side
  breaks_first k side h =
      let (i, at, broke) = some_broken 0 p.net.sections k side h in
      let same : i ≡ k = omega (arith, at) in
      subst (λ k. FirstBreak p k side) same (first_break i side broke)

  -- refused for the estimates, they break at that section first
  pub unfit_broken : (rows k : ℕ) (side : Side) → unfit p rows ≡ Some (Inconsistent k side) → FirstBreak p k side
  unfit_broken rows k side h =
      breaks_first k side (asked_some (nat_lt rows p.net.stations) (length p.estimates == p.net.stations) rows (first_broken p 0 p.net.sections) k side h)

  -- the reasons, in their order -------------------------------------------------------------------

  -- what is found of the sections is that one breaks the estimates
  break_named : (k : ℕ) (ss : List (Section S)) (r : Refusal) → first_broken p k ss ≡ Some r → (n : ℕ) × (side : Side) × (r ≡ Inconsistent n side)
  break_named k [] r h = absurd (none-some _ h)
  break_named k (x ∷ xs) r h = go (breaks_it Forward x) (breaks_it Backward x) h (break_named (k + 1) xs r)
    where
      go : (f b : Bool) → look f b k (first_broken p (k + 1) xs) ≡ Some r → (first_broken p (k + 1) xs ≡ Some r → (n : ℕ) × (side : Side) × (r ≡ Inconsistent n side)) → (n : ℕ) × (side : Side) × (r ≡ Inconsistent n side)
      go true b h later = (k, Forward, cc)
      go false true h later = (k, Backward, cc)
      go false false h later = later h

  module _ (rows : ℕ) where
    abbrev Sections : ℕ → Side → Reasons
    Sections k side = refused_if (FirstBreak p k side) (Inconsistent k side) else_accepted

    abbrev Estimates : ℕ → Side → Reasons
    Estimates k side = refused_if (length p.estimates ≡ p.net.stations → ⊥) (EstimateCount (length p.estimates)) (Sections k side)

    enough : nat_lt rows p.net.stations ≡ false → rows < p.net.stations → ⊥
    enough e few = let room = ltb-false _ _ e in absurd (omega arith)

    abbrev Miscounted : Type 0
    Miscounted = length p.estimates ≡ p.net.stations → ⊥

    counted : length p.estimates ≡ p.net.stations → Miscounted → ⊥
    counted same differ = differ same

    miscounted : (length p.estimates == p.net.stations) ≡ false → Miscounted
    miscounted e = eqb-false _ _ e

    by_sections : (rows < p.net.stations → ⊥) → length p.estimates ≡ p.net.stations → (o : Option Refusal) → first_broken p 0 p.net.sections ≡ o → OpenReason p rows (option_map search_fault o)
    by_sections room same None h = λ k side. (room, (counted same, ((λ broke. let (s, arc, far) = broke.breaks in far (all_near h side k s arc)), tt)))
    by_sections room same (Some r) h =
        let (k, side, is) = break_named 0 p.net.sections r h in
        let here : FirstBreak p k side = breaks_first k side (h ∙ ap (λ r. Some r) is) in
        (k, side, passed layer.Search (TooFewRows rows) (Estimates k side) (Some (search_fault r)) room (passed layer.Search (EstimateCount (length p.estimates)) (Sections k side) (Some (search_fault r)) (counted same) (inl (here, ap search_fault is))))

    -- an Open is turned down by the first reason that is so
    pub open_reasoned : OpenReason p rows (option_map search_fault (unfit p rows))
    open_reasoned = go (nat_lt rows p.net.stations) (length p.estimates == p.net.stations) refl refl
      where
        go : (few same : Bool) → nat_lt rows p.net.stations ≡ few → (length p.estimates == p.net.stations) ≡ same → OpenReason p rows (option_map search_fault (asked few same rows (first_broken p 0 p.net.sections)))
        go true same e k = (0, Forward, named layer.Search (TooFewRows rows) (Estimates 0 Forward) (ltb-true _ _ e))
        go false true e k = by_sections (enough e) (eqb-true _ _ k) (first_broken p 0 p.net.sections) refl
        go false false e k =
            (0, Forward, passed layer.Search (TooFewRows rows) (Estimates 0 Forward) (Some (search_fault (EstimateCount (length p.estimates)))) (enough e) (named layer.Search (EstimateCount (length p.estimates)) (Sections 0 Forward) (miscounted k)))
