-- A list is filled with the sections followed, and costs are added, one step at a time.
use Rattle.std.proofs.Common.{◌≡◌, ℕ, suc, ◌+◌, ◌-◌, ◌<◌, ◌≤◌, ◌==◌, Bool, true, false, List, [], ◌∷◌, ◌++◌, length, take, drop, set, Some, None, Option, option_map, option_and_then, get_or, refl, sym, ap, ap₂, ◌∙◌, drop-cons, arith}
use Rattle.std.proofs.lemmas.Grind.{take-set_at}
use Rattle.std.proofs.lemmas.List.{append_assoc, append-nil, take_all, drop_all, drop-set-lt}
use Rattle.std.proofs.lemmas.Option.{none-some, slice_get-get_or}
use Rattle.std.specs.Bool.{then_some}
use Rattle.std.specs.List.{slice_get}
use Rattle.amounts.specs.declared.cost.Cost as cost
use Rattle.faults.specs.declared.Side.{Side}
use Rattle.networks.specs.Nets.{Net}
use Rattle.contents.specs.declared.answer.Step.{Step}
use Rattle.optimality.specs.declared.sheet.Row.{Row}
use Rattle.optimality.specs.Problems.{start}
use Rattle.filing.specs.Arrivals.{arrival_at, before, followed}
use Rattle.filing.specs.Listing.{step_at, cost_along, steps_along, last_cost}
use Rattle.filing.specs.Costs.{with_cost, bare_steps, costed}
use Rattle.filing.proofs.Followed.{counted, counted_end, counted_off, at_section}

module _ {C L S : Type 0} (c : cost.Ghosts C L S) (net : Net S) (rows : List (Row C L S)) (side : Side) where
  -- those listed, and the ones that lead on
  abbrev pub filled : List (Step L) → Option (List ℕ) → Option (List (Step L))
  filled done o = option_map (λ ks. done ++ bare_steps c net ks) o

  -- before the first one
  pub none_yet : (room u : ℕ) → option_map length (followed net rows side (room + 1) u) ≡ Some room → counted 0 (followed net rows side (room + 1 - 0) u) ≡ Some room
  none_yet room u h = ap (λ n. counted 0 (followed net rows side n u)) (omega arith) ∙ go (followed net rows side (room + 1) u) ∙ h
    where
      go : (o : Option (List ℕ)) → counted 0 o ≡ option_map length o
      go None = refl
      go (Some ks) = ap Some (omega arith)

  pub all_left : (room u : ℕ) (list : List (Step L)) → filled (take 0 list) (followed net rows side (room + 1 - 0) u) ≡ option_map (bare_steps c net) (followed net rows side (room + 1) u)
  all_left room u list = ap (λ n. filled [] (followed net rows side n u)) (omega arith) ∙ go (followed net rows side (room + 1) u)
    where
      go : (o : Option (List ℕ)) → filled [] o ≡ option_map (bare_steps c net) o
      go None = refl
      go (Some ks) = refl

  module _ (room place u : ℕ) where
    abbrev on : Option (List ℕ)
    on = followed net rows side (room + 1 - place) u

    -- one section more
    pub fill_on : place < room → (k v : ℕ) → Some k ≡ arrival_at rows side u → Some v ≡ before side u (slice_get net.sections k) → (list : List (Step L)) → length list ≡ room → filled (take (place + 1) (set list place (step_at c net k c.ops.zero))) (followed net rows side (room + 1 - (place + 1)) v) ≡ filled (take place list) on
    fill_on h k v e b list long =
        ap (λ done. filled done rest) (take-set_at list place (place + 1) (step_at c net k c.ops.zero) refl (omega arith))
        ∙ go rest
        ∙ sym (ap (filled (take place list)) (at_section net rows side (room + 1) place u (omega arith) k e ∙ ap (option_and_then (λ v. option_map (λ ks. k ∷ ks) (followed net rows side (room + 1 - (place + 1)) v))) (sym b)))
      where
        rest : Option (List ℕ)
        rest = followed net rows side (room + 1 - (place + 1)) v

        go : (o : Option (List ℕ)) → filled (take place list ++ (step_at c net k c.ops.zero ∷ [])) o ≡ filled (take place list) (option_map (λ ks. k ∷ ks) o)
        go None = refl
        go (Some ks) = ap Some (append_assoc (take place list) (step_at c net k c.ops.zero ∷ []) (bare_steps c net ks))

    -- the sections do not end before the list is full
    pub not_yet : place < room → counted place on ≡ Some room → None ≡ arrival_at rows side u → ⊥
    not_yet h full e = go (u == start net side) (sym (counted_end net rows side (room + 1) place u (omega arith) e) ∙ full)
      where
        go : (b : Bool) → then_some b place ≡ Some room → ⊥
        go true z = let e : place ≡ room = cc in omega arith
        go false z = none-some _ z

    pub not_off : place < room → counted place on ≡ Some room → (k : ℕ) → Some k ≡ arrival_at rows side u → None ≡ before side u (slice_get net.sections k) → ⊥
    not_off h full k e off = none-some _ (sym (counted_off net rows side (room + 1) place u (omega arith) k e off) ∙ full)

    -- a full list holds them all
    pub all_filled : (room ≤ place) → counted place on ≡ Some room → (list : List (Step L)) → length list ≡ room → Some list ≡ filled (take place list) on
    all_filled h full list long = go on full
      where
        go : (o : Option (List ℕ)) → counted place o ≡ Some room → Some list ≡ filled (take place list) o
        go None z = absurd (none-some _ z)
        go (Some []) z = ap Some (sym (append-nil (take place list) ∙ take_all place list (omega arith)))
        go (Some (k ∷ ks)) z = let e : place + suc (length ks) ≡ room = cc in absurd (omega arith)

-- Costs ------------------------------------------------------------------------------------------

module _ {C L S : Type 0} (c : cost.Ghosts C L S) (net : Net S) where
  -- one step more
  pub cost_on : (steps : List (Step L)) (i : ℕ) (s : Step L) (a b : L) → i < length steps → s ≡ get_or steps i s → b ≡ cost_along c net a s.section → take (i + 1) (set steps i (with_cost s b)) ++ costed c net b (drop (i + 1) (set steps i (with_cost s b))) ≡ take i steps ++ costed c net a (drop i steps)
  cost_on steps i s a b h is e =
      let one : i + 1 ≡ suc i = omega arith in
      ap₂ (λ done rest. done ++ costed c net b rest) (take-set_at steps i (i + 1) (with_cost s b) refl h) (drop-set-lt (i + 1) steps i (with_cost s b) (omega arith))
      ∙ append_assoc (take i steps) (with_cost s b ∷ []) (costed c net b (drop (i + 1) steps))
      ∙ ap (λ x. take i steps ++ (with_cost s x ∷ costed c net x (drop (i + 1) steps))) e
      ∙ ap₂ (λ t n. take i steps ++ costed c net a (t ∷ drop n steps)) is one
      ∙ sym (ap (λ rest. take i steps ++ costed c net a rest) (drop-cons steps i s h))

  -- the sections bare, and then with their costs
  pub costs_added : (a : L) (ks : List ℕ) → costed c net a (bare_steps c net ks) ≡ steps_along c net a ks
  costs_added a [] = refl
  costs_added a (k ∷ ks) = ap (λ ss. step_at c net k (cost_along c net a k) ∷ ss) (costs_added (cost_along c net a k) ks)

  -- no step is left
  pub costs_done : (steps : List (Step L)) (i : ℕ) (a : L) → length steps ≤ i → take i steps ++ costed c net a (drop i steps) ≡ steps
  costs_done steps i a h = ap₂ (λ done rest. done ++ costed c net a rest) (take_all i steps h) (drop_all i steps h) ∙ append-nil steps

-- The last cost so far ---------------------------------------------------------------------------

module _ {L : Type 0} where
  pub last_is : (a : L) (steps : List (Step L)) (s : Step L) → slice_get steps (length steps - 1) ≡ Some s → last_cost a steps ≡ s.so_far
  last_is a [] s e = absurd (none-some _ e)
  last_is a (t ∷ []) s e = let same : t ≡ s = cc in ap (λ x. x.so_far) same
  last_is a (t ∷ (u ∷ ss)) s e =
      let more : suc (suc (length ss)) - 1 ≡ suc (suc (length ss) - 1) = omega arith in
      last_is t.so_far (u ∷ ss) s (sym (ap (slice_get (t ∷ (u ∷ ss))) more) ∙ e)

  pub none_last : (a : L) (steps : List (Step L)) → slice_get steps (length steps - 1) ≡ None → last_cost a steps ≡ a
  none_last a [] e = refl
  none_last a (t ∷ ss) e = absurd (none-some _ (sym e ∙ slice_get-get_or (t ∷ ss) (length (t ∷ ss) - 1) t (omega arith)))
