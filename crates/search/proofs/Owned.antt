-- A search's own rows, one a station, and those behind them.
use Rattle.std.proofs.Common.{◌≡◌, ℕ, zero, suc, ◌<◌, ◌≤◌, Bool, List, [], ◌∷◌, ◌++◌, length, take, drop, Some, None, Option, option_map, refl, sym, ap, ◌∙◌, arith, length-append}
use Rattle.std.proofs.Math.Seq.{take-append_seam}
use Rattle.std.specs.List.{slice_get}
use Rattle.amounts.specs.declared.cost.Cost as cost
use Rattle.faults.specs.declared.Side.{Side}
use Rattle.optimality.specs.declared.sheet.Mark.{Mark}
use Rattle.optimality.specs.declared.sheet.Row.{Row}
use Rattle.optimality.specs.Sheets.{is_closed, State}
use Rattle.optimality.specs.Problems.{Problem}
use Rattle.optimality.specs.Keys.{seen}
use Rattle.optimality.specs.Search.{mark_in, mark_at}
use Rattle.search.specs.Calls.{own, over}

module _ {X : Type 0} where
  get_take : (n u : ℕ) (xs : List X) → u < n → slice_get (take n xs) u ≡ slice_get xs u
  get_take zero u xs h = absurd (omega arith)
  get_take (suc n) u [] h = refl
  get_take (suc n) zero (x ∷ xs) h = refl
  get_take (suc n) (suc u) (x ∷ xs) h = get_take n u xs (omega arith)

  get_first : (xs ys : List X) (u : ℕ) → u < length xs → slice_get (xs ++ ys) u ≡ slice_get xs u
  get_first [] ys u h = absurd (omega arith)
  get_first (x ∷ xs) ys zero h = refl
  get_first (x ∷ xs) ys (suc u) h = get_first xs ys u (omega arith)

  -- past the first n, where others stand in their place
  get_past : (n : ℕ) (xs ys : List X) (u : ℕ) → length xs ≡ n → n ≤ u → n ≤ length ys → slice_get (xs ++ drop n ys) u ≡ slice_get ys u
  get_past zero [] ys u e h k = refl
  get_past zero (x ∷ xs) ys u e h k = absurd (omega arith)
  get_past (suc n) [] ys u e h k = absurd (omega arith)
  get_past (suc n) (x ∷ xs) [] u e h k = absurd (omega arith)
  get_past (suc n) (x ∷ xs) (y ∷ ys) zero e h k = absurd (omega arith)
  get_past (suc n) (x ∷ xs) (y ∷ ys) (suc u) e h k = get_past n xs ys u (omega arith) (omega arith) (omega arith)

module _ {C L S : Type 0} (p : Problem C L S) where
  pub own_over : (sheet : List (Row C L S)) (st : State C L S) → length st.rows ≡ p.net.stations → own p (over p sheet st) ≡ st
  own_over sheet st long =
      ap (λ rows. record { taken = st.taken; ceiling = st.ceiling; rows = rows }) (ap (λ n. take n (st.rows ++ drop p.net.stations sheet)) (sym long) ∙ take-append_seam st.rows (drop p.net.stations sheet))

  pub over_long : (sheet : List (Row C L S)) (st : State C L S) → length st.rows ≡ p.net.stations → p.net.stations ≤ length ((over p sheet st).rows)
  over_long sheet st long = omega (arith, length-append st.rows (drop p.net.stations sheet))

  -- whether a side has closed a station, on the whole sheet
  abbrev pub closed_at : State C L S → Side → ℕ → Bool
  closed_at st side u = is_closed (mark_in side (slice_get st.rows u))

  seen_closed : (c : cost.Ghosts C L S) (m : Option (Mark L)) → is_closed (option_map (seen c) m) ≡ is_closed m
  seen_closed c None = refl
  seen_closed c (Some m) = refl

  -- it says so where the side reads it
  pub closed_own : (st : State C L S) (side : Side) (u : ℕ) → u < p.net.stations → is_closed (mark_at p.kind ((own p st).rows) side u) ≡ closed_at st side u
  closed_own st side u h = seen_closed p.kind (mark_in side (slice_get ((own p st).rows) u)) ∙ ap (λ r. is_closed (mark_in side r)) (get_take p.net.stations u st.rows h)

  -- of a station, and past the stations
  pub closed_over : (sheet : List (Row C L S)) (st : State C L S) (side : Side) (u : ℕ) → length st.rows ≡ p.net.stations → u < p.net.stations → closed_at (over p sheet st) side u ≡ is_closed (mark_at p.kind st.rows side u)
  closed_over sheet st side u long h = ap (λ r. is_closed (mark_in side r)) (get_first st.rows (drop p.net.stations sheet) u (omega arith)) ∙ sym (seen_closed p.kind (mark_in side (slice_get st.rows u)))

  pub closed_past : (before st : State C L S) (side : Side) (u : ℕ) → length st.rows ≡ p.net.stations → p.net.stations ≤ length before.rows → p.net.stations ≤ u → closed_at (over p before.rows st) side u ≡ closed_at before side u
  closed_past before st side u long room h = ap (λ r. is_closed (mark_in side r)) (get_past p.net.stations st.rows before.rows u long h room)
