-- What the rows say once a mark is put.
use Rattle.std.proofs.Common.{◌≡◌, ℕ, zero, suc, ◌+◌, ◌^◌, ◌<◌, Bool, true, false, cond, ◌||◌, List, [], ◌∷◌, length, get_or, set, Some, None, Option, option_map, sym, refl, ap, ap₂, ◌∙◌, subst, ⊎_elim, length-set, arith}
use Rattle.std.specs.List.{slice_get, count_by}
use Rattle.std.proofs.lemmas.Bool.{cases_eq, lt-ltb}
use Rattle.std.proofs.Math.Bool.{or_comm}
use Rattle.std.proofs.Math.Path.{fun_ext}
use Rattle.std.proofs.lemmas.List.Sums.{sum_by-set, count_by-le-length}
use Rattle.std.proofs.lemmas.Option.{slice_get-get_or}
use Rattle.amounts.specs.declared.cost.Cost as cost
use Rattle.faults.specs.Faults.{opposite}
use Rattle.faults.specs.declared.Side.{Side}
use Rattle.faults.specs.declared.Side.TheVariants.{Forward, Backward}
use Rattle.optimality.specs.declared.sheet.Mark.{Mark}
use Rattle.optimality.specs.declared.sheet.Row.{Row}
use Rattle.optimality.specs.Sheets.{is_closed, mark_on, with_mark, blank_row, put}
use Rattle.optimality.specs.Keys.{seen}
use Rattle.optimality.specs.Search.{mark_in, mark_at}
use Rattle.optimality.proofs.Invariant.{Marks, row_closed}

-- g has the mark m at v, and what f has elsewhere
pub record Puts {L : Type 0} (f : Marks L) (v : ℕ) (m : Mark L) (g : Marks L) : Type 0 where
  pub here : g v ≡ Some m
  pub elsewhere : (i : ℕ) → (i ≡ v → ⊥) → g i ≡ f i

-- so what holds of m, and of what f has, holds of what g has
pub puts_ind : {L : Type 0} {f g : Marks L} {v : ℕ} {m : Mark L} → Puts f v m g → (i : ℕ) (P : Option (Mark L) → Type 0) → (i ≡ v → P (Some m)) → ((i ≡ v → ⊥) → P (f i)) → P (g i)
puts_ind {g = g} {v = v} puts i P new old = ⊎_elim (λ e. subst P (sym (ap g e ∙ puts.here)) (new e)) (λ ne. subst P (sym (puts.elsewhere i ne)) (old ne)) (cases_eq i v)

module _ {X : Type 0} where
  -- what stands where a list is set
  get_set : (xs : List X) (i : ℕ) (x : X) → i < length xs → slice_get (set xs i x) i ≡ Some x
  get_set [] i x h = absurd (omega arith)
  get_set (y ∷ ys) zero x h = refl
  get_set (y ∷ ys) (suc i) x h = get_set ys i x (omega arith)

  -- and elsewhere
  get_set_other : (xs : List X) (i j : ℕ) (x : X) → (j ≡ i → ⊥) → slice_get (set xs i x) j ≡ slice_get xs j
  get_set_other [] i j x ne = refl
  get_set_other (y ∷ ys) zero zero x ne = absurd (ne refl)
  get_set_other (y ∷ ys) zero (suc j) x ne = refl
  get_set_other (y ∷ ys) (suc i) zero x ne = refl
  get_set_other (y ∷ ys) (suc i) (suc j) x ne = get_set_other ys i j x (λ e. ne (ap suc e))

module _ {C L S : Type 0} where
  -- the mark that a row is given, and the one that it keeps
  mark_same : (side : Side) (m : Option (Mark L)) (r : Row C L S) → mark_on side (with_mark side m r) ≡ m
  mark_same Forward m r = refl
  mark_same Backward m r = refl

  mark_other : (side : Side) (m : Option (Mark L)) (r : Row C L S) → mark_on (opposite side) (with_mark side m r) ≡ mark_on (opposite side) r
  mark_other Forward m r = refl
  mark_other Backward m r = refl

  -- a row is closed where one of its marks is
  closed_by : (side : Side) (r : Row C L S) → row_closed r ≡ (is_closed (mark_on side r) || is_closed (mark_on (opposite side) r))
  closed_by Forward r = refl
  closed_by Backward r = or_comm (is_closed r.forward) (is_closed r.backward)

  -- once it has the mark m
  closed_with : (side : Side) (m : Mark L) (r : Row C L S) → row_closed (with_mark side (Some m) r) ≡ (m.closed || is_closed (mark_on (opposite side) r))
  closed_with side m r = closed_by side (with_mark side (Some m) r) ∙ ap₂ (λ a b. is_closed a || is_closed b) (mark_same side (Some m) r) (mark_other side (Some m) r)

  -- there are as many rows as before
  pub length-put : (rows : List (Row C L S)) (side : Side) (v : ℕ) (m : Mark L) → length (put rows side v m) ≡ length rows
  length-put rows side v m = length-set rows v _

-- What is written, before it is read -----------------------------------------------------------

module _ {C L S : Type 0} (rows : List (Row C L S)) (side : Side) (v : ℕ) (m : Mark L) where
  -- what is written at any other station is as it was
  pub written_elsewhere : (s : Side) (i : ℕ) → (i ≡ v → ⊥) → mark_in s (slice_get (put rows side v m) i) ≡ mark_in s (slice_get rows i)
  written_elsewhere s i ne = ap (mark_in s) (get_set_other rows v i _ ne)

  -- at the station itself the other side's mark is as it was
  written_there : v < length rows → mark_in (opposite side) (slice_get (put rows side v m) v) ≡ mark_in (opposite side) (slice_get rows v)
  written_there inside =
      ap (mark_in (opposite side)) (get_set rows v _ inside) ∙ mark_other side (Some m) (get_or rows v blank_row) ∙ sym (ap (mark_in (opposite side)) (slice_get-get_or rows v blank_row inside))

  -- and so it is everywhere
  pub written_beside : v < length rows → (i : ℕ) → mark_in (opposite side) (slice_get (put rows side v m) i) ≡ mark_in (opposite side) (slice_get rows i)
  written_beside inside i =
      ⊎_elim (λ e. subst (λ j. mark_in (opposite side) (slice_get (put rows side v m) j) ≡ mark_in (opposite side) (slice_get rows j)) (sym e) (written_there inside)) (written_elsewhere (opposite side) i) (cases_eq i v)

module _ {C L S : Type 0} (c : cost.Ghosts C L S) where
  -- a label that a row holds is read as it is
  pub reads : (m : Mark L) → c.ops.size m.label < 2 ^ 44 → seen c m ≡ m
  reads m small = ap (λ b. record { label = cond b m.label c.ops.zero; arrival = m.arrival; closed = m.closed }) (lt-ltb _ _ small)

  -- a mark is read as closed or open as it is
  seen_closed : (m : Option (Mark L)) → is_closed (option_map (seen c) m) ≡ is_closed m
  seen_closed None = refl
  seen_closed (Some m) = refl

module _ {C L S : Type 0} (c : cost.Ghosts C L S) (rows : List (Row C L S)) (v : ℕ) (inside : v < length rows) where
  abbrev row : Row C L S
  row = get_or rows v blank_row

  -- what is read of a row that is there
  mark_there : (side : Side) → mark_at c rows side v ≡ option_map (seen c) (mark_on side row)
  mark_there side = ap (λ r. option_map (seen c) (mark_in side r)) (slice_get-get_or rows v blank_row inside)

  closed_there : (side : Side) → is_closed (mark_on side row) ≡ is_closed (mark_at c rows side v)
  closed_there side = sym (ap is_closed (mark_there side) ∙ seen_closed c (mark_on side row))

  module _ (side : Side) (m : Mark L) where
    -- what is read at v, and elsewhere, once the mark is put
    at_v : (s : Side) → mark_at c (put rows side v m) s v ≡ option_map (seen c) (mark_on s (with_mark side (Some m) row))
    at_v s = ap (λ r. option_map (seen c) (mark_in s r)) (get_set rows v (with_mark side (Some m) row) inside)

    not_at_v : (s : Side) (i : ℕ) → (i ≡ v → ⊥) → mark_at c (put rows side v m) s i ≡ mark_at c rows s i
    not_at_v s i ne = ap (option_map (seen c)) (written_elsewhere rows side v m s i ne)

    -- the side has the mark at v, and what it had elsewhere
    pub put_puts : c.ops.size m.label < 2 ^ 44 → Puts (mark_at c rows side) v m (mark_at c (put rows side v m) side)
    put_puts small = record {
      here = at_v side ∙ ap (option_map (seen c)) (mark_same side (Some m) row) ∙ ap Some (reads c m small);
      elsewhere = not_at_v side;
    }

    -- and the other side's marks are as they were
    pub put_other : mark_at c (put rows side v m) (opposite side) ≡ mark_at c rows (opposite side)
    put_other = fun_ext λ i. ap (option_map (seen c)) (written_beside rows side v m inside i)

    -- what counts of row v, before and after
    counts : (a b o : Bool) → is_closed (mark_at c rows side v) ≡ a → m.closed ≡ b → is_closed (mark_at c rows (opposite side) v) ≡ o → count_by row_closed (put rows side v m) + cond (a || o) 1 0 ≡ count_by row_closed rows + cond (b || o) 1 0
    counts a b o p q r =
        let other : is_closed (mark_on (opposite side) row) ≡ o = closed_there (opposite side) ∙ r in
        let before : row_closed row ≡ (a || o) = closed_by side row ∙ ap₂ (λ x y. x || y) (closed_there side ∙ p) other in
        let behind : row_closed (with_mark side (Some m) row) ≡ (b || o) = closed_with side m row ∙ ap₂ (λ x y. x || y) q other in
        rw (← before, ← behind) (sum_by-set (λ r. cond (row_closed r) 1 0) rows v (with_mark side (Some m) row) blank_row inside)

    -- as many rows are closed as before
    pub count_kept : is_closed (mark_at c rows side v) ≡ m.closed → count_by row_closed (put rows side v m) ≡ count_by row_closed rows
    count_kept same = omega (arith, counts m.closed m.closed _ same refl refl)

    -- one more is
    pub count_more : m.closed ≡ true → is_closed (mark_at c rows side v) ≡ false → is_closed (mark_at c rows (opposite side) v) ≡ false → count_by row_closed (put rows side v m) ≡ count_by row_closed rows + 1
    count_more t a b = omega (arith, counts false true false a t b)

  -- some station is closed on neither side
  pub count_short : (side : Side) → is_closed (mark_at c rows side v) ≡ false → is_closed (mark_at c rows (opposite side) v) ≡ false → count_by row_closed rows < length rows
  count_short side a b =
      let m : Mark L = record { label = c.ops.zero; arrival = None; closed = true } in
      omega (arith, count_more side m refl a b, count_by-le-length row_closed (put rows side v m), length-put rows side v m)
