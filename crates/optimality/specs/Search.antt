-- The search over a sheet: what is read there, which station comes next, what taking it writes, and the bounds.
use Rattle.std.specs.Prelude.{ℕ, zero, suc, ◌+◌, Bool, true, cond, List, [], ◌∷◌, map, Some, None, Option, option_map, option_and_then, ◌==◌, nat_lt}
use Rattle.std.specs.List.{slice_get, range_with_len}
use Rattle.amounts.specs.declared.cost.Cost as cost
use Rattle.faults.specs.Faults.{opposite}
use Rattle.faults.specs.declared.Side.{Side}
use Rattle.faults.specs.declared.Side.TheVariants.{Forward, Backward}
use Rattle.networks.specs.declared.section.Section.{Section}
use Rattle.networks.specs.declared.estimates.Pair.{Pair}
use Rattle.networks.specs.Nets.{Net, starters, head}
use Rattle.optimality.specs.declared.sheet.Mark.{Mark}
use Rattle.optimality.specs.declared.sheet.Row.{Row}
use Rattle.optimality.specs.declared.sheet.Front.{Front}
use Rattle.optimality.specs.declared.sheet.Ceiling.{Ceiling}
use Rattle.optimality.specs.declared.sheet.Ceiling.TheVariants.{Absent, Met}
use Rattle.optimality.specs.Sheets.{mark_on, put, State}
use Rattle.optimality.specs.Problems.{Problem}
use Rattle.optimality.specs.Keys.{opened_mark, computed_sum, fits_row, seen, front_of, nearer, within, smaller, key_sum, twice, met, improves, first_mark}

-- what a station's row says of a side; nothing where there is no row
abbrev pub mark_in : {C L S : Type 0} → Side → Option (Row C L S) → Option (Mark L)
mark_in side None = None
mark_in side (Some r) = mark_on side r

-- a side's sections are gone through: the sheet and the ceiling so far
pub record Spread (C L S : Type 0) : Type 0 where
  pub rows : List (Row C L S)
  pub ceiling : Ceiling L

module _ {C L S : Type 0} (c : cost.Ghosts C L S) where
  -- what a side reads at a station
  abbrev pub mark_at : List (Row C L S) → Side → ℕ → Option (Mark L)
  mark_at rows side u = option_map (seen c) (mark_in side (slice_get rows u))

  -- the open station of least key, and of lowest number among those, of the first n
  abbrev pub least : List (Pair L) → List (Row C L S) → Side → ℕ → Option (Front L)
  least estimates rows side zero = None
  least estimates rows side (suc n) = nearer c (least estimates rows side n) (front_of c estimates side n (mark_at rows side n))

  -- the candidate a, by section k, at station v; absent where it would be written and a row does not hold it
  abbrev pub reach : Side → ℕ → ℕ → L → Spread C L S → Option (Spread C L S)
  reach side k v a sp =
      cond (improves c a (mark_at sp.rows side v))
      (cond (fits_row c a) (Some (record { rows = put sp.rows side v (opened_mark a (Some k)); ceiling = met c a v (mark_at sp.rows (opposite side) v) sp.ceiling })) None)
      (Some sp)

  -- section k, from a station with the label
  abbrev pub along : Side → L → ℕ → Option (Section S) → Spread C L S → Option (Spread C L S)
  along side label k None sp = Some sp
  along side label k (Some s) sp = cond s.shut (Some sp) (reach side k (head side s) (computed_sum c label (c.worth s.amount)) sp)

  -- the numbered sections, one after the other
  abbrev pub spread : Net S → Side → L → List ℕ → Spread C L S → Option (Spread C L S)
  spread net side label [] sp = Some sp
  spread net side label (k ∷ ks) sp = option_and_then (spread net side label ks) (along side label k (slice_get net.sections k) sp)

  -- the launcher is open forward, and the trap backward
  abbrev pub first_row : Net S → ℕ → Row C L S
  first_row net u = record { forward = first_mark c (u == net.launcher); backward = first_mark c (u == net.trap) }

-- the station closed, with the label as it reads, and none of its sections gone through
abbrev pub closing : {C L S : Type 0} → Side → Front L → State C L S → Spread C L S
closing side f st = record { rows = put st.rows side f.station (record { label = f.label; arrival = f.arrival; closed = true }); ceiling = st.ceiling }

-- and all of them gone through
abbrev pub after : {C L S : Type 0} → State C L S → Spread C L S → State C L S
after st sp = record { taken = st.taken + 1; ceiling = sp.ceiling; rows = sp.rows }

module _ {C L S : Type 0} (p : Problem C L S) where
  -- a side's open station of least key
  abbrev pub front : State C L S → Side → Option (Front L)
  front st side = least p.kind p.estimates st.rows side p.net.stations

  abbrev pub least_sum : State C L S → Option L
  least_sum st = key_sum p.kind (front st Forward) (front st Backward)

  abbrev pub floor : State C L S → Option L
  floor st = smaller p.kind (least_sum st) (twice p.kind st.ceiling)

  -- the two least keys add up to at least twice the ceiling, or a side has no open station
  abbrev pub ended : State C L S → Bool
  ended st = within p.kind (twice p.kind st.ceiling) (least_sum st)

  -- the front is closed and its sections are gone through; absent where a row does not hold a label that would be written
  abbrev pub gone_through : Side → Front L → State C L S → Option (Spread C L S)
  gone_through side f st = spread p.kind p.net side f.label (starters side p.net f.station) (closing side f st)

  -- the front is taken; absent too where it would be the last station
  abbrev pub taking : Side → Front L → State C L S → Option (State C L S)
  taking side f st = cond (nat_lt (st.taken + 1) p.net.stations) (option_map (after st) (gone_through side f st)) None

  -- what a search begins with
  abbrev pub opened : State C L S
  opened =
      record {
        taken = 0;
        ceiling = cond (p.net.launcher == p.net.trap) (Met p.kind.ops.zero p.net.launcher) Absent;
        rows = map (first_row p.kind p.net) (range_with_len 0 p.net.stations);
      }
