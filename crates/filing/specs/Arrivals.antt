-- The arrivals on a sheet, followed from a station back to where their side started.
use Rattle.std.specs.Prelude.{ℕ, zero, suc, ◌-◌, cond, not, ◌&&◌, List, [], ◌∷◌, ◌++◌, length, reverse, Some, None, Option, option_map, option_and_then, ◌==◌}
use Rattle.std.specs.List.{slice_get}
use Rattle.faults.specs.declared.Side.{Side}
use Rattle.faults.specs.declared.Side.TheVariants.{Forward, Backward}
use Rattle.networks.specs.declared.section.Section.{Section}
use Rattle.networks.specs.Nets.{Net, tail, head}
use Rattle.optimality.specs.declared.sheet.Row.{Row}
use Rattle.optimality.specs.Problems.{start}
use Rattle.optimality.specs.Search.{mark_in}

-- The two halves of a route through a meeting station, each in the order in which its arrivals are followed from there:
-- those behind it lead back to the launcher, those ahead of it on to the trap.
pub record Line : Type 0 where
  pub behind : List ℕ
  pub ahead : List ℕ

-- the sections in the order of the route
abbrev pub through : Line → List ℕ
through l = reverse l.behind ++ l.ahead

-- the section by which a side came to the station; absent where the side started there, or never came
abbrev pub arrival_at : {C L S : Type 0} → List (Row C L S) → Side → ℕ → Option ℕ
arrival_at rows side u = option_and_then (λ m. m.arrival) (mark_in side (slice_get rows u))

-- the station from which a side came to u, if this section is there, open, and leads to u
abbrev pub before : {S : Type 0} → Side → ℕ → Option (Section S) → Option ℕ
before side u None = None
before side u (Some s) = cond (not s.shut && head side s == u) (Some (tail side s)) None

module _ {C L S : Type 0} (net : Net S) (rows : List (Row C L S)) where
  module _ (side : Side) where
    abbrev pub back_from : (ℕ → Option (List ℕ)) → ℕ → Option ℕ → Option (List ℕ)
    back_from rest u None = cond (u == start net side) (Some []) None
    back_from rest u (Some k) = option_and_then (λ v. option_map (λ ks. k ∷ ks) (rest v)) (before side u (slice_get net.sections k))

    -- The sections from a station back to the side's start, in the order followed; absent where they do not lead there
    -- in fewer than n steps.
    abbrev pub followed : ℕ → ℕ → Option (List ℕ)
    followed zero u = None
    followed (suc n) u = back_from (followed n) u (arrival_at rows side u)

  abbrev pub ahead_of : ℕ → List ℕ → Option Line
  ahead_of u ks = option_map (λ js. record { behind = ks; ahead = js }) (followed Backward (net.stations - length ks) u)

  -- both halves, in fewer steps than stations
  abbrev pub line : ℕ → Option Line
  line u = option_and_then (ahead_of u) (followed Forward net.stations u)
