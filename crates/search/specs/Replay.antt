-- What a station's mark becomes while a taken station's sections are gone through.
use Rattle.std.specs.Prelude.{ℕ, Bool, false, cond, not, ◌&&◌, ◌||◌, List, [], ◌∷◌, take, Some, None, Option, ◌==◌}
use Rattle.std.specs.List.{slice_get}
use Rattle.amounts.specs.declared.cost.Cost as cost
use Rattle.faults.specs.declared.Side.{Side}
use Rattle.networks.specs.declared.section.Section.{Section}
use Rattle.networks.specs.Nets.{Net, starters, head}
use Rattle.optimality.specs.declared.sheet.Mark.{Mark}
use Rattle.optimality.specs.declared.sheet.Row.{Row}
use Rattle.optimality.specs.Search.{mark_at}
use Rattle.optimality.specs.Keys.{opened_mark, computed_sum, fits_row, improves}

module _ {C L S : Type 0} (c : cost.Ghosts C L S) (side : Side) (label : L) where
  abbrev pub candidate : Section S → L
  candidate s = computed_sum c label (c.worth s.amount)

  -- the mark at station v, after section k was gone along
  abbrev pub mark_by : ℕ → ℕ → Option (Section S) → Option (Mark L) → Option (Mark L)
  mark_by v k None m = m
  mark_by v k (Some s) m = cond (not s.shut && (head side s == v && improves c (candidate s) m)) (Some (opened_mark (candidate s) (Some k))) m

  -- and after several
  abbrev pub mark_after : Net S → ℕ → List ℕ → Option (Mark L) → Option (Mark L)
  mark_after net v [] m = m
  mark_after net v (k ∷ ks) m = mark_after net v ks (mark_by v k (slice_get net.sections k) m)

  -- Whether the section, the k-th of station u, would get a label that a row does not hold; u itself is closed then.
  abbrev pub large_at : Net S → ℕ → List (Row C L S) → ℕ → Option (Section S) → Bool
  large_at net u rows k None = false
  large_at net u rows k (Some s) =
      cond (s.shut || fits_row c (candidate s)) false
      (cond (head side s == u) false (improves c (candidate s) (mark_after net (head side s) (take k (starters side net u)) (mark_at c rows side (head side s)))))
