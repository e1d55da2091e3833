-- What a search computes of amounts, labels and estimates.
use Rattle.std.specs.Prelude.{ℕ, ◌^◌, Bool, true, false, cond, not, ◌&&◌, List, Some, None, Option, nat_lt}
use Rattle.amounts.specs.Amount.{computed}
use Rattle.amounts.specs.declared.cost.Cost as cost
use Rattle.faults.specs.Faults.{opposite}
use Rattle.faults.specs.declared.Side.{Side}
use Rattle.networks.specs.declared.section.Section.{Section}
use Rattle.networks.specs.declared.estimates.Pair.{Pair}
use Rattle.networks.specs.Nets.{tail, head}
use Rattle.optimality.specs.declared.sheet.Mark.{Mark}
use Rattle.optimality.specs.declared.sheet.Front.{Front}
use Rattle.optimality.specs.declared.sheet.Ceiling.{Ceiling}
use Rattle.optimality.specs.declared.sheet.Ceiling.TheVariants.{Absent, Met}
use Rattle.optimality.specs.Problems.{estimate}

-- an open mark
abbrev pub opened_mark : {L : Type 0} → L → Option ℕ → Mark L
opened_mark a k = record { label = a; arrival = k; closed = false }

module _ {C L S : Type 0} (c : cost.Ghosts C L S) where
  -- Amounts, as they are computed ---------------------------------------------------------------

  abbrev pub computed_sum : L → L → L
  computed_sum a b = (computed c.ops).plus a b

  abbrev pub computed_difference : L → L → L
  computed_difference a b = (computed c.ops).minus a b

  abbrev pub at_most : L → L → Bool
  at_most a b = c.ops.leb a b

  -- Reading ------------------------------------------------------------------------------------

  -- a row holds labels of size up to 2^44 - 1
  abbrev pub fits_row : L → Bool
  fits_row a = nat_lt (c.ops.size a) (2 ^ 44)

  -- a larger one reads as zero
  abbrev pub seen : Mark L → Mark L
  seen m = record { label = cond (fits_row m.label) m.label c.ops.zero; arrival = m.arrival; closed = m.closed }

  -- Fronts -------------------------------------------------------------------------------------

  -- the one of smaller key, and the first where the keys are equal
  abbrev pub nearer : Option (Front L) → Option (Front L) → Option (Front L)
  nearer None b = b
  nearer (Some a) None = Some a
  nearer (Some a) (Some b) = cond (at_most a.key b.key) (Some a) (Some b)

  -- Bounds -------------------------------------------------------------------------------------

  -- what is absent counts as above every amount
  abbrev pub within : Option L → Option L → Bool
  within x None = true
  within None (Some b) = false
  within (Some a) (Some b) = at_most a b

  abbrev pub smaller : Option L → Option L → Option L
  smaller x y = cond (within x y) x y

  -- absent where a side has no open station
  abbrev pub key_sum : Option (Front L) → Option (Front L) → Option L
  key_sum None b = None
  key_sum (Some a) None = None
  key_sum (Some a) (Some b) = Some (computed_sum a.key b.key)

  abbrev pub twice : Ceiling L → Option L
  twice Absent = None
  twice (Met a m) = Some (computed_sum a a)

  -- Ceilings and labels ------------------------------------------------------------------------

  -- the ceiling, once a route of cost a meets at station u
  abbrev pub lowered : L → ℕ → Ceiling L → Ceiling L
  lowered a u Absent = Met a u
  lowered a u (Met b m) = cond (at_most b a) (Met b m) (Met a u)

  -- station u got a label on one side, and the other side has the mark
  abbrev pub met : L → ℕ → Option (Mark L) → Ceiling L → Ceiling L
  met a u None ceiling = ceiling
  met a u (Some m) ceiling = lowered (computed_sum a m.label) u ceiling

  -- not closed, and unlabelled or labelled higher
  abbrev pub improves : L → Option (Mark L) → Bool
  improves a None = true
  improves a (Some m) = not m.closed && not (at_most m.label a)

  abbrev pub first_mark : Bool → Option (Mark L)
  first_mark b = cond b (Some (opened_mark c.ops.zero None)) None

-- Keys ----------------------------------------------------------------------------------------

module _ {C L S : Type 0} (c : cost.Ghosts C L S) (estimates : List (Pair L)) where
  -- twice the label, and the side's own estimate less the other one
  abbrev pub key : Side → ℕ → L → L
  key side u label = computed_difference c (computed_sum c (computed_sum c label label) (estimate c estimates side u)) (estimate c estimates (opposite side) u)

  -- the station, where it is open
  abbrev pub front_of : Side → ℕ → Option (Mark L) → Option (Front L)
  front_of side u None = None
  front_of side u (Some m) = cond m.closed None (Some (record { station = u; key = key side u m.label; label = m.label; arrival = m.arrival }))

  -- the side's estimate falls by more than the amount along the section, which is open
  abbrev pub breaks : Side → Section S → Bool
  breaks side s = not s.shut && not (at_most c (computed_difference c (estimate c estimates side (tail side s)) (estimate c estimates side (head side s))) (c.worth s.amount))
