-- What a kind, a network and estimates promise is fair.
use Rattle.std.proofs.Common.{◌≡◌, ℕ, zero, suc, ◌^◌, ◌<◌, List, [], ◌∷◌, Some, None, Option, refl, subst, arith}
use Rattle.std.proofs.lemmas.Option.{none-some}
use Rattle.std.specs.List.{AllByRecursion, slice_get}
use Rattle.amounts.specs.Amount.{Laws, RangeLaws, SectionFit}
use Rattle.amounts.specs.declared.cost.Cost as cost
use Rattle.faults.specs.declared.Side.{Side}
use Rattle.faults.specs.declared.Side.TheVariants.{Forward, Backward}
use Rattle.networks.specs.declared.section.Section.{Section}
use Rattle.networks.specs.declared.estimates.Pair.{Pair}
use Rattle.networks.specs.Given.{PairInRange, GivenInRange}
use Rattle.networks.specs.Nets.{Net, InRange, SectionInRange, tail}
use Rattle.optimality.specs.Problems.{Problem, Fair, start, of_pair, estimate}

pub all_at : {X : Type 0} (P : X → Type 0) (xs : List X) (k : ℕ) (x : X) → AllByRecursion P xs → slice_get xs k ≡ Some x → P x
all_at P [] k x h e = absurd (none-some _ e)
all_at P (y ∷ ys) zero x h e = let same : y ≡ x = cc in subst P same h.0
all_at P (y ∷ ys) (suc k) x h e = all_at P ys k x h.1 e

module _ {C L S : Type 0} (c : cost.Ghosts C L S) (net : Net S) (range : InRange c.section_range net) where
  pub tail_within : (k : ℕ) (s : Section S) (side : Side) → slice_get net.sections k ≡ Some s → tail side s < net.stations
  tail_within k s side e = go side (all_at (SectionInRange c.section_range net.stations) net.sections k s range.each e)
    where
      go : (side : Side) → SectionInRange c.section_range net.stations s → tail side s < net.stations
      go Forward r = r.from
      go Backward r = r.to

  pub section_fit : RangeLaws c.ops c.worth c.section_range c.estimate_range → (k : ℕ) (s : Section S) → slice_get net.sections k ≡ Some s → SectionFit c.ops (c.worth s.amount)
  section_fit laws k s e = laws.section s.amount ((all_at (SectionInRange c.section_range net.stations) net.sections k s range.each e).amount)

  pub start_within : (side : Side) → start net side < net.stations
  start_within Forward = range.launcher
  start_within Backward = range.trap

pub estimate_small : {C L S : Type 0} (c : cost.Ghosts C L S) → Laws c.ops → RangeLaws c.ops c.worth c.section_range c.estimate_range → (given : List (Pair L)) → GivenInRange c.estimate_range given → (side : Side) (u : ℕ) → c.ops.size (estimate c given side u) < 2 ^ 44
estimate_small {C} {L} {S} c laws ranges given range side u = go (slice_get given u) refl
  where
    of_side : (side : Side) (e : Pair L) → PairInRange c.estimate_range e → c.ops.size (of_pair side e) < 2 ^ 44
    of_side Forward e h = ranges.estimate e.forward h.forward
    of_side Backward e h = ranges.estimate e.backward h.backward

    go : (e : Option (Pair L)) → slice_get given u ≡ e → c.ops.size (estimate c given side u) < 2 ^ 44
    go None e = rw e (omega (arith, laws.size_zero))
    go (Some x) e = rw e (of_side side x (all_at (PairInRange c.estimate_range) given u x range e))

pub fair_of : {C L S : Type 0} (p : Problem C L S) → Laws p.kind.ops → RangeLaws p.kind.ops p.kind.worth p.kind.section_range p.kind.estimate_range → InRange p.kind.section_range p.net → GivenInRange p.kind.estimate_range p.estimates → Fair p
fair_of p laws ranges range given =
    record {
      laws = laws;
      starts = start_within p.kind p.net range;
      ends = tail_within p.kind p.net range;
      fit = section_fit p.kind p.net range ranges;
      few = range.few;
      small = estimate_small p.kind laws ranges p.estimates given;
    }
