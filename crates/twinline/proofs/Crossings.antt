-- Which sections of a twin line go across at a station.
use denote.Enum.Bare.{sameb}
use Rattle.std.proofs.Common.{◌≡◌, ℕ, ◌+◌, ◌-◌, ◌*◌, ◌/◌, ◌%◌, ◌<◌, ◌≤◌, Bool, cond, None, Option, sym, ap, ◌∙◌, arith}
use native.Mathlib.Nat.{mul-mod_left}
use Rattle.std.proofs.lemmas.Option.{none-some}
use Rattle.std.proofs.lemmas.Bool.Decides.{nat_tests}
use Rattle.faults.specs.declared.Side.{Side}
use Rattle.faults.specs.contracts.Side.{the_type}
use Rattle.faults.specs.declared.Side.TheVariants.{Forward, Backward}
use Rattle.twinline.specs.Touching.{Only, Crossing}
use Rattle.twinline.specs.Twin.{Line, LineRange, along, section_count, end_of, cross_place, cross_down}
use Rattle.twinline.proofs.Twins.{place_within}

-- the derived equality
abbrev pub same_side : Side → Side → Bool
same_side = sameb the_type

module _ (t : Line) (r : LineRange t) (place : ℕ) where
  -- where the place is no multiple of the spacing, nothing crosses
  pub cross_none : (down : Bool) → (place % t.spacing ≡ 0 → ⊥) → Crossing t place down None
  cross_none down h = record {
    here = λ m e. absurd (none-some m e);
    alone = λ m lo hi at' way. absurd (h (ap (λ p. p % t.spacing) (sym at') ∙ mul-mod_left ((m - 2 * along t) / 2) t.spacing));
  }

-- what crosses at a place has its ends at the two stations there
module _ (t : Line) (r : LineRange t) where
  from_across : (m : ℕ) → 2 * along t ≤ m → end_of t Forward m ≡ cond (cross_down t m) (cross_place t m) (t.count + cross_place t m)
  from_across m h = grind (arith, nat_tests)

  to_across : (m : ℕ) → 2 * along t ≤ m → end_of t Backward m ≡ cond (cross_down t m) (t.count + cross_place t m) (cross_place t m)
  to_across m h = grind (arith, nat_tests)

  on_line : (m : ℕ) → m < section_count t → cross_place t m ≤ along t
  on_line m h = place_within t r (m - 2 * along t) (omega arith)

  module _ (station : ℕ) (o : Option ℕ) where
    pub across_upper : (side : Side) → station < t.count → Crossing t station (same_side side Forward) o → Only (end_of t side) station (2 * along t) (section_count t) o
    across_upper Forward l x = record {
      here = λ m e. let h = x.here m e in let f = from_across m h.0 in (h.0, h.1, grind (arith, nat_tests));
      alone = λ m lo hi v. let f = from_across m lo in x.alone m lo hi (grind (arith, nat_tests)) (grind (arith, nat_tests));
    }
    across_upper Backward l x = record {
      here = λ m e. let h = x.here m e in let f = to_across m h.0 in (h.0, h.1, grind (arith, nat_tests));
      alone = λ m lo hi v. let f = to_across m lo in x.alone m lo hi (grind (arith, nat_tests)) (grind (arith, nat_tests));
    }

    pub across_lower : (side : Side) → t.count ≤ station → Crossing t (station - t.count) (same_side side Backward) o → Only (end_of t side) station (2 * along t) (section_count t) o
    across_lower Forward l x = record {
      here = λ m e. let h = x.here m e in let f = from_across m h.0 in (h.0, h.1, grind (arith, nat_tests));
      alone = λ m lo hi v. let p = on_line m hi in let f = from_across m lo in x.alone m lo hi (grind (arith, nat_tests)) (grind (arith, nat_tests));
    }
    across_lower Backward l x = record {
      here = λ m e. let h = x.here m e in let f = to_across m h.0 in (h.0, h.1, grind (arith, nat_tests));
      alone = λ m lo hi v. let p = on_line m hi in let f = to_across m lo in x.alone m lo hi (grind (arith, nat_tests)) (grind (arith, nat_tests));
    }
