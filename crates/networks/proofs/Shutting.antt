-- What a network with sections shut keeps of the one below.
use Rattle.std.proofs.Common.{◌≡◌, ℕ, zero, suc, ◌+◌, Bool, List, [], ◌∷◌, length, Some, refl, ap, arith}
use Rattle.std.specs.List.{AllByRecursion, slice_get}
use Rattle.std.specs.Option.{option_map}
use Rattle.faults.specs.declared.Side.{Side}
use Rattle.faults.specs.declared.Side.TheVariants.{Forward, Backward}
use Rattle.networks.specs.declared.section.Section.{Section}
use Rattle.networks.specs.Nets.{Net, SectionInRange, InRange, numbers, starts}
use Rattle.networks.specs.Shut.{has, shut_if, shut_from, shut_in}

module _ {A : Type 0} (kept : List ℕ) where
  pub length-shut : (n : ℕ) (ss : List (Section A)) → length (shut_from kept n ss) ≡ length ss
  length-shut n [] = refl
  length-shut n (s ∷ ss) = ap suc (length-shut (n + 1) ss)

  starts_shut : (side : Side) (station : ℕ) (b : Bool) (s : Section A) → starts side station (shut_if b s) ≡ starts side station s
  starts_shut Forward station b s = refl
  starts_shut Backward station b s = refl

  pub numbers_shut : (side : Side) (station m n : ℕ) (ss : List (Section A)) → numbers (starts side station) m (shut_from kept n ss) ≡ numbers (starts side station) m ss
  numbers_shut side station m n [] = refl
  numbers_shut side station m n (s ∷ ss) =
      rw (starts_shut side station (has kept n) s, numbers_shut side station (m + 1) (n + 1) ss)

  -- the numbered section is the one below, and shut too where its number is kept
  nth_from : (n i j : ℕ) (ss : List (Section A)) → n + i ≡ j → slice_get (shut_from kept n ss) i ≡ option_map (shut_if (has kept j)) (slice_get ss i)
  nth_from n i j [] e = refl
  nth_from n zero j (s ∷ ss) e = let k : n ≡ j = omega arith in ap (λ m. Some (shut_if (has kept m) s)) k
  nth_from n (suc i) j (s ∷ ss) e = nth_from (n + 1) i j ss (omega arith)

  pub nth_shut : (i : ℕ) (ss : List (Section A)) → slice_get (shut_from kept 0 ss) i ≡ option_map (shut_if (has kept i)) (slice_get ss i)
  nth_shut i ss = nth_from 0 i i ss (omega arith)

  within_shut : (range : A → Type 0) (stations n : ℕ) (ss : List (Section A)) → AllByRecursion (SectionInRange range stations) ss → AllByRecursion (SectionInRange range stations) (shut_from kept n ss)
  within_shut range stations n [] h = tt
  within_shut range stations n (s ∷ ss) h = (record { from = h.0.from; to = h.0.to; amount = h.0.amount }, within_shut range stations (n + 1) ss h.1)

  pub range_shut : (range : A → Type 0) (net : Net A) → InRange range net → InRange range (shut_in kept net)
  range_shut range net h = record {
    some = h.some;
    few = h.few;
    launcher = h.launcher;
    trap = h.trap;
    short = rw (length-shut 0 net.sections) h.short;
    each = within_shut range net.stations 0 net.sections h.each;
  }
