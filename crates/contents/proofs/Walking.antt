-- An answer's steps, walked one at a time.
use Rattle.std.proofs.Common.{◌≡◌, ℕ, ◌+◌, ◌≤◌, Bool, true, false, ◌&&◌, eqb, List, length, drop, Some}
use Rattle.std.specs.List.{slice_get}
use Rattle.std.proofs.lemmas.List.{drop_all}
use Rattle.amounts.specs.declared.cost.Cost as cost
use Rattle.networks.specs.Nets.{Net}
use Rattle.networks.proofs.Numbers.{drop_nth}
use Rattle.contents.specs.declared.answer.Step.{Step}
use Rattle.contents.specs.Retracing.{same, step_right, walks}

module _ {C L S : Type 0} (c : cost.Ghosts C L S) (net : Net S) (total : L) (steps : List (Step L)) (k : ℕ) (u : ℕ) (a : L) where
  abbrev left : Bool
  left = walks c net u a total (drop k steps)

  walk_at : (s : Step L) → Some s ≡ slice_get steps k → left ≡ (step_right c u a s (slice_get net.sections s.section) && walks c net s.to s.so_far total (drop (k + 1) steps))
  walk_at s e = rw (drop_nth steps k s e)

  pub walk_more : (s : Step L) → Some s ≡ slice_get steps k → true ≡ step_right c u a s (slice_get net.sections s.section) → walks c net s.to s.so_far total (drop (k + 1) steps) ≡ left
  walk_more s e r = rw (walk_at s e, ← r)

  pub walk_stops : (s : Step L) → Some s ≡ slice_get steps k → false ≡ step_right c u a s (slice_get net.sections s.section) → false ≡ left
  walk_stops s e r = rw (walk_at s e, ← r)

  pub walk_all : length steps ≤ k → left ≡ (eqb u net.trap && same c a total)
  walk_all h = rw (drop_all k steps h)
