-- Steps before and after their costs are added.
use Rattle.std.specs.Prelude.{ℕ, List, [], ◌∷◌, map}
use Rattle.amounts.specs.declared.cost.Cost as cost
use Rattle.networks.specs.Nets.{Net}
use Rattle.contents.specs.declared.answer.Step.{Step}
use Rattle.filing.specs.Listing.{step_at, cost_along}

-- the step with another cost so far
abbrev pub with_cost : {L : Type 0} → Step L → L → Step L
with_cost s a = record { section = s.section; from = s.from; to = s.to; so_far = a }

module _ {C L S : Type 0} (c : cost.Ghosts C L S) (net : Net S) where
  abbrev pub bare_steps : List ℕ → List (Step L)
  bare_steps ks = map (λ k. step_at c net k c.ops.zero) ks

  -- each step with the cost up to its end, where it is a up to the first one's start
  abbrev pub costed : L → List (Step L) → List (Step L)
  costed a [] = []
  costed a (s ∷ ss) = with_cost s (cost_along c net a s.section) ∷ costed (cost_along c net a s.section) ss
