-- When an answer on a page holds: its steps are a route, and every cost that it shows is right.
use Rattle.std.specs.Prelude.{◌≡◌, ℕ, suc, Bool, false, not, ◌&&◌, List, [], ◌∷◌, map, take, Some, None, Option, ◌==◌}
use Rattle.std.specs.List.{slice_get}
use Rattle.amounts.specs.declared.cost.Cost as cost
use Rattle.amounts.specs.Amount.{computed}
use Rattle.networks.specs.declared.section.Section.{Section}
use Rattle.networks.specs.Nets.{Net}
use Rattle.networks.specs.Routes.{Route, cost_of}
use Rattle.contents.specs.declared.answer.Outcome.{Outcome}
use Rattle.contents.specs.declared.answer.Outcome.TheVariants.{Found, NoRoute}
use Rattle.contents.specs.declared.answer.Step.{Step}
use Rattle.contents.specs.Content.{Meant}

-- the numbers of the sections that the steps go along
abbrev pub sections_of : {L : Type 0} → List (Step L) → List ℕ
sections_of steps = map (λ s. s.section) steps

module _ {C L S : Type 0} (c : cost.Ghosts C L S) (net : Net S) where
  -- In the words of routes and costs.
  pub record Retraced (m : Meant L) : Type 0 where
    pub found : m.outcome ≡ Found
    -- open sections, joined from launcher to trap
    pub route : Route net (sections_of m.steps)
    -- each cost so far is the sum up to that step's end
    pub so_far : (k : ℕ) (s : Step L) → slice_get m.steps k ≡ Some s → s.so_far ≡ cost_of c.ops c.worth net (take (suc k) (sections_of m.steps))
    -- and the cost is that of the route
    pub total : m.cost ≡ cost_of c.ops c.worth net (sections_of m.steps)

  abbrev pub RetracedIn : Option (Meant L) → Type 0
  RetracedIn None = ⊥
  RetracedIn (Some m) = Retraced m

-- Step by step: the same, as it is checked -----------------------------------------------------

module _ {C L S : Type 0} (c : cost.Ghosts C L S) where
  abbrev pub same : L → L → Bool
  same a b = c.ops.leb a b && c.ops.leb b a

  -- the section is open and starts here, and the cost so far is right
  abbrev pub step_right : ℕ → L → Step L → Option (Section S) → Bool
  step_right u a s None = false
  step_right u a s (Some x) = not x.shut && (x.from == u && same ((computed c.ops).plus a (c.worth x.amount)) s.so_far)

  -- from station u, at the cost a
  abbrev pub walks : Net S → ℕ → L → L → List (Step L) → Bool
  walks net u a total [] = u == net.trap && same a total
  walks net u a total (s ∷ ss) = step_right u a s (slice_get net.sections s.section) && walks net s.to s.so_far total ss

  abbrev pub walked : Net S → Outcome → L → List (Step L) → Bool
  walked net Found total ss = walks net net.launcher c.ops.zero total ss
  walked net NoRoute total ss = false

  abbrev pub retraced : Net S → Option (Meant L) → Bool
  retraced net None = false
  retraced net (Some m) = walked net m.outcome m.cost m.steps
