-- A network with some sections shut.
use Rattle.std.specs.Prelude.{◌≡◌, ◌≢◌, ℕ, ◌+◌, ◌≤◌, Bool, cond, ◌||◌, ◌⊎◌, List, [], ◌∷◌, ◌++◌, length, Contains, IsOk, IsErr, Ok, Err, Result, ◌==◌, nat_lt}
use Rattle.std.specs.List.{AllPairs, list_any}
use Rattle.faults.specs.Faults.{network_fault}
use Rattle.faults.specs.Reasons.{Reasons, refused_if, else_accepted}
use Rattle.faults.specs.declared.Fault.{Fault}
use Rattle.faults.specs.declared.Refusal.{Refusal}
use Rattle.faults.specs.declared.Refusal.TheVariants.{ShutInFull, NoSuchSection}
use Rattle.networks.specs.declared.section.Section.{Section}
use Rattle.networks.specs.Nets.{Net}

-- no two of the numbers are the same
abbrev pub EachOnce : List ℕ → Type 0
EachOnce kept = AllPairs (λ m n. m ≢ n) kept

-- whether n is among the numbers
abbrev pub has : List ℕ → ℕ → Bool
has kept n = list_any (λ k. k == n) kept

-- the section, shut where b says so
abbrev pub shut_if : {S : Type 0} → Bool → Section S → Section S
shut_if b s = record { from = s.from; to = s.to; amount = s.amount; shut = b || s.shut }

-- the sections, which count from n, with those of the kept numbers shut
abbrev pub shut_from : {S : Type 0} → List ℕ → ℕ → List (Section S) → List (Section S)
shut_from kept n [] = []
shut_from kept n (s ∷ ss) = shut_if (has kept n) s ∷ shut_from kept (n + 1) ss

abbrev pub shut_in : {S : Type 0} → List ℕ → Net S → Net S
shut_in kept net = record { stations = net.stations; launcher = net.launcher; trap = net.trap; sections = shut_from kept 0 net.sections }

-- What Shut answers, and the numbers that are kept then.
pub record Shutting : Type 0 where
  pub answer : Result (Unit {0}) Fault
  pub kept : List ℕ

abbrev pub accepted : List ℕ → Shutting
accepted kept = record { answer = Ok tt; kept = kept }

abbrev pub refused : List ℕ → Refusal → Shutting
refused kept r = record { answer = Err (network_fault r); kept = kept }

-- no such section comes before no room, and a number that is kept already is kept once
abbrev pub shutting : {S : Type 0} → Net S → List ℕ → ℕ → Shutting
shutting net kept n =
    cond (nat_lt n (length net.sections))
    (cond (has kept n) (accepted kept)
    (cond (length kept == 64) (refused kept (ShutInFull 64)) (accepted (kept ++ (n ∷ [])))))
    (refused kept (NoSuchSection n))

-- no section of the network has the number
abbrev pub NoSection : {S : Type 0} → Net S → ℕ → Type 0
NoSection net n = length net.sections ≤ n

-- 64 numbers are kept, and all are others
abbrev pub FullOfOthers : List ℕ → ℕ → Type 0
FullOfOthers kept n = (length kept ≡ 64) × ¬ Contains kept n

-- why a section is not shut
abbrev pub shutting_reasons : {S : Type 0} → Net S → List ℕ → ℕ → Reasons
shutting_reasons net kept n =
    refused_if (NoSection net n) (NoSuchSection n)
    (refused_if (FullOfOthers kept n) (ShutInFull 64)
    else_accepted)

-- Of the numbers kept before and after: accepted, n has come and nothing else, and none is gone; refused, they stay.
pub record KeptAlso (n : ℕ) (answer : Result (Unit {0}) Fault) (before after : List ℕ) : Type 0 where
  pub among : IsOk answer → Contains after n
  pub stay : (k : ℕ) → Contains before k → Contains after k
  pub nothing_else : (k : ℕ) → Contains after k → Contains before k ⊎ (k ≡ n)
  pub refused : IsErr answer → after ≡ before
