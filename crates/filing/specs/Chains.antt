-- Steps that join, each starting where the one before it ended.
use Rattle.std.specs.Prelude.{◌≡◌, ◌≢◌, ℕ, suc, cond, List, [], ◌∷◌, take, Some, None, Option, Ok, Err, Result, ◌==◌}
use Rattle.std.specs.List.{slice_get}
use Rattle.faults.specs.declared.Fault.{Fault}
use Rattle.faults.specs.declared.Refusal.TheVariants.{NotJoined}
use Rattle.contents.specs.declared.answer.Step.{Step}
use Rattle.filing.specs.Listing.{filing_fault}

module _ {L : Type 0} where
  -- each step starts where the one before it ended
  abbrev pub Joined : List (Step L) → Type 0
  Joined steps = (k : ℕ) (s t : Step L) → slice_get steps k ≡ Some s → slice_get steps (suc k) ≡ Some t → t.from ≡ s.to

  -- the step after step k is the first that does not
  pub record FirstApart (steps : List (Step L)) (k : ℕ) : Type 0 where
    pub ended : Step L
    pub starts : Step L
    pub before : slice_get steps k ≡ Some ended
    pub next : slice_get steps (suc k) ≡ Some starts
    pub apart : starts.from ≢ ended.to
    pub joined : Joined (take (suc k) steps)

  -- What is claimed of Chain: accepted, the steps join; turned down, the named step is the first that does not.
  abbrev pub ChainStands : List (Step L) → Result (Unit {0}) Fault → Type 0
  ChainStands steps (Ok _) = Joined steps
  ChainStands steps (Err f) = (k : ℕ) × (f ≡ filing_fault (NotJoined (suc k))) × FirstApart steps k

-- Step by step: the same, as it is checked -------------------------------------------------------

abbrev pub joined_unless : Option ℕ → Result (Unit {0}) Fault
joined_unless None = Ok tt
joined_unless (Some k) = Err (filing_fault (NotJoined k))

module _ {L : Type 0} where
  -- the first step, counted from k, that does not start where the one before it ended; the step before step k ended at u
  abbrev pub apart_from : ℕ → ℕ → List (Step L) → Option ℕ
  apart_from k u [] = None
  apart_from k u (s ∷ ss) = cond (s.from == u) (apart_from (suc k) s.to ss) (Some k)

  abbrev pub first_apart : List (Step L) → Option ℕ
  first_apart [] = None
  first_apart (s ∷ ss) = apart_from 1 s.to ss

  -- what Chain answers
  abbrev pub chain_of : List (Step L) → Result (Unit {0}) Fault
  chain_of steps = joined_unless (first_apart steps)
