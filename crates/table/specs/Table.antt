-- The table of worked cases: what the calls answer, whatever network and estimates mean what is drawn.
use Rattle.std.specs.Prelude.{◌≡◌, ℕ, true, List, [], ◌∷◌, replicate, is_ok, ℤ, pos, Some, Ok, Err}
use Rattle.amounts.specs.declared.cost.Cost as cost
use Rattle.amounts.specs.Forms.{Forms}
use Rattle.amounts.specs.declared.forms.SectionForm.{SectionForm}
use Rattle.amounts.specs.declared.kinds.Samples.{Samples}
use Rattle.amounts.specs.declared.kinds.Moves.{Moves}
use Rattle.amounts.specs.declared.kinds.MovesLabel.{MovesLabel}
use Rattle.amounts.specs.Kinds.{label}
use Rattle.amounts.specs.Sampling.{samples_of}
use Rattle.networks.specs.declared.network.Network as network
use Rattle.networks.specs.declared.estimates.Estimates as estimates
use Rattle.networks.specs.declared.estimates.Pair.{Pair}
use Rattle.networks.specs.Nets.{Net}
use Rattle.networks.specs.Shut.{shut_in}
use Rattle.networks.specs.Blanks.{blank_pairs}
use Rattle.faults.specs.Faults.{number_of, place_of, side_number}
use Rattle.faults.specs.declared.Side.{Side}
use Rattle.faults.specs.declared.Side.TheVariants.{Forward, Backward}
use Rattle.faults.specs.declared.Refusal.TheVariants.{Inconsistent, NotEnded}
use Rattle.contents.specs.Again.{Back}
use Rattle.optimality.specs.declared.sheet.Ceiling.{Ceiling}
use Rattle.optimality.specs.declared.sheet.Ceiling.TheVariants.{Absent}
use Rattle.search.specs.declared.running.Finished.TheVariants as finished
use Rattle.search.specs.Calls.{search_fault}
use Rattle.filing.specs.Filing.{route_filed}
use Rattle.table.specs.After.{in_turn, after, bounds_after, finish_after, route_after, file_after}
use Rattle.table.specs.Drawn.{drawn, one_place, with_a_move, guessed, guessed_from, bounds, met, places, first, second, third, filed_page}

-- What a row says ----------------------------------------------------------------------------------

module _ {C N E L S : Type 0} (c : cost.Ghosts C L S) (n : network.Ghosts N C L S) (e : estimates.Ghosts E C L S) where
  -- for every network and every source of estimates that mean this
  abbrev pub Over : Net S → List (Pair L) → (N → E → Type 0) → Type 0
  Over m g Holds = (net : N) (given : E) → n.meaning net ≡ m → e.meaning given ≡ g → Holds net given

  module _ (net : N) (given : E) where
    -- Open and these steps are accepted, and then Finish: they ended the search. It found a route of this cost, its halves
    -- meet at this station, and so many stations were taken.
    abbrev pub Finds : List Side → L → ℕ → ℕ → Type 0
    Finds sides a meeting taken = finish_after c n e net given sides ≡ Ok (finished.Found (record { net = net; estimates = given; taken = taken; cost = a; meeting = meeting }))

    -- the same, and there is no route
    abbrev pub FindsNone : List Side → ℕ → Type 0
    FindsNone sides taken = finish_after c n e net given sides ≡ Ok (finished.NoRoute (record { net = net; estimates = given; taken = taken; tag = record {} }))

    -- Finish is turned down after these steps: the search is not ended
    abbrev pub GoesOn : List Side → ℕ → Type 0
    GoesOn sides taken = finish_after c n e net given sides ≡ Err (search_fault (NotEnded taken))

-- Rows over one network and its estimates ----------------------------------------------------------

module _ {N E : Type 0} (c : cost.Ghosts Samples ℤ ℕ) (n : network.Ghosts N Samples ℤ ℕ) (e : estimates.Ghosts E Samples ℤ ℕ) (net : N) (given : E) where
  -- after these steps Bounds answers this floor and this ceiling
  abbrev pub Between : List Side → ℕ → Ceiling ℤ → Type 0
  Between sides floor ceiling = bounds_after c n e net given sides ≡ Ok (bounds floor ceiling)

  -- Forward and Backward in turn
  pub record InTurn (forms : Forms ℤ ℕ) : Type 0 where
    pub opened : Between (in_turn 0) 13 Absent
    pub forward : Between (in_turn 1) 14 Absent
    pub backward : Between (in_turn 2) 14 (met 9 1)
    pub forward_again : Between (in_turn 3) 15 (met 8 1)
    pub not_ended : GoesOn c n e net given (in_turn 3) 3
    pub backward_again : Between (in_turn 4) 16 (met 8 1)
    pub ended : Finds c n e net given (in_turn 4) (pos 8) 1 4
    -- the turning list starts with the steps behind station 1, from there to the launcher
    pub route :
        route_after c n e net given (in_turn 4) (places 3) (places 3)
        ≡ Some (record { answer = Ok 3; steps = first ∷ second ∷ third ∷ []; turning = second ∷ first ∷ places 1 })
    -- the page of run 7 has 247 bytes
    pub filed :
        file_after c n e net given (in_turn 4) (places 3) (places 3) forms 7 (replicate 247 0)
        ≡ Some (record { answer = Ok 247; steps = first ∷ second ∷ third ∷ []; turning = second ∷ first ∷ places 1; page = filed_page })

  -- Forward alone
  pub record ForwardAlone : Type 0 where
    pub not_ended : GoesOn c n e net given (replicate 2 Forward) 2
    pub bounds : Between (replicate 3 Forward) 16 (met 8 4)
    pub ended : Finds c n e net given (replicate 3 Forward) (pos 8) 4 3

  abbrev pub Opens : Type 0
  Opens = is_ok (after c n e net given []) ≡ true

  -- Open is turned down: refusal 7, section 1, side 1
  pub record Inconsistent7 : Type 0 where
    pub refused : after c n e net given [] ≡ Err (search_fault (Inconsistent 1 Forward))
    pub number : number_of (Inconsistent 1 Forward) ≡ 7
    pub section : place_of (Inconsistent 1 Forward) ≡ 1
    pub side : side_number Forward ≡ 1

  -- ended as it is opened, by the empty route
  pub record EndedAtOnce : Type 0 where
    pub ended : Finds c n e net given [] (pos 0) 0 0
    pub route : route_after c n e net given [] (places 3) (places 3) ≡ Some (record { answer = Ok 0; steps = places 3; turning = places 3 })

-- The table ----------------------------------------------------------------------------------------

pub record WorkedCases
    {N E M F : Type 0}
    (c : cost.Ghosts Samples ℤ ℕ) (forms : Forms ℤ ℕ) (n : network.Ghosts N Samples ℤ ℕ) (e : estimates.Ghosts E Samples ℤ ℕ)
    (d : cost.Ghosts Moves MovesLabel SectionForm) (m : network.Ghosts M Moves MovesLabel SectionForm) (f : estimates.Ghosts F Moves MovesLabel SectionForm)
    : Type 0 where
  pub both_ends : Over c n e drawn guessed (λ net given. InTurn c n e net given forms)
  -- the page that is filed is accepted and means what was put in, so what is drawn is the meaning of a network and estimates
  pub page : Back c forms (record { network = drawn; estimates = guessed; answer = Some (route_filed c 7 4 (first ∷ second ∷ third ∷ [])) }) filed_page
  pub forward_alone : Over c n e drawn guessed (ForwardAlone c n e)
  -- the forward estimate at station 0
  pub at_7 : Over c n e drawn (guessed_from 7) (Opens c n e)
  pub at_8 : Over c n e drawn (guessed_from 8) (Inconsistent7 c n e)
  pub shut : Over c n e (shut_in (3 ∷ 5 ∷ []) drawn) guessed (λ net given. FindsNone c n e net given (Backward ∷ []) 1)
  pub moves : Over d m f with_a_move (blank_pairs d.ops 5) (λ net given. Finds d m f net given (in_turn 3) (label (pos 0) (pos 9)) 1 3)
  pub launcher_as_trap : Over c n e one_place guessed (EndedAtOnce c n e)
  pub a_millimetre : samples_of 1 512 ≡ Ok 1
  pub over_a_metre : samples_of 1001 256 ≡ Ok 257
