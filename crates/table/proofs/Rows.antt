-- The rows of the table, each by computing over the problem that is drawn.
use Rattle.std.proofs.Common.{◌≡◌, ℕ, [], ◌∷◌, replicate, refl, ap, pos, ℤ}
use Rattle.std.specs.Prelude.{is_ok}
use Rattle.amounts.specs.contracts.kinds.SamplesCost.TheImpl.{ghosts as samples}
use Rattle.amounts.specs.contracts.kinds.MovesCost.TheImpl.{ghosts as moves}
use Rattle.amounts.specs.Kinds.{samples_forms}
use Rattle.amounts.specs.declared.forms.SectionForm.{SectionForm}
use Rattle.amounts.specs.declared.kinds.Samples.{Samples}
use Rattle.amounts.specs.declared.kinds.Moves.{Moves}
use Rattle.amounts.specs.declared.kinds.MovesLabel.{MovesLabel}
use Rattle.networks.specs.declared.network.Network as network
use Rattle.networks.specs.declared.estimates.Estimates as estimates
use Rattle.faults.specs.declared.Side.TheVariants.{Forward, Backward}
use Rattle.table.specs.After.{in_turn}
use Rattle.table.specs.Drawn.{drawn, one_place, guessed, places}
use Rattle.table.specs.Table.{InTurn, ForwardAlone, EndedAtOnce, WorkedCases}
use Rattle.table.proofs.Meant.{after_is, bounds_is, finish_is, route_is, file_is}

module _ {N E : Type 0} (n : network.Ghosts N Samples ℤ ℕ) (e : estimates.Ghosts E Samples ℤ ℕ) (net : N) (given : E) where
  module _ (net_means : n.meaning net ≡ drawn) (given_means : e.meaning given ≡ guessed) where
    stepped_in_turn : InTurn samples n e net given samples_forms
    stepped_in_turn =
        let bounds = bounds_is samples n e net given net_means given_means in
        let finish = finish_is samples n e net given net_means given_means in
        record {
          opened = bounds (in_turn 0);
          forward = bounds (in_turn 1);
          backward = bounds (in_turn 2);
          forward_again = bounds (in_turn 3);
          not_ended = finish (in_turn 3);
          backward_again = bounds (in_turn 4);
          ended = finish (in_turn 4);
          route = route_is samples n e net given net_means given_means (in_turn 4) 4 (pos 8) 1 refl (places 3) (places 3);
          filed = file_is samples n e net given net_means given_means (in_turn 4) 4 (pos 8) 1 refl (places 3) (places 3) samples_forms 7 (replicate 247 0);
        }

    stepped_forward : ForwardAlone samples n e net given
    stepped_forward =
        let finish = finish_is samples n e net given net_means given_means in
        record {
          not_ended = finish (replicate 2 Forward);
          bounds = bounds_is samples n e net given net_means given_means (replicate 3 Forward);
          ended = finish (replicate 3 Forward);
        }

  not_stepped : n.meaning net ≡ one_place → e.meaning given ≡ guessed → EndedAtOnce samples n e net given
  not_stepped net_means given_means =
      record {
        ended = finish_is samples n e net given net_means given_means [];
        route = route_is samples n e net given net_means given_means [] 0 (pos 0) 0 refl (places 3) (places 3);
      }

module _
    {N E M F : Type 0} (n : network.Ghosts N Samples ℤ ℕ) (e : estimates.Ghosts E Samples ℤ ℕ)
    (m : network.Ghosts M Moves MovesLabel SectionForm) (f : estimates.Ghosts F Moves MovesLabel SectionForm) where
  pub worked_cases : WorkedCases samples samples_forms n e moves m f
  worked_cases =
      record {
        both_ends = stepped_in_turn n e;
        page = record { accepted = refl; same = refl };
        forward_alone = stepped_forward n e;
        at_7 = λ net given h k. ap is_ok (after_is samples n e net given h k []);
        at_8 = λ net given h k. record { refused = after_is samples n e net given h k []; number = refl; section = refl; side = refl };
        shut = λ net given h k. finish_is samples n e net given h k (Backward ∷ []);
        moves = λ net given h k. finish_is moves m f net given h k (in_turn 3);
        launcher_as_trap = not_stepped n e;
        a_millimetre = refl;
        over_a_metre = refl;
      }
