use Rattle.std.proofs.Common.{sym, ap, ◌∙◌}
use Rattle.std.specs.List.{slice_get}
use Rattle.networks.proofs.Rolls.{roll_of}
use Rattle.networks.proofs.Shutting.{numbers_shut}
use Rattle.networks.proofs.shut_in.ShutInNetwork.touching.Goals as goal

pub returns : goal.returns
returns g c = record {
  exact = c.touching.ensures.exact ∙ sym (ap (λ l. slice_get l c.args.k) (numbers_shut _ c.args.side c.args.station 0 0 _));
  roll = roll_of _ _;
}
