use Rattle.networks.proofs.Rolls.{roll_of}
use Rattle.search_cases.proofs.hours.TwoWaysNetworkHours.touching.Goals as goal

pub returns-clause-roll : goal.returns-clause-roll
returns-clause-roll c = roll_of _ _
