use Rattle.networks.proofs.Values.{network_law}
use Rattle.networks.proofs.network_law.Goals as goal

pub returns : goal.returns
returns c = record { output_is_determined = network_law }
