use Rattle.laws.proofs.Least.{least_alike}
use Rattle.laws.proofs.least_alike.Goals as goal

pub returns : goal.returns
returns c = record { same_earliest = least_alike }
