use Rattle.laws.proofs.Least.{least_law}
use Rattle.laws.proofs.least_law.Goals as goal

pub returns : goal.returns
returns c = record { earliest_or_none = least_law }
