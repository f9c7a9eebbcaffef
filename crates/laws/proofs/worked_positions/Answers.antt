use Rattle.laws.proofs.Positions.{positions}
use Rattle.laws.proofs.worked_positions.Goals as goal

pub returns : goal.returns
returns c = record { table = positions }
