use Rattle.scripts.proofs.Trips.{script_law}
use Rattle.scripts.proofs.script_law.Goals as goal

pub returns : goal.returns
returns c = record { lines_are_told_apart = script_law }
