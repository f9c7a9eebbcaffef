use Rattle.scripts.proofs.Trips.{lines_law}
use Rattle.scripts.proofs.lines_law.Goals as goal

pub returns : goal.returns
returns c = record { lines_read_back = lines_law }
