use Rattle.laws.proofs.Records.{records_law}
use Rattle.laws.proofs.records_law.Goals as goal

pub returns : goal.returns
returns c = record { record_covers_same = records_law }
