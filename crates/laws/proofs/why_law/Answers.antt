use Rattle.laws.proofs.Why.{why_law}
use Rattle.laws.proofs.why_law.Goals as goal

pub returns : goal.returns
returns c = record { smallest_reason_or_none = why_law }
