use Rattle.laws.proofs.Why.{why_alike}
use Rattle.laws.proofs.why_alike.Goals as goal

pub returns : goal.returns
returns c = record { same_reason = why_alike }
