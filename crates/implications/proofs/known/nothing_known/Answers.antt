use Rattle.std.proofs.Common.{refl}
use Rattle.implications.proofs.Implying.{blank}
use Rattle.implications.proofs.known.nothing_known.Goals as goal

pub returns : goal.returns
returns c = record { length = refl; unknown = blank 2081 }
