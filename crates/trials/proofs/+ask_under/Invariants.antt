use Rattle.std.proofs.Common.{length}
use Rattle.trials.proofs.+ask_under.Given as goal

abbrev pub decreases-ask_under : goal.decreases-ask_under
decreases-ask_under g l = length l.literals.now
