use Rattle.settings.proofs.Sets.{sets_law}
use Rattle.settings.proofs.sets_law.Goals as goal

pub returns : goal.returns
returns c = record { sets_say_what_lists_say = sets_law }
