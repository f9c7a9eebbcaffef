use Rattle.model.proofs.Whole.{guarantee_law}
use Rattle.model.proofs.guarantee_law.Goals as goal

pub returns : goal.returns
returns c = record { answers_of_the_model_keep_the_guarantee = guarantee_law }
