use Rattle.model.proofs.WorkedRun.{worked_run}
use Rattle.model.proofs.worked_run.Goals as goal

pub returns : goal.returns
returns c = record { answers_are_the_models = worked_run }
