use Rattle.settings.proofs.Listed.{setting_law}
use Rattle.settings.proofs.setting_law.Goals as goal

pub returns : goal.returns
returns c = record { literals_make_setting = setting_law }
