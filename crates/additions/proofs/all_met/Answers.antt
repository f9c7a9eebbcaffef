use Rattle.std.proofs.Common.{rules, tests, ◌∙◌}
use Rattle.std.proofs.lemmas.Iterator.{YieldsList-from_slice}
use Rattle.std.proofs.lemmas.Iterator.Search.{all_from_yields_List}
use Rattle.settings.specs.Readings.{reading}
use Rattle.settings.specs.Settings.{meets}
use Rattle.additions.proofs.Steps.{met_all}
use Rattle.additions.proofs.all_met.Goals as goal

pub returns : goal.returns
returns c = record { met = all_from_yields_List (λ s. meets s (reading c.args.n c.args.setting)) _ _ c.all.result c.all.ensures.ran (YieldsList-from_slice c.args.rules.now cc) (λ x b q k. search (rules, tests)) ∙ met_all c.args.rules.now (reading c.args.n c.args.setting) }
