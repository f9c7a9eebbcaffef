use Rattle.std.proofs.Common.{rules, tests, ◌∙◌}
use Rattle.std.proofs.lemmas.Iterator.{YieldsList-from_slice}
use Rattle.std.proofs.lemmas.Iterator.Search.{any_from_yields_List}
use Rattle.settings.specs.Readings.{reading}
use Rattle.settings.specs.Settings.{covers}
use Rattle.additions.proofs.Steps.{covered_any}
use Rattle.additions.proofs.any_covers.Goals as goal

pub returns : goal.returns
returns c = record { covered = any_from_yields_List (λ s. covers s (reading c.args.n c.args.setting)) _ _ c.any.result c.any.ensures.ran (YieldsList-from_slice c.args.bars.now cc) (λ x b q k. search (rules, tests)) ∙ covered_any c.args.bars.now (reading c.args.n c.args.setting) }
