use Rattle.std.proofs.Common.{◌≡◌}
use Rattle.tables.specs.Tables.{items}
use Rattle.settings.specs.Settings.{literals}
use Rattle.settings.specs.Readings.{reading}
use Rattle.settings.proofs.Setting.first_literals.Given as goal

abbrev pub invariant-loop-index : goal.invariant-loop-index
invariant-loop-index l = items l.out ≡ literals 0 (reading l.index l.self)
