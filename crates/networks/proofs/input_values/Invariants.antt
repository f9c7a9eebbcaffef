use Rattle.std.proofs.Common.{◌≡◌, false, ◌∷◌}
use Rattle.tables.specs.Tables.{items}
use Rattle.settings.specs.Readings.{reading}
use Rattle.networks.proofs.input_values.Given as goal

abbrev pub invariant-loop-index : goal.invariant-loop-index
invariant-loop-index l = items l.values ≡ false ∷ reading l.index l.setting
