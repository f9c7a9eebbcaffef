use Rattle.std.proofs.Common.{◌≡◌, ◌++◌, take}
use Rattle.tables.specs.Tables.{items}
use Rattle.tables.proofs.table.Table.place_all.Given as goal

abbrev pub invariant-loop-entry : goal.invariant-loop-entry
invariant-loop-entry g l = items l.self ≡ items l.initial.self ++ take l.entry-index l.entries
