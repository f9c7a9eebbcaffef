use Rattle.std.proofs.Common.{◌≡◌, take}
use Rattle.tables.specs.Tables.{items}
use Rattle.sheets.specs.Sheets.{held_literals}
use Rattle.sheets.proofs.questions.literals_of.Given as goal

abbrev pub invariant-loop-assumption : goal.invariant-loop-assumption
invariant-loop-assumption l = items l.literals ≡ held_literals (take l.assumption-index (items l.held))
