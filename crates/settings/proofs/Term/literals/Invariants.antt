use Rattle.std.proofs.Common.{◌≡◌}
use Rattle.tables.specs.Tables.{items}
use Rattle.settings.proofs.Wanted.{wanted_front}
use Rattle.settings.proofs.Term.literals.Given as goal

abbrev pub invariant-loop-index : goal.invariant-loop-index
invariant-loop-index l = items l.out ≡ wanted_front l.count l.self l.index
