use Rattle.std.proofs.Common.{◌≡◌, true, length}
use Rattle.std.specs.List.{list_all}
use Rattle.tables.specs.Tables.{items}
use Rattle.literals.specs.Literals.{names}
use Rattle.random_numbers.proofs.Random.literals.Given as goal

abbrev pub invariant-loop-place : goal.invariant-loop-place
invariant-loop-place g l = (length (items l.literals) ≡ l._place) × (list_all (names l.variables) (items l.literals) ≡ true)
