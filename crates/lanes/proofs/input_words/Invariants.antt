use Rattle.std.proofs.Common.{◌≡◌, ◌≤◌}
use Rattle.tables.specs.Tables.{items}
use Rattle.search.specs.Assignments.{undecided}
use Rattle.lanes.specs.Words.{input_words}
use Rattle.lanes.proofs.input_words.Given as goal

abbrev pub invariant-loop-index : goal.invariant-loop-index
invariant-loop-index l = (items l.words ≡ input_words l.index l.assignment) × (l.rank ≡ undecided l.index l.assignment) × (l.rank ≤ l.index)
