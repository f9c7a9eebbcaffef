use Rattle.std.proofs.Common.{◌≡◌, ◌≤◌}
use Rattle.search.specs.Assignments.{undecided}
use Rattle.lanes.proofs.count_undecided.Given as goal

abbrev pub invariant-loop-index : goal.invariant-loop-index
invariant-loop-index l = (l.rank ≡ undecided l.index l.assignment) × (l.rank ≤ l.index)
