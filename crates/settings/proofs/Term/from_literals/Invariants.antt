use Rattle.std.proofs.Common.{◌≡◌, take}
use Rattle.settings.specs.TermRecords.{record_of}
use Rattle.settings.proofs.Term.from_literals.Given as goal

abbrev pub invariant-loop-literal : goal.invariant-loop-literal
invariant-loop-literal l = l.term ≡ record_of l.count (take l.literal-index l.literals)
