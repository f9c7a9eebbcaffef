use Rattle.std.proofs.Common.{◌≡◌, drop}
use Rattle.lanes.specs.Words.{met_word}
use Rattle.lanes.proofs.met_word.Given as goal

abbrev pub invariant-loop-index : goal.invariant-loop-index
invariant-loop-index l = met_word l.met l.index l.rule (drop l.index l.inputs) ≡ met_word 0 0 l.rule l.inputs
