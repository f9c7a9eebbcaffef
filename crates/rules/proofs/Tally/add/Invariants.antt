use Rattle.std.proofs.Common.{◌≡◌, ◌||◌, map, drop}
use Rattle.rules.specs.Rules.{as_rule, any_unmet, has_unmet}
use Rattle.rules.proofs.Tally.add.Given as goal

abbrev pub invariant-loop-set : goal.invariant-loop-set
invariant-loop-set l = (has_unmet l.initial.self || any_unmet l.variables (map (as_rule l.as_bars) l.sets) l.assignment) ≡ (has_unmet l.self || any_unmet l.variables (map (as_rule l.as_bars) (drop l.set-index l.sets)) l.assignment)
