use Rattle.std.proofs.Common.{◌≡◌, map, drop}
use Rattle.rules.specs.Rules.{as_rule}
use Rattle.lanes.specs.Words.{all_lanes, all_met_word}
use Rattle.lanes.proofs.all_met_word.Given as goal

abbrev pub invariant-loop-set : goal.invariant-loop-set
invariant-loop-set l = all_met_word l.all (map (as_rule l.as_bars) (drop l.set-index l.sets)) l.inputs ≡ all_met_word all_lanes (map (as_rule l.as_bars) l.sets) l.inputs
