use Rattle.std.proofs.Common.{◌≡◌, ◌-◌, map, drop}
use Rattle.rules.specs.Rules.{as_rule, first_wanted, scanned}
use Rattle.rules.proofs.find_forced.Given as goal

abbrev pub invariant-loop-variable : goal.invariant-loop-variable
invariant-loop-variable l = first_wanted 0 l.variables l.rule l.assignment ≡ first_wanted l.variable (l.variables - l.variable) l.rule l.assignment

abbrev pub invariant-loop-set : goal.invariant-loop-set
invariant-loop-set l = scanned l.variables (map (as_rule l.as_bars) l.sets) l.assignment ≡ scanned l.variables (map (as_rule l.as_bars) (drop l.set-index l.sets)) l.assignment
