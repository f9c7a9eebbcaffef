use Rattle.std.proofs.Common.{map, Some, sym, ap, ◌∙◌}
use Rattle.std.proofs.lemmas.List.{at_drop_all}
use Rattle.rules.specs.Rules.{as_rule, masked, scanned}
use Rattle.rules.proofs.Scans.{wanted_next, wanted_here, wanted_none, scan_next, scan_here}
use Rattle.rules.proofs.find_forced.Goals as goal

pub loop-set-preserved : goal.loop-set-preserved
loop-set-preserved c =
    c.loop-set.invariant
    ∙ scan_next c.args.variables c.args.assignment c.args.as_bars c.args.sets.now c.loop-set.set-index c.loop-set-test.true _ _ c.mask_below-mask.ensures.mask (c.masked-rule.ensures.masked ∙ ap (masked c.mask_below-mask.result) c.rule_of.ensures.rule) (sym c.if-is_quiet.ensures.quiet)

pub loop-variable-preserved : goal.loop-variable-preserved
loop-variable-preserved c = c.loop-variable.invariant ∙ wanted_next c.masked-rule.result c.args.assignment c.args.variables c.loop-variable.variable c.loop-variable-test.true (sym c.in_default.ensures.wanted)

pub returns-in-Some : goal.returns-in-Some
returns-in-Some c = record {
  first = sym
      (c.loop-set.invariant
      ∙ scan_here c.args.variables c.args.assignment c.args.as_bars c.args.sets.now c.loop-set.set-index c.loop-set-test.true _ _ c.mask_below-mask.ensures.mask (c.masked-rule.ensures.masked ∙ ap (masked c.mask_below-mask.result) c.rule_of.ensures.rule) (sym c.if-is_quiet.ensures.quiet)
      ∙ ap Some (c.loop-variable.invariant ∙ wanted_here c.masked-rule.result c.args.assignment c.args.variables c.loop-variable.variable c.in-Some.closed c.loop-variable-test.true (sym c.in-Some.ensures.wanted)));
}

pub returns-after-loop-variable : goal.returns-after-loop-variable
returns-after-loop-variable c = record {
  first = sym
      (c.loop-set.invariant
      ∙ scan_here c.args.variables c.args.assignment c.args.as_bars c.args.sets.now c.loop-set.set-index c.loop-set-test.true _ _ c.mask_below-mask.ensures.mask (c.masked-rule.ensures.masked ∙ ap (masked c.mask_below-mask.result) c.rule_of.ensures.rule) (sym c.if-is_quiet.ensures.quiet)
      ∙ ap Some (c.loop-variable.invariant ∙ wanted_none c.masked-rule.result c.args.assignment c.args.variables c.loop-variable.variable c.loop-variable-test.false));
}

pub returns-after-loop-set : goal.returns-after-loop-set
returns-after-loop-set c =
    record { first = sym (c.loop-set.invariant ∙ at_drop_all (λ ss. scanned c.args.variables (map (as_rule c.args.as_bars) ss) c.args.assignment) c.args.sets.now _ c.loop-set-test.false) }
