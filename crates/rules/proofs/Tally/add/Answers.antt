use Rattle.std.proofs.Common.{◌||◌, map, sym, ap, ◌∙◌}
use Rattle.std.proofs.lemmas.List.{at_drop_all}
use Rattle.rules.specs.Rules.{as_rule, masked, any_unmet, has_unmet}
use Rattle.rules.proofs.Scans.{unmet_next}
use Rattle.rules.proofs.Tally.add.Goals as goal
use Rattle.literals.proofs.Booleans.{or_false}

pub loop-set-preserved : goal.loop-set-preserved
loop-set-preserved c =
    c.loop-set.invariant
    ∙ unmet_next c.args.variables c.args.assignment c.args.as_bars c.args.sets.now c.loop-set.set-index c.loop-set-test.true _ _ c.mask_below-mask.ensures.mask (c.masked.ensures.masked ∙ ap (masked c.mask_below-mask.result) c.rule_of.ensures.rule) (has_unmet c.loop-set.self) _ c.note.ensures.unmet

pub returns : goal.returns
returns c =
    let t = has_unmet c.loop-set.self in
    record { unmet = sym (c.loop-set.invariant ∙ ap (λ b. t || b) (at_drop_all (λ ss. any_unmet c.args.variables (map (as_rule c.args.as_bars) ss) c.args.assignment) c.args.sets.now _ c.loop-set-test.false) ∙ or_false t) }
