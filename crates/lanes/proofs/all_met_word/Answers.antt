use Rattle.std.proofs.Common.{◌+◌, map, drop, sym, ap, ◌∙◌}
use lib.Bits.{bit_and}
use Rattle.std.proofs.lemmas.List.{at_drop_all}
use Rattle.rules.specs.Rules.{as_rule}
use Rattle.lanes.specs.Words.{met_word, all_met_word}
use Rattle.lanes.proofs.Steps.{all_met_more}
use Rattle.lanes.proofs.all_met_word.Goals as goal

pub loop-set-preserved : goal.loop-set-preserved
loop-set-preserved c =
    let i = c.loop-set.set-index in
    let ws = c.args.inputs.now in
    let ss = c.args.sets.now in
    ap (λ w. all_met_word (bit_and c.loop-set.all w) (map (as_rule c.args.as_bars) (drop (i + 1) ss)) ws) (c.met_word-all.ensures.lanes ∙ ap (λ s. met_word 0 0 s ws) c.rule_of.ensures.rule)
    ∙ all_met_more c.loop-set.all i c.args.as_bars ss ws c.loop-set-test.true ∙ c.loop-set.invariant

pub returns : goal.returns
returns c =
    record { lanes = sym (at_drop_all (λ ss. all_met_word c.loop-set.all (map (as_rule c.args.as_bars) ss) c.args.inputs.now) c.args.sets.now c.loop-set.set-index c.loop-set-test.false) ∙ c.loop-set.invariant }
