use Rattle.std.proofs.Common.{◌+◌, drop, sym, ap, ◌∙◌}
use lib.Bits.{bit_or}
use Rattle.std.proofs.lemmas.List.{at_drop_all}
use Rattle.lanes.specs.Words.{met_word}
use Rattle.lanes.proofs.Steps.{met_more}
use Rattle.lanes.proofs.met_word.Goals as goal

pub loop-index-preserved : goal.loop-index-preserved
loop-index-preserved c =
    let i = c.loop-index.index in
    let ws = c.args.inputs.now in
    ap (λ w. met_word (bit_or c.loop-index.met w) (i + 1) c.args.rule (drop (i + 1) ws)) c.literals_word-met.ensures.lanes
    ∙ met_more c.loop-index.met i c.args.rule ws c.loop-index-test.true ∙ c.loop-index.invariant

pub returns : goal.returns
returns c =
    let i = c.loop-index.index in
    record { lanes = sym (at_drop_all (met_word c.loop-index.met i c.args.rule) c.args.inputs.now i c.loop-index-test.false) ∙ c.loop-index.invariant }
