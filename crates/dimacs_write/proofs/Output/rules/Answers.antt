use Rattle.std.proofs.Common.{◌+◌, ◌≤◌, length, get_or, drop, ap, arith, drop_of_length-le}
use Rattle.std.proofs.lemmas.List.{at_drop_more}
use Rattle.literals.specs.Literals.{no_literals, listed}
use Rattle.dimacs_write.specs.Texts.{rule_text, set_texts}
use Rattle.dimacs_write.proofs.Buffers.{put_both, put_none}
use Rattle.dimacs_write.proofs.Output.rules.Goals as goal

pub loop-set-preserved : goal.loop-set-preserved
loop-set-preserved c =
    let V = c.args.loaded.vars in
    let rs = c.args.loaded.rules.now in
    let i = c.loop-set.set-index in
    let told = c.rule.ensures in (
      λ last rest. c.loop-set.invariant.0 last (put_both c.loop-set.self c.rule.new.self last (rule_text (listed V (get_or rs i no_literals))) (set_texts V (drop (i + 1) rs)) (set_texts V (drop i rs)) (at_drop_more (set_texts V) rs i no_literals c.loop-set-test.true) told.put rest),
      omega (arith, c.loop-set.invariant.1, told.most),
    )

pub returns : goal.returns
returns c =
    let rs = c.args.loaded.rules.now in
    let past : length rs ≤ c.loop-set.set-index = omega arith in
    record { put = c.loop-set.invariant.0 c.loop-set.self (put_none c.loop-set.self (set_texts c.args.loaded.vars (drop c.loop-set.set-index rs)) (ap (set_texts c.args.loaded.vars) (drop_of_length-le rs past))) }
