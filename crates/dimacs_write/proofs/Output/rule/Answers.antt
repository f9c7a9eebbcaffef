use Rattle.std.proofs.Common.{◌≡◌, ◌+◌, ◌-◌, subst, add-one, arith}
use Rattle.literals.specs.Literals.{listed_from}
use Rattle.dimacs_write.specs.Puts.{Put, variable_text}
use Rattle.dimacs_write.specs.Texts.{rule_text}
use Rattle.dimacs_write.proofs.Buffers.{put_both, rule_from}
use Rattle.dimacs_write.proofs.Output.rule.Goals as goal

pub loop-k-preserved : goal.loop-k-preserved
loop-k-preserved c =
    let k = c.loop-k.k in
    let V = c.args.vars in
    let n = V - (k + 1) in
    let s = c.args.set.now in
    let told = c.variable.ensures in (
      λ last rest. c.loop-k.invariant.0 last (put_both c.loop-k.self c.variable.new.self last (variable_text s k) (rule_text (listed_from (k + 1) n s)) (rule_text (listed_from k (V - k) s)) (rule_from (V - k) n k (k + 1) s (omega arith) (add-one k)) told.put rest),
      omega (arith, c.loop-k.invariant.1, told.most),
    )

pub returns-clause-put : goal.returns-clause-put
returns-clause-put c =
    let none : 0 ≡ c.args.vars - c.loop-k.k = omega arith in
    c.loop-k.invariant.0 c.bytes.new.self (subst (λ n. Put c.loop-k.self (rule_text (listed_from c.loop-k.k n c.args.set.now)) c.bytes.new.self) none c.bytes.ensures.put)
