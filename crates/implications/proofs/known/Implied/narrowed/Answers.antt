use Rattle.std.proofs.Common.{◌+◌, get_or, None, sym, ap, ◌∙◌}
use Rattle.implications.specs.Ternaries.{taken_from}
use Rattle.implications.proofs.Implying.{narrowed_more}
use Rattle.implications.proofs.known.Implied.narrowed.Goals as goal

pub loop-index-preserved : goal.loop-index-preserved
loop-index-preserved c =
    let k = c.loop-index.index in
    let ts = c.args.self.now.values in
    c.take-narrower.ensures.taken ∙ ap (λ a. taken_from a k (get_or ts (k + 1) None)) c.loop-index.invariant ∙ sym (narrowed_more k ts c.args.assignment)
