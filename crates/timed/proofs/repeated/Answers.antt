use Rattle.std.proofs.Common.{[], ◌∷◌, ◌++◌, arith, of_calls}
use Rattle.std.proofs.lemmas.Fn.{FoldsTo-push}
use Rattle.std.proofs.lemmas.List.{length-append}
use Rattle.timed.proofs.repeated.Goals as goal

pub loop-call-preserved : goal.loop-call-preserved
loop-call-preserved g c =
    let before = c.loop-call.invariant.2 in
    let more = length-append before.0 (c.answer.result ∷ []) in
    (search of_calls, omega arith, (before.0 ++ c.answer.result ∷ [], omega (arith, more, before.1), FoldsTo-push _ _ _ _ _ _ before.2 c.answer.ensures))

pub returns : goal.returns
returns g c =
    let before = c.loop-call.invariant.2 in
    record { called_so_often = (before.0, c.loop-call.answer, c.answer-2.new.self, omega (arith, before.1), before.2, c.answer-2.ensures) }
