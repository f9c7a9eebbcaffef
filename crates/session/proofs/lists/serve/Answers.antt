use Rattle.std.proofs.Common.{arith}
use Rattle.session.proofs.Serving.{serving_more}
use Rattle.session.proofs.lists.serve.Goals as goal

pub loop-request-preserved : goal.loop-request-preserved
loop-request-preserved g c = (
  omega (arith, c.loop-request.invariant.0, c.in-Some.ensures.len, c.push_reserved.ensures.len, c.push_reserved.ensures.capacity),
  serving_more g.M.Solver g.B.Solver _ _ _ _ _ _ _ _ c.in-Some.request c.take_turn.result c.loop-request.invariant.1 c.in-Some.ensures.items c.push_reserved.ensures.items c.take_turn.ensures.by_the_model,
)
