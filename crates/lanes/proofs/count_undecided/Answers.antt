use Rattle.std.proofs.Common.{ap, ◌∙◌, arith}
use Rattle.lanes.specs.Words.{next_rank}
use Rattle.lanes.proofs.Steps.{rank_more, rank_small}
use Rattle.lanes.proofs.count_undecided.Goals as goal

pub loop-index-preserved : goal.loop-index-preserved
loop-index-preserved c =
    let i = c.loop-index.index in
    let a = c.args.assignment in
    let e = c.next_rank-rank.ensures.rank in
    (e ∙ ap (next_rank a i) c.loop-index.invariant.0 ∙ rank_more a i, omega (arith, e, rank_small a i c.loop-index.rank, c.loop-index.invariant.1))
