use Rattle.std.proofs.Common.{◌+◌, ◌≤◌, vec_items, vec_len, vec_capacity}
use Rattle.std.specs.VecDeque.{deque_len}
use Rattle.session.proofs.Serving.{Serving}
use Rattle.session.proofs.lists.serve.Given as goal

abbrev pub invariant-loop-request : goal.invariant-loop-request
invariant-loop-request g l =
    (vec_len l.responses + deque_len l.waiting ≤ vec_capacity l.responses)
    × Serving g.M.Solver g.B.Solver (record { make = l.initial.make; brk = l.initial.brk }) (record { make = l.make; brk = l.brk }) l.initial.waiting.items l.waiting.items (vec_items l.responses)

abbrev pub decreases-loop-request : goal.decreases-loop-request
decreases-loop-request g l = deque_len l.waiting
