use Rattle.std.proofs.Common.{◌≡◌}
use Rattle.std.specs.VecDeque.{deque_len}
use Rattle.sheets.specs.Sheets.{sheet_meaning}
use Rattle.tickets.specs.Tickets.{tickets_of, none_held}
use Rattle.tickets.proofs.calls.give_each_back.Given as goal

-- the tickets left are those of the assumptions still held, and nothing else has changed
abbrev pub invariant-loop-ticket : goal.invariant-loop-ticket
invariant-loop-ticket g l =
    (l.left.items ≡ tickets_of (sheet_meaning g.S.Solver l.sheet))
    × (none_held (sheet_meaning g.S.Solver l.sheet) ≡ none_held (sheet_meaning g.S.Solver l.initial.sheet))

abbrev pub decreases-loop-ticket : goal.decreases-loop-ticket
decreases-loop-ticket g l = deque_len l.left
