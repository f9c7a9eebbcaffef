use Rattle.std.proofs.Common.{◌≡◌, ◌+◌, ◌-◌, ◌≤◌, List, length}
use Rattle.std.specs.List.{FoldsTo}
use Rattle.timed.proofs.repeated.Given as goal

abbrev pub invariant-loop-call : goal.invariant-loop-call
invariant-loop-call g l =
    goal.F-IsAlwaysCallable g l.answer
    × (l._call - 1 ≤ l.times - 1)
    × ((earlier : List _) × (length earlier + 1 ≡ l._call) × FoldsTo (λ p r q. goal.F-step g p r q) l.fn.answer earlier l.answer)
