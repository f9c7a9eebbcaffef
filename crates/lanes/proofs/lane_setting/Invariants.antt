use Rattle.std.proofs.Common.{◌≡◌, ℕ, ◌^◌, ◌<◌, get_or}
use Rattle.literals.specs.Bits.{bit}
use Rattle.lanes.proofs.lane_setting.Given as goal

abbrev pub invariant-loop-index : goal.invariant-loop-index
invariant-loop-index l = (l.closed < 2 ^ l.index) × ((k : ℕ) → k < l.index → bit l.closed k ≡ bit (get_or l.words k 0) l.lane)
