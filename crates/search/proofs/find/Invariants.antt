use Rattle.std.proofs.Common.{◌≡◌, length}
use Rattle.search.specs.Search.{depth}
use Rattle.search.proofs.Machine.{Underway, weight}
use Rattle.search.proofs.find.Given as goal

abbrev pub invariant-machine : goal.invariant-machine
invariant-machine g l = Underway (g.L.Look.size l.look) (g.L.Look.good l.look) l.initial.current l.current l.pending (depth l.state) × (length l.pending ≡ 64)

abbrev pub decreases-machine : goal.decreases-machine
decreases-machine g l = weight (g.L.Look.size l.look) l.current l.pending (depth l.state)
