use Rattle.std.proofs.Common.{◌≡◌, take}
use Rattle.tables.specs.Tables.{items}
use Rattle.networks.specs.Evaluation.{extended}
use Rattle.networks.proofs.evaluation.follow.Given as goal

abbrev pub invariant-loop-gate : goal.invariant-loop-gate
invariant-loop-gate g l = items l.values ≡ extended g.V.Value.zero g.V.Value.opposite g.V.Value.both (items l.initial.values) (take l.gate-index l.gates)
