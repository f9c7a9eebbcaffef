use Rattle.std.proofs.Common.{◌≡◌, ◌-◌}
use Rattle.stores.specs.Stores.{verdict}
use Rattle.stores.proofs.passes.read_through.Given as goal

abbrev pub invariant-loop : goal.invariant-loop
invariant-loop g l =
    verdict (g.R.Records.reading (g.R.Records.number l.initial.records) l.initial.records)
    ≡ verdict (g.R.Records.reading (l.end - l.counter) l.records)
