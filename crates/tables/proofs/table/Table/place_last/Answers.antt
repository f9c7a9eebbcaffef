use Rattle.std.proofs.Common.{arith}
use Rattle.std.proofs.lemmas.List.{take_more_set}
use Rattle.tables.proofs.table.Table.place_last.Goals as goal

pub returns : goal.returns
returns g c = record { placed = take_more_set c.args.self.now.slots c.args.self.now.len c.args.entry (omega arith) }
