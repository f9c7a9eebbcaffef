use Rattle.std.proofs.Common.{[], ◌∷◌, decimal}
use Rattle.dimacs_write.proofs.Buffers.{put_append}
use Rattle.dimacs_write.proofs.Output.spaced.Goals as goal

pub returns-clause-put : goal.returns-clause-put
returns-clause-put c = put_append c.args.self.now c.number.new.self c.byte.new.self (decimal c.args.number) (32 ∷ []) c.number.ensures.put c.byte.ensures.put
