use Rattle.std.proofs.Common.{sym, ◌∙◌}
use Rattle.std.proofs.lemmas.Bool.{le-ltb}
use Rattle.settings.proofs.Recorded.{reading_at, reading_beyond}
use Rattle.settings.proofs.Setting.is_closed.Goals as goal

pub returns-then-index-n : goal.returns-then-index-n
returns-then-index-n c = record { closed = c.has_bit.ensures.set ∙ sym (reading_at c.args.n c.args.self c.args.index c.if-index-n.true) }

pub returns-else-index-n : goal.returns-else-index-n
returns-else-index-n c = record { closed = le-ltb _ _ c.if-index-n.false ∙ sym (reading_beyond c.args.n c.args.self c.args.index c.if-index-n.false) }
