use Rattle.std.proofs.Common.{sym, ◌∙◌}
use Rattle.std.proofs.lemmas.Bool.{le-ltb}
use Rattle.literals.specs.Bits.{bit}
use Rattle.literals.proofs.Bits.{bit_beyond}
use Rattle.literals.proofs.has_bit.Goals as goal

pub returns-then-index-lt64 : goal.returns-then-index-lt64
unfolding bit
returns-then-index-lt64 c = record { set = c.is_odd.ensures.odd }

pub returns-else-index-lt64 : goal.returns-else-index-lt64
returns-else-index-lt64 c = record { set = le-ltb c.args.index 64 c.if-index-lt64.false ∙ sym (bit_beyond c.args.mask 64 c.args.index c.ranges.mask.fits c.if-index-lt64.false) }
