use Rattle.std.proofs.Common.{◌∙◌}
use Rattle.literals.specs.Bits.{bit}
use Rattle.settings.proofs.Scans.{covers_by_all}
use Rattle.settings.proofs.Setting.is_covered.Goals as goal

pub returns : goal.returns
returns c = record { covered = c.none_opposed.ensures.all ∙ covers_by_all (bit c.args.self.closed) c.args.bar 0 c.args.n }
