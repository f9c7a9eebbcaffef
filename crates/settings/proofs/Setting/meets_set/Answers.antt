use Rattle.std.proofs.Common.{◌∙◌}
use Rattle.literals.specs.Bits.{bit}
use Rattle.settings.proofs.Scans.{meets_by_any}
use Rattle.settings.proofs.Setting.meets_set.Goals as goal

pub returns : goal.returns
returns c = record { met = c.any_held.ensures.any ∙ meets_by_any (bit c.args.self.closed) c.args.rule 0 c.args.n }
