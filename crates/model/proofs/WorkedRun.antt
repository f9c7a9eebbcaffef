-- The worked run computes.
use Rattle.std.proofs.Common.{refl}
use Rattle.settings.specs.Least.{least}
use Rattle.laws.specs.Choices.{trim}
use Rattle.laws.specs.Terms.{next_term, gather, terms}
use Rattle.model.specs.WorkedRun.{WorkedRun}

pub worked_run : WorkedRun
unfolding least trim next_term gather terms
worked_run = record {
  new = record { make = record { no_rules = refl; none_held = refl; none_issued = refl }; brk = record { no_rules = refl; none_held = refl; none_issued = refl } };
  answers = (refl, (refl, (refl, (refl, (refl, (refl, (refl, (refl, (refl, (refl, (refl, (refl, (refl, (refl, tt))))))))))))));
}
