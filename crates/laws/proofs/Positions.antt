-- The worked positions compute.
use Rattle.std.proofs.Common.{refl}
use Rattle.settings.specs.Least.{least}
use Rattle.laws.specs.Choices.{trim}
use Rattle.laws.specs.Terms.{next_term, gather, terms}
use Rattle.laws.specs.Positions.{Positions}

pub positions : Positions
unfolding least trim next_term gather terms
positions =
    record {
      least_of_none_held = refl;
      least_of_one_held = refl;
      least_of_two_held = refl;
      why_of_two_held = refl;
      why_of_smallest_number = refl;
      its_number = refl;
      first_alone_enough = refl;
      first_alone_number = refl;
      why_of_empty_rule = refl;
      why_of_one_twice = refl;
      terms_of_two = refl;
      terms_before_striking = refl;
      terms_first_struck = refl;
      terms_of_no_rules = refl;
      its_place = refl;
      least_with_inner = refl;
    }
