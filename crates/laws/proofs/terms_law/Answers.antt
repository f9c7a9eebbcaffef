use Rattle.laws.proofs.Terms.{terms_law}
use Rattle.laws.proofs.terms_law.Goals as goal

pub returns : goal.returns
returns c = record { card_or_refusal = terms_law }
