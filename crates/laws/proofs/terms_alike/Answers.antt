use Rattle.laws.proofs.Terms.{terms_alike}
use Rattle.laws.proofs.terms_alike.Goals as goal

pub returns : goal.returns
returns c = record { same_card = terms_alike }
