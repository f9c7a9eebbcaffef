use Rattle.std.proofs.Common.{eqb, ◌∙◌, rules, tests}
use Rattle.std.proofs.lemmas.Iterator.{YieldsList-from_slice}
use Rattle.std.proofs.lemmas.Iterator.Search.{position_from_yields_List}
use Rattle.sheets.proofs.Places.{place_found}
use Rattle.sheets.proofs.calls.place_of.Goals as goal

pub returns : goal.returns
returns c = record { first = position_from_yields_List (λ h. eqb h.number c.args.number) _ _ c.position.result c.position.ensures.ran (YieldsList-from_slice c.args.held.now cc) (λ x b q k. search (rules, tests)) ∙ place_found (λ h. eqb h.number c.args.number) c.args.held.now }
