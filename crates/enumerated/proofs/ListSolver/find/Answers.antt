use Rattle.std.proofs.Common.{rules, ◌∙◌}
use Rattle.std.proofs.lemmas.Iterator.{YieldsList-from_slice}
use Rattle.std.proofs.lemmas.Iterator.Search.{find_from_yields_List}
use Rattle.settings.specs.Readings.{reading}
use Rattle.enumerated.specs.Enumerated.{passes_with}
use Rattle.enumerated.proofs.Passing.{first_answers}
use Rattle.enumerated.proofs.ListSolver.find.Goals as goal

pub returns : goal.returns
returns c =
    let s = c.args.self.now in
    let ls = c.args.literals.now in
    let e = c.copied.ensures ∙ find_from_yields_List (λ x. passes_with s.additions ls (reading s.count.contacts x)) _ _ c.find.result c.find.ensures.ran (YieldsList-from_slice s.allowed.now cc) (λ x b q k. search rules) in
    record { first = e; answer = first_answers s.count.contacts s.additions s.allowed.now ls _ e }
