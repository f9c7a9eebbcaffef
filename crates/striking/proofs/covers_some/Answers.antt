use Rattle.std.proofs.Common.{◌≡◌, ℕ, min, sym, ap, ◌∙◌, arith}
use Rattle.settings.specs.Least.{some}
use Rattle.settings.specs.TermRecords.{wanted}
use Rattle.settings.proofs.Wanted.{wanted_named}
use Rattle.solver.specs.Meaning.{Meaning, stands_with}
use Rattle.solver.specs.Over.{meaning_of}
use Rattle.queries.specs.Queries.{possible_with}
use Rattle.queries.proofs.Answers.{possible_named}
use Rattle.striking.specs.Striking.{wanted_in}
use Rattle.striking.proofs.covers_some.Goals as goal

pub returns : goal.returns
returns g c =
    let m : Meaning = meaning_of g.S.Solver c.args.solver.now in
    let n : ℕ = m.contacts in
    let t = c.args.term in
    let few = (g.S.Solver.few c.args.solver.now).1 in
    let asked : c.as_slice.result.now ≡ wanted_in m t = c.as_slice.ensures.entries ∙ c.literals-literals.ensures.listed ∙ ap (λ k. wanted (min k 32) t) c.contacts.ensures.count in
    let own : wanted_in m t ≡ wanted n t = ap (λ k. wanted k t) (omega arith) in
    record {
      some = c.is_some.ensures ∙ c.witness.ensures.found ∙ ap (possible_with m) (asked ∙ own) ∙ possible_named m (wanted n t) (wanted_named n t) ∙ ap (λ ls. some n (stands_with m ls)) (sym own);
      meaning_kept = c.witness.ensures.meaning_kept;
    }
