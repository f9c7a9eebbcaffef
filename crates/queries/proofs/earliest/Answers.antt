use Rattle.std.proofs.Common.{Ok, sym, ap, ◌∙◌, subst}
use Rattle.std.specs.Option.{option_map}
use Rattle.settings.specs.Settings.{literals}
use Rattle.settings.specs.Readings.{reading}
use Rattle.tables.specs.Tables.{items}
use Rattle.laws.proofs.Least.{least_none}
use Rattle.solver.specs.Meaning.{stands_with, literal_fault, Answers}
use Rattle.solver.specs.Over.{meaning_of}
use Rattle.queries.specs.Queries.{answered, least_literals}
use Rattle.queries.proofs.Answers.{told}
use Rattle.queries.proofs.earliest.Goals as goal

pub returns-in-None : goal.returns-in-None
returns-in-None g c =
    let m = meaning_of g.S.Solver c.args.solver.now in
    let held = items c.args.held.now in
    let h = told m c.as_slice.result.now held c.in_ok-ask.field-0 c.as_slice.ensures.entries c.in_ok-ask.ensures.answer in
    let none = least_none m.contacts (stands_with m held) (subst (Answers m held) c.in-None.is h.1) in
    record {
      answer = sym (ap (λ o. answered o (least_literals m held)) h.0 ∙ ap (λ o. Ok (option_map (literals 0) o)) none);
      meaning_kept = c.ask.ensures.meaning_kept;
    }

pub decided-requires : goal.decided-requires
decided-requires g c =
    let m = meaning_of g.S.Solver c.args.solver.now in
    let held = items c.args.held.now in
    let h = told m c.as_slice.result.now held c.in_ok-ask.field-0 c.as_slice.ensures.entries c.in_ok-ask.ensures.answer in
    let same = c.ask.ensures.meaning_kept in
    record {
      named = ap (λ v. literal_fault v held) same ∙ h.0;
      shown = ap (λ v. stands_with v held (reading v.contacts c.in-Some.first)) same ∙ subst (Answers m held) c.in-Some.is h.1;
    }

pub returns-in-Some : goal.returns-in-Some
returns-in-Some g c =
    let m = meaning_of g.S.Solver c.args.solver.now in
    let held = items c.args.held.now in
    let h = told m c.as_slice.result.now held c.in_ok-ask.field-0 c.as_slice.ensures.entries c.in_ok-ask.ensures.answer in
    let same = c.ask.ensures.meaning_kept in
    record {
      answer = ap Ok (c.decided.ensures.earliest ∙ ap (λ v. least_literals v held) same) ∙ sym (ap (λ o. answered o (least_literals m held)) h.0);
      meaning_kept = c.decided.ensures.meaning_kept ∙ same;
    }
