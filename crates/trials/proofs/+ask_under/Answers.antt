use Rattle.std.proofs.Common.{◌≡◌, [], ◌∷◌, length, Err, sym, ap, ◌∙◌, subst, w8, SFits, to_z, of_z, rules}
use Rattle.std.proofs.lemmas.List.{nil_from_length}
use Rattle.std.proofs.lemmas.Result.{err_from_is_err_and}
use Rattle.std.proofs.lemmas.Int.{to_z-of_z}
use Rattle.sheets.specs.Sheets.{sheet_meaning, assume_fault, assume_answer, after_assume}
use Rattle.sheets.specs.Answers.{counted, written}
use Rattle.trials.specs.Trials.{answer_to, answer_under, after_trial}
use Rattle.trials.proofs.Steps.{refused_answer, refused_kept, ticket_good}
use Rattle.trials.proofs.+ask_under.Goals as goal

pub returns-in_err-ticket-in-Some : goal.returns-in_err-ticket-in-Some
returns-in_err-ticket-in-Some g t c =
    let p = sheet_meaning g.S.Solver c.args.sheet.now in
    let l = c.in-Some.first.now in
    let ls = c.in-Some.rest.now in
    let question = answer_to c.args.question (length c.args.out.now) in
    let fit : SFits w8 l = search rules in
    let same : to_z w8 (of_z w8 l) ≡ l = to_z-of_z w8 l fit in
    let refused = subst (λ k. Err c.in_err-ticket-in-Some.field-0.0 ≡ assume_answer p (assume_fault p k)) same c.in_err-ticket-in-Some.ensures.answer in
    let after = sheet_meaning g.S.Solver c.assume.new.self in
    let held = subst (λ k. after ≡ after_assume p k (assume_fault p k)) same c.in_err-ticket-in-Some.ensures.held in
    let all : l ∷ ls ≡ c.args.literals.now = sym c.in-Some.ensures.cases.0 in
    let failed = err_from_is_err_and c.from_residual.result c.from_residual.ensures.1 in
    let none : Err c.in_err-ticket-in-Some.field-0.0 ≡ answer_under question p c.args.literals.now = sym (refused_answer p l ls question _ refused) ∙ ap (answer_under question p) all in
    record {
      answer = failed.1 ∙ ap Err failed.2 ∙ ap counted none;
      buffer = ap (λ r. written r c.args.out.now) none;
      given_back = refused_kept p l ls after _ refused held ∙ ap (after_trial p) all;
    }

pub give_back-requires : goal.give_back-requires
give_back-requires g t c =
    let p = sheet_meaning g.S.Solver c.args.sheet.now in
    let l = c.in-Some.first.now in
    record {
      held = ticket_good p (to_z w8 (of_z w8 l)) c.in-Some.rest.now _ _ c.in_ok-ticket-in-Some.ticket c.in_ok-ticket-in-Some.ensures.answer c.in_ok-ticket-in-Some.ensures.held c.ask_under-answer.ensures.given_back;
    }

pub returns-in-None : goal.returns-in-None
returns-in-None g t c =
    let p = sheet_meaning g.S.Solver c.args.sheet.now in
    let question = answer_to c.args.question (length c.args.out.now) in
    let none : [] ≡ c.args.literals.now = sym (nil_from_length c.args.literals.now c.in-None.ensures.cases) in
    record {
      answer = c.put.ensures.answer ∙ ap (λ ls. counted (answer_under question p ls)) none;
      buffer = c.put.ensures.buffer ∙ ap (λ ls. written (answer_under question p ls) c.args.out.now) none;
      given_back = c.put.ensures.meaning_kept ∙ ap (after_trial p) none;
    }
