use Rattle.std.proofs.Common.{◌≡◌, length, Ok, sym, ap, ◌∙◌}
use Rattle.sheets.specs.Sheets.{sheet_meaning}
use Rattle.sheets.specs.Answers.{counted, written}
use Rattle.trials.specs.Trials.{answer_to}
use Rattle.trials.specs.declared.Question.TheVariants.{Least}
use Rattle.trials.proofs.Steps.{least_counted}
use Rattle.trials.proofs.put.Goals as goal

pub returns-in_ok-least-in-Least : goal.returns-in_ok-least-in-Least
returns-in_ok-least-in-Least g c =
    let p = sheet_meaning g.S.Solver c.args.sheet.now in
    let size = length c.args.out.now in
    let kept : sheet_meaning g.S.Solver c.least.new.self ≡ p = c.least.ensures.meaning_kept in
    let which : c.args.question ≡ Least = c.in-Least.is in
    record {
      answer = ap Ok (c.contacts.ensures.count ∙ ap (λ m. m.meaning.contacts) kept) ∙ least_counted p size c.in_ok-least-in-Least.ensures.answer ∙ ap (λ q. counted (answer_to q size p)) (sym which);
      buffer = c.least.ensures.buffer ∙ ap (λ q. written (answer_to q size p) c.args.out.now) (sym which);
      meaning_kept = kept;
    }
