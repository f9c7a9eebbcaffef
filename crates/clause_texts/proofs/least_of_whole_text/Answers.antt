use Rattle.std.proofs.Common.{length, Err, ap, ◌∙◌}
use Rattle.std.proofs.lemmas.Result.{err_from_is_err_and}
use Rattle.sheets.specs.Answers.{told, written}
use Rattle.dimacs.specs.Cnf.{read_cnf}
use Rattle.clause_texts.specs.Answer.{text_least}
use Rattle.clause_texts.proofs.Loaded.{own_variables, refused_size}
use Rattle.clause_texts.proofs.least_of_whole_text.Goals as goal

pub returns-in_err-least_of_text : goal.returns-in_err-least_of_text
returns-in_err-least_of_text c =
    let r = read_cnf c.args.text.now in
    let e = ap (λ n. text_least n (length c.args.store.now) (length c.args.out.now) r) (own_variables r c.in_ok-n.field-0 c.in_ok-n.ensures.reads) in
    let t = c.in_err-least_of_text.ensures in
    let p = err_from_is_err_and c.from_residual-in_err-least_of_text.result c.from_residual-in_err-least_of_text.ensures.1 in
    record { answer = p.1 ∙ ap Err p.2 ∙ refused_size _ _ _ (t.answer ∙ ap told e); buffer = t.buffer ∙ ap (λ a. written a c.args.out.now) e }
