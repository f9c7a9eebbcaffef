use Rattle.std.proofs.Common.{length, take, Err, ap, ◌∙◌}
use Rattle.std.proofs.lemmas.Result.{err_from_is_err_and}
use Rattle.sheets.specs.Answers.{told, written}
use Rattle.dimacs.specs.Cnf.{read_cnf}
use Rattle.clause_texts.specs.Answer.{sheet_least}
use Rattle.clause_texts.proofs.Loaded.{loading_refused, loaded_answer}
use Rattle.clause_texts.proofs.least_of_text.Goals as goal

pub returns : goal.returns
returns c =
    let e = c.in_ok-size.ensures in
    let size = c.in_ok-size.size in
    let rules = c.rules_in.result.rules.now in
    let vars = ap (λ V. sheet_least V c.args.n rules (length c.args.out.now)) c.rules_in.ensures.vars in
    let same = vars ∙ loaded_answer c.args.n (length c.args.store.now) (length c.args.out.now) c.args.text.now size c.args.store.now rules e.answer (c.rules_in.ensures.rules ∙ ap (take size.count) e.store) in
    record { answer = c.least_of_rules.ensures.answer ∙ ap told same; buffer = c.least_of_rules.ensures.buffer ∙ ap (λ a. written a c.args.out.now) same }

pub returns-in_err-size : goal.returns-in_err-size
returns-in_err-size c =
    let e = loading_refused c.args.n (length c.args.store.now) (length c.args.out.now) (read_cnf c.args.text.now) _ c.in_err-size.ensures.answer in
    let p = err_from_is_err_and c.from_residual.result c.from_residual.ensures.1 in
    record { answer = p.1 ∙ ap Err p.2 ∙ ap told e; buffer = ap (λ a. written a c.args.out.now) e }
