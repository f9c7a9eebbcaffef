use Rattle.std.proofs.Common.{◌-◌, length, take, Err, ap, ◌∙◌, arith}
use Rattle.std.proofs.lemmas.Result.{err_from_is_err_and}
use Rattle.sheets.specs.Answers.{told, written}
use Rattle.aiger.specs.Aag.{read_aag}
use Rattle.gate_texts.proofs.Loaded.{loading_refused, loaded_answer, loaded_room}
use Rattle.gate_texts.proofs.least_of_text.Goals as goal

pub returns : goal.returns
returns c =
    let e = c.in_ok-network.ensures in
    let z = c.in_ok-network.network in
    let same = loaded_answer c.args.n (length c.args.store.now) (length c.args.out.now) c.args.text.now z c.args.store.now _ e.answer (ap (take (z.count - 0)) e.store) in
    record { answer = c.least_of_gates.ensures.answer ∙ ap told same; buffer = c.least_of_gates.ensures.buffer ∙ ap (λ a. written a c.args.out.now) same }

pub returns-in_err-network : goal.returns-in_err-network
returns-in_err-network c =
    let e = loading_refused c.args.n (length c.args.store.now) (length c.args.out.now) (read_aag c.args.text.now) _ c.in_err-network.ensures.answer in
    let p = err_from_is_err_and c.from_residual.result c.from_residual.ensures.1 in
    record { answer = p.1 ∙ ap Err p.2 ∙ ap told e; buffer = ap (λ a. written a c.args.out.now) e }

pub slice_bounds-least_of_gates-end : goal.slice_bounds-least_of_gates-end
slice_bounds-least_of_gates-end c = omega (arith, loaded_room c.args.n (length c.args.store.now) (read_aag c.args.text.now) c.in_ok-network.network c.in_ok-network.ensures.answer)
