use Rattle.std.proofs.Common.{length, ap, ◌∙◌}
use Rattle.sheets.specs.Answers.{told, written}
use Rattle.clause_texts.proofs.Loaded.{sheet_answer}
use Rattle.clause_texts.proofs.least_of_rules.Goals as goal

pub returns : goal.returns
returns c =
    let k = c.in_ok-counts.ensures.counted in
    let out = c.args.out.now in
    let e = sheet_answer c.args.loaded.vars c.args.n c.in_ok-counts.counts.contacts c.in_ok-counts.counts.inner (length out) c.args.loaded.rules.now c.new-solver.result c.new-cache.result.below _ k.0 k.1 k.2 c.new-solver.ensures.meaning c.new-cache.ensures.solver c.open-sheet.ensures.opened in
    record { answer = c.least.ensures.answer ∙ ap told e; buffer = c.least.ensures.buffer ∙ ap (λ a. written a out) e }
