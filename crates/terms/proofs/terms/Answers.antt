use Rattle.std.proofs.Common.{List, ap, ◌∙◌}
use Rattle.settings.specs.declared.Term.{Term}
use Rattle.sheets.specs.Answers.{counted, written}
use Rattle.sheets.specs.Sheets.{SheetMeaning, sheet_meaning}
use Rattle.terms.proofs.Written.{steps_told, terms_written}
use Rattle.terms.proofs.terms.Goals as goal

pub returns : goal.returns
returns g c =
    let p : SheetMeaning = sheet_meaning g.M.Solver c.args.make.now in
    let q : SheetMeaning = sheet_meaning g.B.Solver c.args.brk.now in
    let out : List Term = c.args.out.now in
    let steps = steps_told p q out c.args.make.now.no_bars in
    let answer = c.write_terms.ensures.answer ∙ ap counted steps in
    let buffer = c.write_terms.ensures.buffer ∙ ap (λ r. written r out) steps in
    record {
      answer = answer;
      buffer = buffer;
      card = terms_written p q out c.write_terms.new.out c.write_terms.result buffer answer;
      make_kept = c.write_terms.ensures.make_kept;
      break_kept = c.write_terms.ensures.break_kept;
    }
