use Rattle.std.proofs.Common.{sym, ap, ◌∙◌}
use Rattle.sheets.specs.Sheets.{sheet_meaning}
use Rattle.tickets.specs.Tickets.{tickets_of}
use Rattle.script_runs.proofs.Assumed.{assumed_label}
use Rattle.script_runs.proofs.lines.obey_action.Goals as goal

pub returns-in-Make-clause-keeps : goal.returns-in-Make-clause-keeps
returns-in-Make-clause-keeps g c =
    let told = c.assume.ensures in
    let kept = c.requires.keeps in
    record {
      labelled = record {
        make_label = ap (λ s. s.label) told.make_after ∙ assumed_label (sheet_meaning g.M.Solver c.args.make.now) _ _ ∙ kept.labelled.make_label;
        break_label = ap (λ s. s.label) told.break_after ∙ kept.labelled.break_label;
      };
      make_own = told.its_own;
      break_own = kept.break_own ∙ ap tickets_of (sym told.break_after);
    }

pub returns-in-Break-clause-keeps : goal.returns-in-Break-clause-keeps
returns-in-Break-clause-keeps g c =
    let told = c.assume-in-Break.ensures in
    let kept = c.requires.keeps in
    record {
      labelled = record {
        make_label = ap (λ s. s.label) told.make_after ∙ kept.labelled.make_label;
        break_label = ap (λ s. s.label) told.break_after ∙ assumed_label (sheet_meaning g.B.Solver c.args.brk.now) _ _ ∙ kept.labelled.break_label;
      };
      make_own = kept.make_own ∙ ap tickets_of (sym told.make_after);
      break_own = told.its_own;
    }
