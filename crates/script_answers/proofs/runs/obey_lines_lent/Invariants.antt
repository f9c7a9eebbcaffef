use Rattle.sheets.specs.Sheets.{sheet_meaning}
use Rattle.script_runs.specs.Keeping.{Keeps}
use Rattle.script_answers.proofs.runs.obey_lines_lent.Given as goal

abbrev pub invariant-loop-line : goal.invariant-loop-line
invariant-loop-line g l =
    (goal.iterator-loop-line g).can_next l.line-iterator
    × (goal.iterator-loop-line g).is_finite l.line-iterator
    × Keeps (sheet_meaning g.M.Solver l.make) (sheet_meaning g.B.Solver l.brk) l.kept
