-- Writing the rules that a sheet was loaded with.
use Rattle.std.specs.Prelude.{ℕ, List, length, Ok, Err, Result}
use Rattle.faults.specs.declared.SheetFault.{SheetFault}
use Rattle.faults.specs.Refusals.{sheet_refusal}
use Rattle.dimacs_write.specs.Texts.{set_text, written, buffer_after}
use Rattle.script_runs.specs.declared.Source.{Source}
use Rattle.script_runs.specs.declared.Source.TheVariants.{Clauses, Gates}
use Rattle.script_runs.specs.Outcomes.{OutcomeForm, bad, refused, written as shown_written}

-- the text at the buffer's front and its length, or the refusal
abbrev pub written_outcome : Result ℕ SheetFault → List ℕ → List ℕ → OutcomeForm
written_outcome (Ok size) text out = shown_written size (buffer_after (Ok size) text out)
written_outcome (Err f) text out = refused (sheet_refusal f)

-- over a gate text the line is bad
abbrev pub write_outcome : Source → List ℕ → OutcomeForm
write_outcome (Clauses l) out = written_outcome (written l.vars l.rules.now (length out)) (set_text l.vars l.rules.now) out
write_outcome Gates out = bad
