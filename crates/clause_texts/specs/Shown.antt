-- How an answer to LEAST prints.
use Rattle.std.specs.Prelude.{ℕ, List, ◌++◌, length, ℤ, Ok, Err, Result, codes, decimal}
use Rattle.std.specs.Borrow.{Bor}
use Rattle.faults.specs.declared.SheetFault.{SheetFault}
use Rattle.faults.specs.Refusals.{sheet_refusal}
use Rattle.faults.specs.Shown.{brief_text}
use Rattle.literals.specs.Shown.{spaced_text}
use Rattle.clause_texts.specs.declared.shown.LeastLines.{LeastLines}

-- `contacts`, their number, and on the next line `least` and the literals; or `refused`, the number and the place
abbrev pub answer_text : Result (Bor (List ℤ)) SheetFault → List ℕ
answer_text (Ok ls) = codes "contacts " ++ (decimal (length ls.now) ++ (codes "\nleast" ++ spaced_text ls.now))
answer_text (Err f) = brief_text (record { refusal = sheet_refusal f })

abbrev pub least_text : LeastLines → List ℕ
least_text lines = answer_text lines.answer
