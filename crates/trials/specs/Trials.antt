-- A trial: literals are assumed one after the other, a question is put, and the tickets are given back, the last one first.
use Rattle.std.specs.Prelude.{ℕ, List, [], ◌∷◌, ℤ, Some, None, Err, Option, Result}
use Rattle.faults.specs.declared.SheetFault.{SheetFault}
use Rattle.sheets.specs.declared.Ticket.{Ticket}
use Rattle.sheets.specs.Sheets.{SheetMeaning, assume_fault, next_ticket, with_held, held_at, after_release}
use Rattle.sheets.specs.Answers.{least_answer, why_answer}
use Rattle.trials.specs.declared.Question.{Question}
use Rattle.trials.specs.declared.Question.TheVariants.{Least, Why}

-- what a sheet answers to a question with a buffer of that length
abbrev pub answer_to : Question → ℕ → SheetMeaning → Result (List ℤ) SheetFault
answer_to Least size p = least_answer p size
answer_to Why size p = why_answer p size

-- where ASSUME refuses, its fault is the answer and the sheet is as it was
abbrev pub unless_refused : Option SheetFault → Result (List ℤ) SheetFault → Result (List ℤ) SheetFault
unless_refused None answer = answer
unless_refused (Some f) answer = Err f

abbrev pub kept_if_refused : Option SheetFault → SheetMeaning → SheetMeaning → SheetMeaning
kept_if_refused None before after = after
kept_if_refused (Some f) before after = before

-- the answer while the literals are held too
abbrev pub answer_under : (SheetMeaning → Result (List ℤ) SheetFault) → SheetMeaning → List ℤ → Result (List ℤ) SheetFault
answer_under question p [] = question p
answer_under question p (l ∷ ls) = unless_refused (assume_fault p l) (answer_under question (with_held p l) ls)

-- the sheet once a ticket is given back to it
abbrev pub given_back : Ticket → SheetMeaning → SheetMeaning
given_back t p = after_release p (held_at p t)

-- the sheet once all tickets are given back
abbrev pub after_trial : SheetMeaning → List ℤ → SheetMeaning
after_trial p [] = p
after_trial p (l ∷ ls) = kept_if_refused (assume_fault p l) p (given_back (next_ticket p) (after_trial (with_held p l) ls))
