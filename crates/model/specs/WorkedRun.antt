-- A worked run: calls on a new pair of two contacts, and what each is answered.
use Rattle.std.specs.Prelude.{ℕ, true, List, [], ◌∷◌, replicate, ℤ, pos, neg_ℤ}
use Rattle.faults.specs.declared.Layer.TheVariants.{Solver, Sheet}
use Rattle.faults.specs.Refusals.{refused}
use Rattle.settings.specs.declared.Term.{Term}
use Rattle.sheets.specs.declared.Ticket.{Ticket}
use Rattle.model.specs.declared.Side.TheVariants.{Make, Break}
use Rattle.model.specs.Model.{SheetModel, PairModel}
use Rattle.model.specs.Calls.{Call, RULE, ASSUME, RELEASE, LEAST, WHY, TERMS, done, issued, least_written, reason_written, terms_written, nothing, same_ticket, same_literals, same_terms, Reply, accepted, denied}
use Rattle.model.specs.Guarantee.{Event, NewPair, ByTheModel}

-- a new sheet of two contacts that allows every setting, and a pair of such sheets with the labels 7 and 8
abbrev free_sheet : ℕ → SheetModel
free_sheet label = record { contacts = 2; label = label; new = λ x. true; rules = []; held = []; count = 0 }

abbrev pub free_pair : PairModel
free_pair = record { make = free_sheet 7; brk = free_sheet 8 }

-- contact k wanted closed, and wanted open
abbrev closed : ℕ → ℤ
closed k = pos k

abbrev opened : ℕ → ℤ
opened k = neg_ℤ (pos k)

abbrev ticket : ℕ → ℕ → Ticket
ticket label number = record { label = label; number = number }

-- a term that wants contacts closed of these weights together, and none open
abbrev term : ℕ → Term
term weights = record { closed = weights; opened = 0 }

abbrev told : Call → Reply → Event
told c r = record { call = c; reply = r }

abbrev pub worked_run : List Event
worked_run =
    told (RULE Make (closed 1 ∷ closed 2 ∷ [])) (accepted done)
    ∷ told (LEAST Make (pos 9 ∷ pos 9 ∷ pos 9 ∷ [])) (accepted (least_written (opened 1 ∷ closed 2 ∷ pos 9 ∷ [])))
    ∷ told (ASSUME Make (opened 2)) (accepted (issued (ticket 7 1)))
    ∷ told (ASSUME Make (opened 1)) (accepted (issued (ticket 7 2)))
    ∷ told (LEAST Make (pos 9 ∷ pos 9 ∷ [])) (denied (refused 11 0 Sheet) (same_literals (pos 9 ∷ pos 9 ∷ [])))
    ∷ told (WHY Make (pos 9 ∷ pos 9 ∷ pos 9 ∷ [])) (accepted (reason_written 2 (opened 2 ∷ opened 1 ∷ pos 9 ∷ [])))
    ∷ told (RELEASE Break (ticket 7 1)) (denied (refused 9 0 Sheet) (same_ticket (ticket 7 1)))
    ∷ told (RELEASE Make (ticket 7 1)) (accepted done)
    ∷ told (LEAST Make (pos 9 ∷ pos 9 ∷ [])) (accepted (least_written (opened 1 ∷ closed 2 ∷ [])))
    ∷ told (RULE Break (closed 1 ∷ closed 3 ∷ [])) (denied (refused 5 1 Solver) nothing)
    ∷ told (TERMS (replicate 64 (term 9))) (denied (refused 14 1 Sheet) (same_terms (replicate 64 (term 9))))
    ∷ told (RULE Break (opened 1 ∷ [])) (accepted done)
    ∷ told (RULE Break (opened 2 ∷ [])) (accepted done)
    ∷ told (TERMS (replicate 64 (term 9))) (accepted (terms_written 2 (term 1 ∷ term 2 ∷ replicate 62 (term 9))))
    ∷ []

pub record WorkedRun : Type 0 where
  pub new : NewPair free_pair
  pub answers : ByTheModel free_pair worked_run
