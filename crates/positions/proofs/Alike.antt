-- Tickets of sheets that have one label and have issued as many, and tickets that are handed back.
use Rattle.std.proofs.Common.{◌≡◌, ℕ, ◌+◌, Bool, true, false, Some, None, Ok, Err, Option, sym, ap, ◌∙◌, ap₂}
use Rattle.std.proofs.lemmas.Bool.{false≢true}
use Rattle.faults.specs.declared.SheetFault.{SheetFault}
use Rattle.faults.specs.declared.SheetFault.TheVariants.{NotHeld}
use Rattle.sheets.specs.declared.Ticket.{Ticket}
use Rattle.sheets.specs.declared.Unreleased.{Unreleased}
use Rattle.sheets.specs.Sheets.{SheetMeaning, assume_answer, release_answer}
use Rattle.trials.proofs.Steps.{accepted_is}

abbrev ticket_of : ℕ → ℕ → Ticket
ticket_of label count = record { label = label; number = count + 1 }

pub same_ticket : (p q : SheetMeaning) (a b : Option SheetFault) (s t : Ticket) → p.label ≡ q.label → p.count ≡ q.count → Ok s ≡ assume_answer p a → Ok t ≡ assume_answer q b → s ≡ t
same_ticket p q a b s t label count left right = (accepted_is p a s left).1 ∙ ap₂ ticket_of label count ∙ sym (accepted_is q b t right).1

pub handed_back : (o : Option ℕ) (t : Ticket) (u : Unreleased) → Err u ≡ release_answer o t → u.ticket ≡ t
handed_back None t u e = let is : u ≡ record { fault = NotHeld; ticket = t } = cc in ap (λ x. x.ticket) is
handed_back (Some place) t u e = absurd (let z : ◌≡◌ {A = Bool} false true = cc in false≢true z)
