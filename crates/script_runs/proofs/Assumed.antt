-- ASSUME on one sheet of a pair: the room that an accepted one found, and the label.
use Rattle.std.proofs.Common.{◌≡◌, ℕ, ◌<◌, Bool, true, false, cond, ltb, List, length, ℤ, Some, None, Option, refl, ap, ◌∙◌, arith}
use lib.ListN.{length-map}
use Rattle.std.proofs.lemmas.Bool.{ltb-true}
use Rattle.faults.specs.declared.SheetFault.{SheetFault}
use Rattle.literals.specs.Literals.{names}
use Rattle.sheets.specs.declared.Ticket.{Ticket}
use Rattle.sheets.specs.Sheets.{SheetMeaning, assume_fault, assume_answer, after_assume}
use Rattle.model.specs.Calls.{accepted, issued}
use Rattle.session.specs.Served.{assume_says}
use Rattle.tickets.specs.Tickets.{ticket_for, tickets_of}
use Rattle.script_runs.specs.Obeyed.{assume_reply}

-- it was no fault
unfaulted : (s : SheetMeaning) (o : Option SheetFault) (t : Ticket) → accepted (issued t) ≡ assume_says (assume_answer s o) → o ≡ None
unfaulted s None t e = cc
unfaulted s (Some f) t e = absurd (let z : ◌≡◌ {A = ℕ} 0 1 = cc in omega arith)

room_left : (s : SheetMeaning) (l : ℤ) → assume_fault s l ≡ None → length s.held < 32
room_left s l e = go (names s.meaning.contacts l) (ltb (length s.held) 32) refl _ _ _ e
  where
    go : (n k : Bool) → ltb (length s.held) 32 ≡ k → (o : Option SheetFault) (f g : SheetFault) → cond n (cond k o (Some f)) (Some g) ≡ None → length s.held < 32
    go true true h o f g e = ltb-true (length s.held) 32 h
    go true false h o f g e = absurd (let z : ◌≡◌ {A = ℕ} 0 1 = cc in omega arith)
    go false k h o f g e = absurd (let z : ◌≡◌ {A = ℕ} 0 1 = cc in omega arith)

-- so there was room for its ticket among those kept
pub room_for_it : (s : SheetMeaning) (l : ℤ) (t : Ticket) (ts : List Ticket) → accepted (issued t) ≡ assume_reply s l → ts ≡ tickets_of s → length ts < 32
room_for_it s l t ts said own =
    let size = ap length own ∙ length-map s.held (ticket_for s.label) in
    let few = room_left s l (unfaulted s (assume_fault s l) t said) in
    omega arith

-- ASSUME keeps the label
pub assumed_label : (s : SheetMeaning) (l : ℤ) (o : Option SheetFault) → (after_assume s l o).label ≡ s.label
assumed_label s l None = refl
assumed_label s l (Some f) = refl
