-- Tickets that are kept until their sheet accepts them back.
use Rattle.std.specs.Prelude.{ℕ, List, [], map, vec_items, Option, ◌==◌}
use Rattle.sheets.specs.declared.Held.{Held}
use Rattle.sheets.specs.declared.Ticket.{Ticket}
use Rattle.sheets.specs.Sheets.{SheetMeaning, first_place}
use Rattle.tickets.specs.declared.list.Tickets.{Tickets}

abbrev pub listed : Tickets → List Ticket
listed t = vec_items t.kept

-- the place of the first ticket with a number
abbrev pub place_of : ℕ → List Ticket → Option ℕ
place_of number ts = first_place (λ t. t.number == number) ts

-- the tickets that a sheet has given out and not accepted back: one for each assumption that it holds, in held order
abbrev pub ticket_for : ℕ → Held → Ticket
ticket_for label h = record { label = label; number = h.number }

abbrev pub tickets_of : SheetMeaning → List Ticket
tickets_of p = map (ticket_for p.label) p.held

-- a sheet once all its tickets are back
abbrev pub none_held : SheetMeaning → SheetMeaning
none_held p = record { meaning = p.meaning; label = p.label; held = []; count = p.count }
