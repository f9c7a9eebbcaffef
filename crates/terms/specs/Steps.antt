-- The steps of TERMS as they are taken, on what stands in two solvers.
use Rattle.std.specs.Prelude.{ℕ, min, Bool, true, false, cond, List, [], ◌∷◌, ◌++◌, length, ℤ, Some, None, Ok, Err, Option, Result, ◌==◌, nat_lt}
use Rattle.faults.specs.declared.SolverFault.{SolverFault}
use Rattle.faults.specs.declared.SheetFault.{SheetFault}
use Rattle.faults.specs.declared.SheetFault.TheVariants.{Solver, ShortBuffer, OtherContacts, BothAllow, TooManyTerms}
use Rattle.tables.specs.declared.table.Table.{Table}
use Rattle.tables.specs.Tables.{items}
use Rattle.settings.specs.declared.Term.{Term}
use Rattle.settings.specs.TermRecords.{record_of}
use Rattle.laws.specs.Terms.{gather}
use Rattle.solver.specs.Meaning.{Meaning, stands, literal_fault, without_bars}
use Rattle.queries.specs.Queries.{answered, why_literals}
use Rattle.picking.specs.Picking.{picked}
use Rattle.striking.specs.Striking.{with_term, unstruck}
use Rattle.terms.specs.Answers.{recorded}

-- the record of literals of a solver's contacts, 32 at most
abbrev pub record_in : Meaning → List ℤ → Term
record_in b ls = record_of (min b.contacts 32) ls

-- the term for a setting's literals is WHY's choice of them on BREAK; there is none where BREAK allows the setting
abbrev pub chosen_term : Meaning → List ℤ → Result (Option (List ℤ)) SolverFault → Result Term SheetFault
chosen_term b ls (Ok None) = Err (BothAllow (record_in b ls).closed)
chosen_term b ls (Ok (Some choice)) = Ok (record_in b choice)
chosen_term b ls (Err f) = Err (Solver f)

abbrev pub term_for : Meaning → List ℤ → Result Term SheetFault
term_for b ls = chosen_term b ls (answered (literal_fault b ls) (why_literals b ls))

-- a turn ends with a term more or with none, or is refused; the terms so far, and MAKE with a bar for each of them
pub record Turn : Type 0 where
  pub answer : Result Bool SheetFault
  pub terms : List Term
  pub make : Meaning

-- fewer than 64 terms stand: one more is placed last, and MAKE barred
abbrev pub placed : Meaning → List Term → Term → Turn
placed m ts t =
    cond (nat_lt (length ts) 64) (record { answer = Ok true; terms = ts ++ t ∷ []; make = with_term m t }) (record { answer = Err TooManyTerms; terms = ts; make = m })

abbrev pub placed_or_refused : Meaning → List Term → Result Term SheetFault → Turn
placed_or_refused m ts (Ok t) = placed m ts t
placed_or_refused m ts (Err f) = record { answer = Err f; terms = ts; make = m }

-- a setting was picked, or none is left
abbrev pub turn_with : Meaning → Meaning → List Term → Option (List ℤ) → Turn
turn_with m b ts None = record { answer = Ok false; terms = ts; make = m }
turn_with m b ts (Some ls) = placed_or_refused m ts (term_for b ls)

-- the setting is looked for near the one that the last term was made for
abbrev pub turn : Meaning → Meaning → List ℤ → List Term → Turn
turn m b last ts = turn_with m b ts (picked m last)

-- the literals of the setting that a term was made for, or what was there before
abbrev pub made_for : List ℤ → List ℤ → Result Term SheetFault → List ℤ
made_for ls last (Ok t) = ls
made_for ls last (Err f) = last

abbrev pub last_with : Meaning → List ℤ → Option (List ℤ) → List ℤ
last_with b last None = last
last_with b last (Some ls) = made_for ls last (term_for b ls)

abbrev pub last_after : Meaning → Meaning → List ℤ → List ℤ
last_after m b last = last_with b last (picked m last)

-- the records of the terms before any is struck, or the refusal
abbrev pub gathered : Meaning → Meaning → Result (List Term) SheetFault
gathered m b = recorded m.contacts (gather m.contacts (stands m) (stands b) 64 [])

-- then terms are struck
abbrev pub then_struck : Meaning → Result (List Term) SheetFault → Result (List Term) SheetFault
then_struck m (Ok ts) = Ok (unstruck m [] ts)
then_struck m (Err f) = Err f

abbrev pub card_steps : Meaning → Meaning → Result (List Term) SheetFault
card_steps m b = then_struck m (gathered m b)

-- the questions of the sheets and of the buffer come first; bars of MAKE play no part
abbrev pub terms_steps : Meaning → Meaning → ℕ → Result (List Term) SheetFault
terms_steps m b size = cond (m.contacts == b.contacts) (cond (nat_lt size 64) (Err ShortBuffer) (card_steps (without_bars m) b)) (Err OtherContacts)

-- the lists in an answer's tables
abbrev pub listed_terms : {N : ℕ} → Result (Table Term N) SheetFault → Result (List Term) SheetFault
listed_terms (Ok t) = Ok (items t)
listed_terms (Err f) = Err f
