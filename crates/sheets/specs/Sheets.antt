-- A sheet by its meaning, and what RULE, ASSUME and RELEASE answer and leave.
use Rattle.std.specs.Prelude.{◌≡◌, ℕ, suc, ◌+◌, Bool, cond, List, [], ◌∷◌, ◌++◌, map, length, ℤ, Some, None, Ok, Err, Option, Result, ◌==◌, nat_lt}
use Rattle.std.specs.Option.{option_map}
use Rattle.faults.specs.declared.SolverFault.{SolverFault}
use Rattle.faults.specs.declared.SolverFault.TheVariants.{BadLiteral}
use Rattle.faults.specs.declared.SheetFault.{SheetFault}
use Rattle.faults.specs.declared.SheetFault.TheVariants.{Solver, TooManyHeld, TooManyTickets, NotHeld}
use Rattle.literals.specs.Literals.{names}
use Rattle.tables.specs.Tables.{items, without}
use Rattle.solver.specs.declared.Solver.{Ghosts}
use Rattle.solver.specs.Meaning.{Meaning, add_fault, with_rule, without_bars}
use Rattle.solver.specs.Over.{meaning_of}
use Rattle.sheets.specs.declared.Held.{Held}
use Rattle.sheets.specs.declared.Ticket.{Ticket}
use Rattle.sheets.specs.declared.Unreleased.{Unreleased}
use Rattle.sheets.specs.declared.Sheet.{Sheet}

-- the meaning of a sheet: that of its solver, the label, the held assumptions in their order and the count of tickets issued
pub record SheetMeaning : Type 0 where
  pub meaning : Meaning
  pub label : ℕ
  pub held : List Held
  pub count : ℕ

abbrev pub held_literals : List Held → List ℤ
held_literals hs = map (λ h. h.literal) hs

module _ {S : Type 0} (v : Ghosts S) where
  abbrev pub sheet_meaning : Sheet S v → SheetMeaning
  sheet_meaning x = record { meaning = meaning_of v x.solver; label = x.label; held = items x.held; count = x.count }

  -- a sheet is new when it has no added rule, no assumption and no ticket issued
  pub record New (x : Sheet S v) : Type 0 where
    pub no_rules : v.added x.solver ≡ []
    pub none_held : items x.held ≡ []
    pub none_issued : x.count ≡ 0

-- a sheet as it is opened: its solver's bars are cleared
abbrev pub opened : Meaning → ℕ → SheetMeaning
opened m label = record { meaning = without_bars m; label = label; held = []; count = 0 }

-- RULE adds the rule, or the solver's fault is handed on whole
abbrev pub ruled : Option SolverFault → Result (Unit {0}) SheetFault
ruled None = Ok tt
ruled (Some f) = Err (Solver f)

abbrev pub rule_answer : SheetMeaning → List ℤ → Result (Unit {0}) SheetFault
rule_answer p ls = ruled (add_fault p.meaning ls)

abbrev pub after_rule : SheetMeaning → List ℤ → SheetMeaning
after_rule p ls = record { meaning = with_rule p.meaning ls; label = p.label; held = p.held; count = p.count }

-- ASSUME: does the literal name a contact? are fewer than 32 held? were fewer than 65,535 tickets issued?
abbrev pub assume_fault : SheetMeaning → ℤ → Option SheetFault
assume_fault p l =
    cond (names p.meaning.contacts l) (cond (nat_lt (length p.held) 32) (cond (nat_lt p.count 65535) None (Some TooManyTickets)) (Some TooManyHeld)) (Some (Solver (BadLiteral 0)))

-- a refusal, or nothing to tell
abbrev pub admitted : Option SheetFault → Result (Unit {0}) SheetFault
admitted None = Ok tt
admitted (Some f) = Err f

-- the ticket has the label and the next issue number, from 1
abbrev pub next_ticket : SheetMeaning → Ticket
next_ticket p = record { label = p.label; number = p.count + 1 }

abbrev pub assume_answer : SheetMeaning → Option SheetFault → Result Ticket SheetFault
assume_answer p None = Ok (next_ticket p)
assume_answer p (Some f) = Err f

-- the literal is placed last among the held ones, with its ticket's number
abbrev pub with_held : SheetMeaning → ℤ → SheetMeaning
with_held p l = record { meaning = p.meaning; label = p.label; held = p.held ++ record { literal = l; number = p.count + 1 } ∷ []; count = p.count + 1 }

abbrev pub after_assume : SheetMeaning → ℤ → Option SheetFault → SheetMeaning
after_assume p l None = with_held p l
after_assume p l (Some f) = p

-- the place of the first entry of a list that passes a test
abbrev pub first_place : {A : Type 0} → (A → Bool) → List A → Option ℕ
first_place test [] = None
first_place test (x ∷ xs) = cond (test x) (Some 0) (option_map suc (first_place test xs))

-- RELEASE: the place of the held entry with the ticket's label and number
abbrev pub numbered_at : ℕ → List Held → Option ℕ
numbered_at number hs = first_place (λ h. h.number == number) hs

abbrev pub held_at : SheetMeaning → Ticket → Option ℕ
held_at p t = cond (t.label == p.label) (numbered_at t.number p.held) None

-- it accepts exactly a ticket whose entry is held here, and else hands the ticket back
abbrev pub release_answer : Option ℕ → Ticket → Result (Unit {0}) Unreleased
release_answer (Some place) t = Ok tt
release_answer None t = Err (record { fault = NotHeld; ticket = t })

-- that assumption leaves and the others keep their order
abbrev pub without_held : SheetMeaning → ℕ → SheetMeaning
without_held p place = record { meaning = p.meaning; label = p.label; held = without p.held place; count = p.count }

abbrev pub after_release : SheetMeaning → Option ℕ → SheetMeaning
after_release p (Some place) = without_held p place
after_release p None = p
