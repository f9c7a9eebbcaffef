-- The number, place and layer of every fault. Numbers go from 1 to 15, places count from 0, and a place is 0 unless one is named.
use Rattle.std.specs.Prelude.{ℕ}
use Rattle.faults.specs.declared.TextFault.{TextFault}
use Rattle.faults.specs.declared.TextFault.TheVariants.{Shape, Limit}
use Rattle.faults.specs.declared.StoreFault.{StoreFault}
use Rattle.faults.specs.declared.StoreFault.TheVariants.{Text as InText, Short}
use Rattle.faults.specs.declared.SolverFault.{SolverFault}
use Rattle.faults.specs.declared.SolverFault.TheVariants.{BadLiteral, TooManyRules, TooManyBars}
use Rattle.faults.specs.declared.SheetFault.{SheetFault}
use Rattle.faults.specs.declared.SheetFault.TheVariants.{Store as InStore, Solver as InSolver, WrongContacts, TooManyHeld, TooManyTickets, NotHeld, ShortBuffer, NoneAllowed, SomeAllowed, OtherContacts, BothAllow, TooManyTerms}
use Rattle.faults.specs.declared.Layer.{Layer}
use Rattle.faults.specs.declared.Layer.TheVariants.{Text, Store, Solver, Sheet}
use Rattle.faults.specs.declared.Refusal.{Refusal}

abbrev pub refused : ℕ → ℕ → Layer → Refusal
refused n at l = record { number = n; place = at; layer = l }

abbrev pub text_refusal : TextFault → Refusal
text_refusal (Shape at) = refused 1 at Text
text_refusal (Limit at) = refused 2 at Text

abbrev pub store_refusal : StoreFault → Refusal
store_refusal (InText f) = text_refusal f
store_refusal (Short length) = refused 3 length Store

abbrev pub solver_refusal : SolverFault → Refusal
solver_refusal (BadLiteral at) = refused 5 at Solver
solver_refusal TooManyRules = refused 6 0 Solver
solver_refusal TooManyBars = refused 15 0 Solver

abbrev pub sheet_refusal : SheetFault → Refusal
sheet_refusal (InStore f) = store_refusal f
sheet_refusal (InSolver f) = solver_refusal f
sheet_refusal WrongContacts = refused 4 0 Sheet
sheet_refusal TooManyHeld = refused 7 0 Sheet
sheet_refusal TooManyTickets = refused 8 0 Sheet
sheet_refusal NotHeld = refused 9 0 Sheet
sheet_refusal ShortBuffer = refused 10 0 Sheet
sheet_refusal NoneAllowed = refused 11 0 Sheet
sheet_refusal SomeAllowed = refused 12 0 Sheet
sheet_refusal OtherContacts = refused 13 0 Sheet
sheet_refusal (BothAllow setting) = refused 14 setting Sheet
sheet_refusal TooManyTerms = refused 15 0 Sheet
