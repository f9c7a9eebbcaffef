-- The least setting that a clause text allows, where its first n variables are the contacts.
use Rattle.std.specs.Prelude.{ℕ, ◌-◌, Bool, cond, List, ℤ, Ok, Err, Option, Result, nat_lt}
use Rattle.std.specs.Option.{option_map, ok_or}
use Rattle.faults.specs.declared.TextFault.{TextFault}
use Rattle.faults.specs.declared.StoreFault.TheVariants.{Text}
use Rattle.faults.specs.declared.SheetFault.{SheetFault}
use Rattle.faults.specs.declared.SheetFault.TheVariants.{Store, WrongContacts, ShortBuffer, NoneAllowed}
use Rattle.literals.specs.declared.LiteralSet.{LiteralSet}
use Rattle.settings.specs.Settings.{literals}
use Rattle.settings.specs.Least.{least}
use Rattle.laws.specs.Texts.{text_allows}
use Rattle.sheets.specs.Sheets.{opened}
use Rattle.sheets.specs.Answers.{least_answer}
use Rattle.clauses.specs.Clauses.{loaded_meaning, suits}
use Rattle.dimacs.specs.Cnf.{Cnf}
use Rattle.dimacs_load.specs.declared.Size.{Size}
use Rattle.dimacs_load.specs.Loads.{loaded}

-- LEAST into a buffer of that length: is it as long as there are contacts? is anything allowed? then the literals of the earliest setting
abbrev pub found : ℕ → ℕ → Option (List Bool) → Result (List ℤ) SheetFault
found size n answer = cond (nat_lt size n) (Err ShortBuffer) (ok_or (option_map (literals 0) answer) NoneAllowed)

-- what loading refuses is refused first: the text, the number of contacts, the room in the store
abbrev pub once_loaded : Result Size SheetFault → Result (List ℤ) SheetFault → Result (List ℤ) SheetFault
once_loaded (Ok z) answer = answer
once_loaded (Err f) answer = Err f

-- then LEAST over the settings that the text allows
abbrev pub text_least : ℕ → ℕ → ℕ → Result Cnf TextFault → Result (List ℤ) SheetFault
text_least n records size (Err e) = Err (Store (Text e))
text_least n records size (Ok c) = once_loaded (loaded n records (Ok c)) (found size n (least n (text_allows (c.vars - n) c.rules)))

-- the same of rules that lie in a store: LEAST on a new sheet over them
abbrev pub sheet_least : ℕ → ℕ → List LiteralSet → ℕ → Result (List ℤ) SheetFault
sheet_least variables n rules size = cond (suits variables n) (least_answer (opened (loaded_meaning n (variables - n) rules) 1) size) (Err WrongContacts)

-- with each variable of the text as a contact; where literals were written, the caller is told how many
abbrev pub variables_of : Result Cnf TextFault → ℕ
variables_of (Ok c) = c.vars
variables_of (Err e) = 0

abbrev pub whole_least : ℕ → ℕ → Result Cnf TextFault → Result (List ℤ) SheetFault
whole_least records size r = text_least (variables_of r) records size r

abbrev pub told_size : ℕ → Result (List ℤ) SheetFault → Result ℕ SheetFault
told_size n (Ok ls) = Ok n
told_size n (Err f) = Err f
