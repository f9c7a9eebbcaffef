-- What LEAST and WHY answer and write, and the laws of what they write.
use Rattle.std.specs.Prelude.{◌≡◌, ℕ, ◌<◌, Bool, true, cond, List, ◌++◌, length, take, drop, ℤ, Ok, Err, Result, ◌≢◌, nat_le, nat_lt}
use Rattle.std.specs.Option.{ok_or}
use Rattle.faults.specs.declared.SheetFault.{SheetFault}
use Rattle.faults.specs.declared.SheetFault.TheVariants.{ShortBuffer, NoneAllowed, SomeAllowed}
use Rattle.settings.specs.Settings.{fits, number, literals}
use Rattle.laws.specs.Choices.{chosen}
use Rattle.laws.specs.Laws.{Enough, NotEnough}
use Rattle.solver.specs.Meaning.{stands}
use Rattle.queries.specs.Queries.{least_literals, why_literals}
use Rattle.sheets.specs.Sheets.{SheetMeaning, held_literals}

-- a list at the front of a buffer that is long enough, and what stood behind it
abbrev pub over : {A : Type 0} → List A → List A → List A
over ls out = cond (nat_le (length ls) (length out)) (ls ++ drop (length ls) out) out

-- LEAST: is the buffer as long as there are contacts? is a setting allowed under the held assumptions? then its literals are written
abbrev pub least_answer : SheetMeaning → ℕ → Result (List ℤ) SheetFault
least_answer p size = cond (nat_lt size p.meaning.contacts) (Err ShortBuffer) (ok_or (least_literals p.meaning (held_literals p.held)) NoneAllowed)

-- WHY: is the buffer as long as assumptions are held? is no setting allowed under them? then the chosen ones are written
abbrev pub why_answer : SheetMeaning → ℕ → Result (List ℤ) SheetFault
why_answer p size = cond (nat_lt size (length p.held)) (Err ShortBuffer) (ok_or (why_literals p.meaning (held_literals p.held)) SomeAllowed)

-- what the caller is told: nothing more, or how many were written
abbrev pub told : {A : Type 0} → Result (List A) SheetFault → Result (Unit {0}) SheetFault
told (Ok ls) = Ok tt
told (Err f) = Err f

abbrev pub counted : {A : Type 0} → Result (List A) SheetFault → Result ℕ SheetFault
counted (Ok ls) = Ok (length ls)
counted (Err f) = Err f

-- the buffer afterwards: a refusal leaves it as it was
abbrev pub written : {A : Type 0} → Result (List A) SheetFault → List A → List A
written (Ok ls) out = over ls out
written (Err f) out = out

-- LEAST wrote the literals of a setting that is allowed and agrees with all held assumptions, and every other such setting is later
pub record EarliestWritten (p : SheetMeaning) (out : List ℤ) : Type 0 where
  pub setting : List Bool
  pub literals_written : take p.meaning.contacts out ≡ literals 0 setting
  pub sized : length setting ≡ p.meaning.contacts
  pub is_allowed : stands p.meaning setting ≡ true
  pub agrees_with_held : fits (held_literals p.held) setting ≡ true
  pub others_later : (y : List Bool) → length y ≡ p.meaning.contacts → stands p.meaning y ≡ true → fits (held_literals p.held) y ≡ true → (y ≢ setting) → number setting < number y

pub record LeastLaw (p : SheetMeaning) (out : List ℤ) (r : Result (Unit {0}) SheetFault) : Type 0 where
  pub accepted : r ≡ Ok tt → EarliestWritten p out
  pub none_allowed : r ≡ Err NoneAllowed → Enough p.meaning.contacts (stands p.meaning) (held_literals p.held)

-- WHY wrote a choice that no allowed setting agrees with all of, and every other such choice has a greater number
pub record ReasonWritten (p : SheetMeaning) (size : ℕ) (out : List ℤ) : Type 0 where
  pub choice : List Bool
  pub literals_written : take size out ≡ chosen choice (held_literals p.held)
  pub size_told : size ≡ length (chosen choice (held_literals p.held))
  pub sized : length choice ≡ length p.held
  pub is_enough : Enough p.meaning.contacts (stands p.meaning) (chosen choice (held_literals p.held))
  pub others_greater : (d : List Bool) → length d ≡ length p.held → Enough p.meaning.contacts (stands p.meaning) (chosen d (held_literals p.held)) → (d ≢ choice) → number choice < number d

pub record WhyLaw (p : SheetMeaning) (out : List ℤ) (r : Result ℕ SheetFault) : Type 0 where
  pub accepted : (size : ℕ) → r ≡ Ok size → ReasonWritten p size out
  pub some_allowed : r ≡ Err SomeAllowed → NotEnough p.meaning.contacts (stands p.meaning) (held_literals p.held)
