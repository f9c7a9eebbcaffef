-- What a solver means, and what its five calls answer and leave.
use Rattle.std.specs.Prelude.{◌≡◌, ℕ, Bool, true, false, cond, not, ◌&&◌, List, [], ◌∷◌, ◌++◌, length, ℤ, Some, None, Ok, Err, Option, Result, nat_lt}
use Rattle.faults.specs.declared.SolverFault.{SolverFault}
use Rattle.faults.specs.declared.SolverFault.TheVariants.{BadLiteral, TooManyRules, TooManyBars}
use Rattle.literals.specs.declared.LiteralSet.{LiteralSet}
use Rattle.literals.specs.Literals.{first_unnamed, set_of}
use Rattle.settings.specs.declared.Setting.{Setting}
use Rattle.settings.specs.Settings.{fits, all_met, any_covers}
use Rattle.settings.specs.Least.{some}
use Rattle.settings.specs.Readings.{reading}

-- the number of contacts, a base set of settings, the rules that were added and the bars
pub record Meaning : Type 0 where
  pub contacts : ℕ
  pub base : List Bool → Bool
  pub added : List LiteralSet
  pub bars : List LiteralSet

-- the same from the four parts of a solver, each a function of what it stores
abbrev pub meaning_from : {S : Type 0} → (S → ℕ) → (S → List Bool → Bool) → (S → List LiteralSet) → (S → List LiteralSet) → S → Meaning
meaning_from n base added bars s = record { contacts = n s; base = base s; added = added s; bars = bars s }

-- a setting stands when it is in the base set, meets every added rule and is covered by no bar
abbrev pub stands : Meaning → List Bool → Bool
stands m x = m.base x && (all_met m.added x && not (any_covers m.bars x))

-- a standing setting that agrees with all the literals
abbrev pub stands_with : Meaning → List ℤ → List Bool → Bool
stands_with m ls x = stands m x && fits ls x

-- ASK says yes with such a setting, which one is free, or no exactly when there is none
abbrev pub Answers : Meaning → List ℤ → Option Setting → Type 0
Answers m ls None = some m.contacts (stands_with m ls) ≡ false
Answers m ls (Some s) = stands_with m ls (reading m.contacts s) ≡ true

-- the first question of ASK, ADD and BAR: does each literal name one of n contacts?
abbrev pub unnamed_fault : ℕ → List ℤ → Option SolverFault
unnamed_fault n ls = elim (first_unnamed n ls) [ None ↦ None | Some place ↦ Some (BadLiteral place) ]

abbrev pub literal_fault : Meaning → List ℤ → Option SolverFault
literal_fault m ls = unnamed_fault m.contacts ls

abbrev pub Asked : Meaning → List ℤ → Result (Option Setting) SolverFault → Type 0
Asked m ls (Ok answer) = (literal_fault m ls ≡ None) × Answers m ls answer
Asked m ls (Err f) = literal_fault m ls ≡ Some f

-- the second question of ADD and of BAR: are fewer than 64 held?
abbrev pub full_fault : Option SolverFault → List LiteralSet → SolverFault → Option SolverFault
full_fault (Some f) held full = Some f
full_fault None held full = cond (nat_lt (length held) 64) None (Some full)

abbrev pub add_fault : Meaning → List ℤ → Option SolverFault
add_fault m ls = full_fault (literal_fault m ls) m.added TooManyRules

abbrev pub bar_fault : Meaning → List ℤ → Option SolverFault
bar_fault m ls = full_fault (literal_fault m ls) m.bars TooManyBars

-- a refusal, or nothing to tell
abbrev pub outcome : Option SolverFault → Result (Unit {0}) SolverFault
outcome None = Ok tt
outcome (Some f) = Err f

-- one rule or bar more, as the set of its literals; a refused call changes nothing
abbrev pub appended : Option SolverFault → List LiteralSet → List ℤ → List LiteralSet
appended None held ls = held ++ set_of ls ∷ []
appended (Some f) held ls = held

abbrev pub with_rule : Meaning → List ℤ → Meaning
with_rule m ls = record { contacts = m.contacts; base = m.base; added = appended (add_fault m ls) m.added ls; bars = m.bars }

abbrev pub with_bar : Meaning → List ℤ → Meaning
with_bar m ls = record { contacts = m.contacts; base = m.base; added = m.added; bars = appended (bar_fault m ls) m.bars ls }

abbrev pub without_bars : Meaning → Meaning
without_bars m = record { contacts = m.contacts; base = m.base; added = m.added; bars = [] }
