-- What a solver answers to LEAST and WHY under given literals.
use Rattle.std.specs.Prelude.{◌≡◌, ℕ, Bool, true, false, cond, List, [], ◌∷◌, ◌++◌, length, ℤ, is_some, Some, None, Ok, Err, Option, Result}
use Rattle.std.specs.Option.{option_map}
use Rattle.faults.specs.declared.SolverFault.{SolverFault}
use Rattle.tables.specs.declared.table.Table.{Table}
use Rattle.tables.specs.Tables.{items}
use Rattle.settings.specs.declared.Setting.{Setting}
use Rattle.settings.specs.Readings.{reading}
use Rattle.settings.specs.Settings.{agrees, literal, literals}
use Rattle.settings.specs.Least.{least, some}
use Rattle.laws.specs.Choices.{chosen, why}
use Rattle.solver.specs.Meaning.{Meaning, stands, stands_with, literal_fault}
use Rattle.queries.specs.declared.Placing.{Placing}

-- each literal names a contact, and some standing setting agrees with all of them
unfoldable pub possible_with : Meaning → List ℤ → Bool
possible_with m ls = cond (is_some (literal_fault m ls)) false (some m.contacts (stands_with m ls))

-- a setting that was found stands and agrees with all the literals
abbrev pub Shown : Meaning → List ℤ → Option Setting → Type 0
Shown m ls None = Unit {0}
Shown m ls (Some s) = stands_with m ls (reading m.contacts s) ≡ true

-- what is held and what is placed, and contact k + 1 wanted open
unfoldable pub opened_next : List ℤ → List ℤ → ℕ → List ℤ
opened_next held placed k = (held ++ placed) ++ literal k false ∷ []

-- the same of the state of LEAST's search, whose next contact is the one behind those placed
abbrev pub wanted_next : Placing → List ℤ
wanted_next p = opened_next (items p.held.now) (items p.placed) (length (items p.placed))

-- each literal names a contact, and the setting found last stands and agrees with all of them where it has contact k + 1 open
pub record Ready (m : Meaning) (ls : List ℤ) (last : Setting) (k : ℕ) : Type 0 where
  pub named : literal_fault m ls ≡ None
  pub serves : agrees (reading m.contacts last) (literal k false) ≡ true → stands_with m ls (reading m.contacts last) ≡ true

-- the literals of the earliest standing setting that agrees with the held ones
abbrev pub least_literals : Meaning → List ℤ → Option (List ℤ)
least_literals m held = option_map (literals 0) (least m.contacts (stands_with m held))

-- the literals that WHY chooses from the held ones
abbrev pub why_literals : Meaning → List ℤ → Option (List ℤ)
why_literals m held = option_map (λ choice. chosen choice held) (why m.contacts (stands m) held)

-- a literal that names no contact is refused, and else there is an answer
abbrev pub answered : {A : Type 0} → Option SolverFault → A → Result A SolverFault
answered (Some f) answer = Err f
answered None answer = Ok answer

-- the lists in an answer's tables
abbrev pub listed : {N : ℕ} → Result (Option (Table ℤ N)) SolverFault → Result (Option (List ℤ)) SolverFault
listed (Ok found) = Ok (option_map items found)
listed (Err f) = Err f
