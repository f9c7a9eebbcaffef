-- What a witness cache holds: settings that stand, the oldest first, at most 16.
use Rattle.std.specs.Prelude.{Bool, true, cond, ◌&&◌, List, [], ◌∷◌, ◌++◌, length, Some, None, Ok, Err, Option, Result, nat_lt}
use Rattle.faults.specs.declared.SolverFault.{SolverFault}
use Rattle.tables.specs.Tables.{without}
use Rattle.settings.specs.declared.Setting.{Setting}
use Rattle.settings.specs.Readings.{reading}
use Rattle.solver.specs.Meaning.{Meaning, stands}

-- each setting held stands
abbrev pub all_stand : Meaning → List Setting → Bool
all_stand m [] = true
all_stand m (s ∷ ss) = stands m (reading m.contacts s) && all_stand m ss

-- a yes is remembered last; where 16 are held the oldest leaves
abbrev pub remembered : List Setting → Setting → List Setting
remembered held s = cond (nat_lt (length held) 16) held (without held 0) ++ s ∷ []

abbrev pub noted : List Setting → Option Setting → List Setting
noted held None = held
noted held (Some s) = remembered held s

-- an accepted ADD or BAR forgets all; a refused one keeps what is held
abbrev pub emptied : Result (Unit {0}) SolverFault → List Setting → List Setting
emptied (Ok u) held = []
emptied (Err f) held = held
