-- The earliest standing setting, looked for near another one.
use Rattle.std.specs.Prelude.{cond, List, [], ◌∷◌, ◌++◌, ℤ, None, Ok, Err, Option, Result}
use Rattle.faults.specs.declared.SolverFault.{SolverFault}
use Rattle.solver.specs.Meaning.{Meaning, literal_fault}
use Rattle.queries.specs.Queries.{possible_with, answered, least_literals}

-- a front goes on, literal by literal, while some standing setting agrees with all of it
unfoldable pub shared_front : Meaning → List ℤ → List ℤ → List ℤ
shared_front m front [] = front
shared_front m front (l ∷ ls) =
    let more = shared_front m (front ++ l ∷ []) ls in
    cond (possible_with m (front ++ l ∷ [])) more front

-- what was found, where nothing was refused
abbrev pub found_in : Result (Option (List ℤ)) SolverFault → Option (List ℤ)
found_in (Ok found) = found
found_in (Err f) = None

-- the literals of the earliest standing setting that agrees with a front
abbrev pub picked_under : Meaning → List ℤ → Option (List ℤ)
picked_under m front = found_in (answered (literal_fault m front) (least_literals m front))

-- the same with the front that is shared with the given literals
abbrev pub picked : Meaning → List ℤ → Option (List ℤ)
picked m near = picked_under m (shared_front m [] near)
