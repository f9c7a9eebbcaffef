-- Choices from a list, the choice that WHY makes, and the process that leaves out one entry after another.
-- A choice is a list of Bools beside the list: true where the entry is chosen. Its number is that of a setting: the i-th of h entries has the weight 2 ^ (h - i).
use Rattle.std.specs.Prelude.{ℕ, Bool, true, false, cond, not, ◌&&◌, ◌||◌, List, [], ◌∷◌, ◌++◌, length, ℤ, Option}
use Rattle.settings.specs.Settings.{fits}
use Rattle.settings.specs.Least.{least, some}

-- the chosen entries, in order
abbrev pub chosen : {A : Type 0} → List Bool → List A → List A
chosen [] xs = []
chosen (b ∷ c) [] = []
chosen (true ∷ c) (x ∷ xs) = x ∷ chosen c xs
chosen (false ∷ c) (x ∷ xs) = chosen c xs

-- all that the first choice chooses, the second chooses too
abbrev pub part_of : List Bool → List Bool → Bool
part_of [] [] = true
part_of [] (b ∷ c) = false
part_of (a ∷ d) [] = false
part_of (a ∷ d) (b ∷ c) = (not a || b) && part_of d c

-- literals are enough when no allowed setting agrees with all of them
abbrev pub enough : ℕ → (List Bool → Bool) → List ℤ → Bool
enough n allowed ls = not (some n (λ x. allowed x && fits ls x))

-- WHY: the enough choice of smallest number
abbrev pub why : ℕ → (List Bool → Bool) → List ℤ → Option (List Bool)
why n allowed held = least (length held) (λ c. enough n allowed (chosen c held))

-- from the first entry to the last, one is left out where those kept before it and all those after it still pass
unfoldable pub greedy : {A : Type 0} → (List A → Bool) → List A → List A → List Bool
greedy passes kept [] = []
greedy passes kept (a ∷ later) =
    let without = false ∷ greedy passes kept later in
    let with_it = true ∷ greedy passes (kept ++ a ∷ []) later in
    cond (passes (kept ++ later)) without with_it

-- the same, as the entries that are kept
unfoldable pub trim : {A : Type 0} → (List A → Bool) → List A → List A → List A
trim passes kept [] = kept
trim passes kept (a ∷ later) =
    let without = trim passes kept later in
    let with_it = trim passes (kept ++ a ∷ []) later in
    cond (passes (kept ++ later)) without with_it
