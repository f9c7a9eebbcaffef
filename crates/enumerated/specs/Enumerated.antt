-- A solver over a plain list of allowed settings.
use Rattle.std.specs.Prelude.{ℕ, Bool, true, false, ◌&&◌, ◌||◌, List, [], ◌∷◌, ℤ}
use Rattle.std.specs.Bool.{beq}
use Rattle.settings.specs.declared.Setting.{Setting}
use Rattle.settings.specs.Settings.{fits}
use Rattle.settings.specs.Readings.{reading}
use Rattle.additions.specs.declared.Additions.{Additions}
use Rattle.additions.specs.Additions.{passes}
use Rattle.solver.specs.Meaning.{Meaning}

abbrev pub same_setting : List Bool → List Bool → Bool
same_setting [] [] = true
same_setting [] (b ∷ y) = false
same_setting (a ∷ x) [] = false
same_setting (a ∷ x) (b ∷ y) = beq a b && same_setting x y

-- the base set: the settings that are on the list
abbrev pub listed : ℕ → List Setting → List Bool → Bool
listed n [] x = false
listed n (s ∷ ss) x = same_setting (reading n s) x || listed n ss x

-- a setting passes what was added, and agrees with all the literals
abbrev pub passes_with : Additions → List ℤ → List Bool → Bool
passes_with a ls x = passes a x && fits ls x

-- the meaning of a solver to which nothing was added
abbrev pub plain_meaning : ℕ → List Setting → Meaning
plain_meaning n allowed = record { contacts = n; base = listed n allowed; added = []; bars = [] }
