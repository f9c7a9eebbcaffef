-- What a clause text allows.
use Rattle.std.specs.Prelude.{ℕ, Bool, true, ◌&&◌, List, [], ◌∷◌, ◌++◌, ℤ}
use Rattle.settings.specs.Settings.{met}
use Rattle.settings.specs.Least.{some}

-- every rule of a text is met
abbrev pub every_met : List (List ℤ) → List Bool → Bool
every_met [] x = true
every_met (r ∷ rs) x = met r x && every_met rs x

-- a clause text allows a setting when some values of its inner variables, numbered above the contacts, meet all its rules together with it
abbrev pub text_allows : ℕ → List (List ℤ) → List Bool → Bool
text_allows inner rules x = some inner (λ y. every_met rules (x ++ y))
