-- The loaded rules allow just the settings that the text allows.
use Rattle.std.specs.Prelude.{◌≡◌, ℕ, ◌-◌, ◌≤◌, Bool, List, ◌++◌, map, length, Ok}
use Rattle.literals.specs.Literals.{set_of}
use Rattle.settings.specs.Settings.{all_met}
use Rattle.settings.specs.Least.{some}
use Rattle.laws.specs.Texts.{text_allows}
use Rattle.dimacs.specs.Cnf.{Cnf, read_cnf}

-- for n of the variables as contacts, a setting of them is in the base set of the loaded rules exactly when some values of the inner variables
-- meet every rule of the text, as it was written, together with it
abbrev pub TextLaw : Type 0
TextLaw =
    (text : List ℕ) (c : Cnf) → read_cnf text ≡ Ok c →
    (n : ℕ) → n ≤ c.vars → (x : List Bool) → length x ≡ n →
    some (c.vars - n) (λ y. all_met (map set_of c.rules) (x ++ y)) ≡ text_allows (c.vars - n) c.rules x
