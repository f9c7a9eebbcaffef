-- The rules and bars that were added to a solver.
use Rattle.std.specs.Prelude.{ℕ, Bool, not, ◌&&◌, List}
use Rattle.tables.specs.Tables.{items}
use Rattle.literals.specs.declared.LiteralSet.{LiteralSet}
use Rattle.settings.specs.Settings.{all_met, any_covers}
use Rattle.solver.specs.Meaning.{Meaning}
use Rattle.additions.specs.declared.Additions.{Additions}

abbrev pub rules_of : Additions → List LiteralSet
rules_of a = items a.rules

abbrev pub bars_of : Additions → List LiteralSet
bars_of a = items a.bars

-- the meaning of a solver with so many contacts, a base set and these
abbrev pub meaning_with : ℕ → (List Bool → Bool) → Additions → Meaning
meaning_with n base a = record { contacts = n; base = base; added = rules_of a; bars = bars_of a }

-- every rule is met and no bar covers
abbrev pub passes : Additions → List Bool → Bool
passes a x = all_met (rules_of a) x && not (any_covers (bars_of a) x)
