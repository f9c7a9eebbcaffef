-- All rules met and some bar covering, as the library's words say it of a list.
use Rattle.std.proofs.Common.{◌≡◌, Bool, ◌&&◌, ◌||◌, List, [], ◌∷◌, refl, ap}
use Rattle.std.specs.List.{list_all, list_any}
use Rattle.literals.specs.declared.LiteralSet.{LiteralSet}
use Rattle.settings.specs.Settings.{meets, covers, all_met, any_covers}

pub met_all : (rs : List LiteralSet) (x : List Bool) → list_all (λ r. meets r x) rs ≡ all_met rs x
met_all [] x = refl
met_all (r ∷ rs) x = ap (λ b. meets r x && b) (met_all rs x)

pub covered_any : (bs : List LiteralSet) (x : List Bool) → list_any (λ b. covers b x) bs ≡ any_covers bs x
covered_any [] x = refl
covered_any (b ∷ bs) x = ap (λ c. covers b x || c) (covered_any bs x)
