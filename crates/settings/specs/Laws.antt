-- Rules and bars as sets of literals say what their lists say.
use Rattle.std.specs.Prelude.{◌≡◌, ◌≤◌, Bool, List, length, ℤ, None}
use Rattle.literals.specs.Literals.{first_unnamed, set_of}
use Rattle.settings.specs.Settings.{met, fits, literals, meets, covers}
use Rattle.settings.specs.Readings.{reading, setting_of}

-- a setting meets the set of a rule's literals where it agrees with one of them, and the set of a bar's covers it where it agrees with all,
-- in whatever order and however often the literals were listed
pub record SaidAlike (ls : List ℤ) (x : List Bool) : Type 0 where
  pub rule : meets (set_of ls) x ≡ met ls x
  pub bar : covers (set_of ls) x ≡ fits ls x

abbrev pub SetsLaw : Type 0
SetsLaw = (ls : List ℤ) (x : List Bool) → length x ≤ 64 → first_unnamed (length x) ls ≡ None → SaidAlike ls x

-- the literals of a setting make it again
abbrev pub SettingLaw : Type 0
SettingLaw = (x : List Bool) → length x ≤ 32 → reading (length x) (setting_of (literals 0 x)) ≡ x
