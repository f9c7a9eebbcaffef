-- Settings of contacts, and what they agree with.
-- A contact is open or closed, and contacts are numbered from 1. A setting of n contacts is a list of n Bools: index k - 1 stands for contact k, and true for closed.
use Rattle.std.specs.Prelude.{ℕ, zero, suc, ◌+◌, ◌^◌, Bool, true, false, not, ◌&&◌, ◌||◌, List, [], ◌∷◌, length, ℤ, pos, negsuc, slice_index_or}
use Rattle.literals.specs.declared.LiteralSet.{LiteralSet}
use Rattle.literals.specs.Literals.{has}

-- k wants contact k closed, and -k wants it open
abbrev pub agrees : List Bool → ℤ → Bool
agrees x (pos zero) = false
agrees x (pos (suc k)) = slice_index_or x k false
agrees x (negsuc k) = not (slice_index_or x k false)

-- a rule is a list of literals, met by a setting that agrees with at least one of them
abbrev pub met : List ℤ → List Bool → Bool
met [] x = false
met (l ∷ ls) x = agrees x l || met ls x

-- a setting fits a list of literals when it agrees with all of them
abbrev pub fits : List ℤ → List Bool → Bool
fits [] x = true
fits (l ∷ ls) x = agrees x l && fits ls x

-- one of several lists of literals covers a setting: the setting fits it
abbrev pub covered : List (List ℤ) → List Bool → Bool
covered [] x = false
covered (t ∷ ts) x = fits t x || covered ts x

-- contact k of n has the weight 2 ^ (n - k), and a setting's number is the sum of the weights of its closed contacts; the smaller number is earlier
abbrev pub number : List Bool → ℕ
number [] = 0
number (true ∷ x) = 2 ^ length x + number x
number (false ∷ x) = number x

-- the literal that a contact agrees with, and those of a setting, in contact order from contact j + 1 on
abbrev pub literal : ℕ → Bool → ℤ
literal j true = pos (suc j)
literal j false = negsuc j

abbrev pub literals : ℕ → List Bool → List ℤ
literals j [] = []
literals j (b ∷ x) = literal j b ∷ literals (suc j) x

-- the same of a set of literals, contact by contact from contact j + 1 on: a rule is met where the set has a literal that a contact agrees with,
-- and a bar covers the setting where it has none that a contact opposes
abbrev pub meets_from : ℕ → LiteralSet → List Bool → Bool
meets_from j s [] = false
meets_from j s (b ∷ x) = has s j b || meets_from (suc j) s x

abbrev pub covers_from : ℕ → LiteralSet → List Bool → Bool
covers_from j s [] = true
covers_from j s (b ∷ x) = not (has s j (not b)) && covers_from (suc j) s x

abbrev pub meets : LiteralSet → List Bool → Bool
meets s x = meets_from 0 s x

abbrev pub covers : LiteralSet → List Bool → Bool
covers s x = covers_from 0 s x

-- the opposite literals: a rule of them is met exactly where a bar of the literals does not cover
abbrev pub opposite : LiteralSet → LiteralSet
opposite s = record { closed = s.opened; opened = s.closed }

-- every rule is met; some bar covers
abbrev pub all_met : List LiteralSet → List Bool → Bool
all_met [] x = true
all_met (r ∷ rs) x = meets r x && all_met rs x

abbrev pub any_covers : List LiteralSet → List Bool → Bool
any_covers [] x = false
any_covers (b ∷ bs) x = covers b x || any_covers bs x
