-- What the records of settings and terms say.
use Rattle.std.specs.Prelude.{ℕ, Bool, List, map, ℤ, Option, bit_and}
use Rattle.std.specs.List.{find, range_with_len}
use Rattle.literals.specs.Bits.{bit}
use Rattle.literals.specs.Literals.{set_of}
use Rattle.settings.specs.declared.Setting.{Setting}

-- the setting of n contacts in a record: bit k - 1 of `closed` stands for contact k
abbrev pub reading : ℕ → Setting → List Bool
reading n s = map (λ k. bit s.closed k) (range_with_len 0 n)

-- the record of the setting in which the contacts are closed that the literals want closed
abbrev pub setting_of : List ℤ → Setting
setting_of ls = record { closed = bit_and (set_of ls).closed 0xffff_ffff }

-- the first setting of a list that passes
abbrev pub first_passing : ℕ → (List Bool → Bool) → List Setting → Option Setting
first_passing n p ss = find (λ s. p (reading n s)) ss
