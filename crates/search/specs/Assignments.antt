-- Assignments: what is decided so far of some variables. A variable goes by its index, from 0, as in a setting.
use Rattle.std.specs.Prelude.{◌≡◌, ℕ, zero, suc, ◌+◌, ◌-◌, ◌^◌, ◌<◌, min, Bool, true, false, cond, not, ◌&&◌, ◌||◌, List, map, ◌==◌, bit_and, bit_or, nat_lt}
use Rattle.std.specs.List.{range_with_len}
use Rattle.literals.specs.Bits.{bit}
use Rattle.literals.specs.declared.LiteralSet.{LiteralSet}
use Rattle.settings.specs.declared.Setting.{Setting}
use Rattle.settings.specs.Settings.{covers}
use Rattle.search.specs.declared.Assignment.{Assignment}

-- the literals that an assignment takes, and back
abbrev pub taken : Assignment → LiteralSet
taken a = record { closed = a.closed; opened = a.opened }

abbrev pub from_set : LiteralSet → Assignment
from_set s = record { closed = s.closed; opened = s.opened }

-- a setting agrees with all that is decided
abbrev pub agreeing : Assignment → List Bool → Bool
agreeing a x = covers (taken a) x

abbrev pub decided : Assignment → ℕ → Bool
decided a k = bit a.closed k || bit a.opened k

-- decided both ways, and that none of n variables is
abbrev pub both : Assignment → ℕ → Bool
both a k = bit a.closed k && bit a.opened k

abbrev pub Clear : ℕ → Assignment → Type 0
Clear n a = (k : ℕ) → k < n → both a k ≡ false

-- the mask of the first n variables, of which a mask has 64
abbrev pub low_mask : ℕ → ℕ
low_mask n = 2 ^ min n 64 - 1

abbrev pub clashing : ℕ → Assignment → Bool
clashing n a = not (bit_and (bit_and a.closed a.opened) (low_mask n) == 0)

-- one variable more is decided closed (true) or open (false); a mask has 64 variables
abbrev pub put : Assignment → ℕ → Bool → Assignment
put a k true = record { closed = bit_or a.closed (2 ^ k); opened = a.opened }
put a k false = record { closed = a.closed; opened = bit_or a.opened (2 ^ k) }

abbrev pub with_value : Assignment → ℕ → Bool → Assignment
with_value a k b = cond (nat_lt k 64) (put a k b) a

-- the setting of n variables that an assignment gives with the rest open
abbrev pub filled : ℕ → Assignment → List Bool
filled n a = map (λ k. bit a.closed k) (range_with_len 0 n)

-- the record of the setting of the first 32 variables
abbrev pub low_half : Assignment → Setting
low_half a = record { closed = bit_and a.closed 0xffff_ffff }

-- how many of the first n variables pass a test, and how many are undecided
abbrev pub count_below : ℕ → (ℕ → Bool) → ℕ
count_below zero p = 0
count_below (suc n) p = cond (p n) 1 0 + count_below n p

abbrev pub undecided : ℕ → Assignment → ℕ
undecided n a = count_below n (λ k. not (decided a k))
