-- Records that were read from a text, and a store that they are laid into.
use Rattle.std.specs.Prelude.{ℕ, ◌≤◌, cond, List, [], ◌∷◌, ◌++◌, length, drop, Ok, Err, Result, nat_le}
use Rattle.faults.specs.declared.TextFault.{TextFault}
use Rattle.faults.specs.declared.StoreFault.{StoreFault}
use Rattle.faults.specs.declared.StoreFault.TheVariants.{Short}

-- whether a store of so many records has one for each of so many
abbrev pub roomy : ℕ → ℕ → Result (Unit {0}) StoreFault
roomy count records = cond (nat_le count records) (Ok tt) (Err (Short records))

-- the store with the records at its front, and the rest as it was; all as it was where none were read
abbrev pub laid : {A : Type 0} → Result (List A) TextFault → List A → List A
laid (Ok xs) s = xs ++ drop (length xs) s
laid (Err e) s = s

-- whether the records could be read
abbrev pub verdict : {A : Type 0} → Result A TextFault → Result (Unit {0}) TextFault
verdict (Ok v) = Ok tt
verdict (Err e) = Err e

-- one record before those that follow it
abbrev pub before : {A : Type 0} → A → Result (List A) TextFault → Result (List A) TextFault
before a (Ok xs) = Ok (a ∷ xs)
before a (Err e) = Err e

-- the record that was read, before those that follow it
abbrev pub with_first : {A : Type 0} → Result A TextFault → Result (List A) TextFault → Result (List A) TextFault
with_first (Ok a) r = before a r
with_first (Err e) r = Err e

-- behind the last record nothing follows, if the end could be read
abbrev pub nothing_behind : {A : Type 0} → Result (Unit {0}) TextFault → Result (List A) TextFault
nothing_behind (Ok v) = Ok []
nothing_behind (Err e) = Err e

-- records that were read before them
abbrev pub after : {A : Type 0} → List A → Result (List A) TextFault → Result (List A) TextFault
after ys (Ok xs) = Ok (ys ++ xs)
after ys (Err e) = Err e

-- the records were read, and there are at most n
abbrev pub Room : {A : Type 0} → Result (List A) TextFault → ℕ → Type 0
Room (Ok xs) n = length xs ≤ n
Room (Err e) n = ⊥
