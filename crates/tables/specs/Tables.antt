-- What a table holds, and what its calls answer and leave.
use Rattle.std.specs.Prelude.{ℕ, ◌+◌, cond, List, ◌++◌, length, take, Ok, Err, Result, nat_le, nat_lt}
use Rattle.std.specs.List.{remove}
use Rattle.tables.specs.declared.table.Table.{Table}
use Rattle.tables.specs.declared.table.Full.{Full}

-- the list that a table holds
abbrev pub items : {T : Type 0} {N : ℕ} → Table T N → List T
items t = take t.len t.slots

-- a list with more behind it, where at most n may be held
abbrev pub appended : {T : Type 0} → ℕ → List T → List T → List T
appended n xs more = cond (nat_le (length xs + length more) n) (xs ++ more) xs

abbrev pub room_for : {T : Type 0} → ℕ → List T → List T → Result (Unit {0}) Full
room_for n xs more = cond (nat_le (length xs + length more) n) (Ok tt) (Err (record {}))

-- a list without the entry at a place, if it has that place
abbrev pub without : {T : Type 0} → List T → ℕ → List T
without xs i = cond (nat_lt i (length xs)) (remove xs i) xs
