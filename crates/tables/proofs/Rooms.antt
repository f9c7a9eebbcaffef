-- What is placed where there is room.
use Rattle.std.proofs.Common.{◌≡◌, ℕ, ◌+◌, ◌≤◌, List, ◌++◌, length, ◌∙◌}
use Rattle.std.proofs.lemmas.Bool.{le-leb, cond-true}
use Rattle.tables.specs.Tables.{appended}

pub appended_in_room : {T : Type 0} (n : ℕ) (xs more ys : List T) → ys ≡ appended n xs more → length xs + length more ≤ n → ys ≡ xs ++ more
appended_in_room n xs more ys placed room = placed ∙ cond-true _ _ _ (le-leb _ _ room)
