-- How often a closure is called.
use Rattle.std.specs.Prelude.{◌≡◌, ℕ, ◌-◌, List, length}
use Rattle.std.specs.List.{FoldsTo}

-- it was called so often and at least once, each time from the state that the call before had left, and the last call gave the answer
abbrev pub CalledTimes : {F R : Type 0} → (F → R → F → Type 0) → F → ℕ → R → Type 0
CalledTimes {F} {R} step f times r = (earlier : List R) × (before after : F) × (length earlier ≡ times - 1) × FoldsTo step f earlier before × step before r after
