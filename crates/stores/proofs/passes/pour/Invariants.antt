use Rattle.std.proofs.Common.{◌≡◌, ◌-◌, length, take}
use Rattle.stores.specs.Stores.{after}
use Rattle.stores.proofs.passes.pour.Given as goal

-- the records in the places so far, and those that are left, are what was to be read
abbrev pub invariant-loop-place : goal.invariant-loop-place
invariant-loop-place g l =
    after (take l.place-index l.place-items) (g.R.Records.reading (length l.place-items - l.place-index) l.records)
    ≡ g.R.Records.reading (length l.place-items) l.initial.records
