-- What the making of a number of contacts answers.
use Rattle.std.specs.Prelude.{◌≡◌, ℕ, Bool, true, false, ◌&&◌, Ok, Err, Result, nat_le}
use Rattle.faults.specs.declared.SheetFault.{SheetFault}
use Rattle.faults.specs.declared.SheetFault.TheVariants.{WrongContacts}
use Rattle.solver.specs.declared.count.ContactCount.{ContactCount}

-- there are 1 to 32 contacts
abbrev pub suits : ℕ → Bool
suits contacts = nat_le 1 contacts && nat_le contacts 32

-- the count that was made, or the refusal
abbrev pub Counted : ℕ → Result ContactCount SheetFault → Type 0
Counted contacts (Ok c) = (suits contacts ≡ true) × (c.contacts ≡ contacts)
Counted contacts (Err f) = (suits contacts ≡ false) × (f ≡ WrongContacts)
