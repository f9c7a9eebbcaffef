-- What loading a clause text answers, and what the store holds then.
use Rattle.std.specs.Prelude.{ℕ, Bool, cond, ◌&&◌, List, map, length, Ok, Err, Result, nat_le}
use Rattle.faults.specs.declared.TextFault.{TextFault}
use Rattle.faults.specs.declared.StoreFault.{StoreFault}
use Rattle.faults.specs.declared.StoreFault.TheVariants.{Text, Short}
use Rattle.faults.specs.declared.SheetFault.{SheetFault}
use Rattle.faults.specs.declared.SheetFault.TheVariants.{Store, WrongContacts}
use Rattle.literals.specs.declared.LiteralSet.{LiteralSet}
use Rattle.literals.specs.Literals.{set_of}
use Rattle.stores.specs.Stores.{laid}
use Rattle.texts.specs.Due.{and_then}
use Rattle.dimacs.specs.Cnf.{Cnf}
use Rattle.dimacs_load.specs.declared.Size.{Size}

-- n is from 1 to 32, and at most V
abbrev pub suits : ℕ → ℕ → Bool
suits n V = nat_le 1 n && (nat_le n 32 && nat_le n V)

abbrev pub size_of : Cnf → Size
size_of c = record { vars = c.vars; count = length c.rules }

-- what loading for n contacts into a store of so many records answers: first the text, then n, then the store
abbrev pub loaded : ℕ → ℕ → Result Cnf TextFault → Result Size SheetFault
loaded n records (Err e) = Err (Store (Text e))
loaded n records (Ok c) =
    cond (suits n c.vars)
    (cond (nat_le (length c.rules) records) (Ok (size_of c)) (Err (Store (Short records))))
    (Err WrongContacts)

-- the rules of a text, each as the set of its literals
abbrev pub sets : Result Cnf TextFault → Result (List LiteralSet) TextFault
sets r = and_then r (λ c. Ok (map set_of c.rules))

-- the store after such an answer; a refusal leaves it as it was
abbrev pub store_after : Result Size SheetFault → Result Cnf TextFault → List LiteralSet → List LiteralSet
store_after (Ok z) r s = laid (sets r) s
store_after (Err e) r s = s

-- what the first pass answers
abbrev pub measured : Result Cnf TextFault → Result Size StoreFault
measured (Ok c) = Ok (size_of c)
measured (Err e) = Err (Text e)
