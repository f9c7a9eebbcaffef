-- What loading a gate text answers, and what the store holds then.
use Rattle.std.specs.Prelude.{ℕ, cond, List, length, Ok, Err, Result, ◌==◌, nat_le}
use Rattle.faults.specs.declared.TextFault.{TextFault}
use Rattle.faults.specs.declared.StoreFault.{StoreFault}
use Rattle.faults.specs.declared.StoreFault.TheVariants.{Text, Short}
use Rattle.faults.specs.declared.SheetFault.{SheetFault}
use Rattle.faults.specs.declared.SheetFault.TheVariants.{Store, WrongContacts}
use Rattle.stores.specs.Stores.{laid}
use Rattle.texts.specs.Due.{and_then}
use Rattle.aiger.specs.declared.Gate.{Gate}
use Rattle.aiger.specs.Aag.{Aag}
use Rattle.aiger_load.specs.declared.Network.{Network}

abbrev pub network_of : Aag → Network
network_of c = record { inputs = c.inputs; count = length c.gates; output = c.output }

-- what loading for n contacts into a store of so many records answers: first the text, then n, then the store
abbrev pub loaded : ℕ → ℕ → Result Aag TextFault → Result Network SheetFault
loaded n records (Err e) = Err (Store (Text e))
loaded n records (Ok c) =
    cond (n == c.inputs)
    (cond (nat_le (length c.gates) records) (Ok (network_of c)) (Err (Store (Short records))))
    (Err WrongContacts)

abbrev pub gates : Result Aag TextFault → Result (List Gate) TextFault
gates r = and_then r (λ c. Ok c.gates)

-- the store after such an answer; a refusal leaves it as it was
abbrev pub store_after : Result Network SheetFault → Result Aag TextFault → List Gate → List Gate
store_after (Ok z) r s = laid (gates r) s
store_after (Err e) r s = s

-- what the first pass answers
abbrev pub measured : Result Aag TextFault → Result Network StoreFault
measured (Ok c) = Ok (network_of c)
measured (Err e) = Err (Text e)
