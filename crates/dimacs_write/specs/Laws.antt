-- What is written, read again.
use Rattle.std.specs.Prelude.{◌≡◌, ℕ, ◌^◌, ◌<◌, ◌≤◌, List, map, length, take, Ok, Err, Result}
use Rattle.std.specs.List.{AllByRecursion}
use Rattle.faults.specs.declared.TextFault.{TextFault}
use Rattle.faults.specs.declared.SheetFault.{SheetFault}
use Rattle.literals.specs.declared.LiteralSet.{LiteralSet}
use Rattle.literals.specs.Literals.{set_of}
use Rattle.texts.specs.Due.{and_then}
use Rattle.dimacs.specs.Cnf.{Cnf, read_cnf}
use Rattle.dimacs_write.specs.Texts.{set_text}

-- V and the rules of a text, each rule as the set of its literals
abbrev pub as_sets : Result Cnf TextFault → Result (ℕ × List LiteralSet) TextFault
as_sets r = and_then r (λ c. Ok (c.vars, map set_of c.rules))

-- a set that has literals of the first V variables only
abbrev pub Over : ℕ → LiteralSet → Type 0
Over V s = (s.closed < 2 ^ V) × (s.opened < 2 ^ V)

-- what was written reads back as the same V and the same rules in their order, unless it is longer than a text may be
abbrev pub ReadsBack : ℕ → List LiteralSet → Result ℕ SheetFault → List ℕ → Type 0
ReadsBack V sets (Ok n) out = AllByRecursion (Over V) sets → n ≤ 60000 → as_sets (read_cnf (take n out)) ≡ Ok (V, sets)
ReadsBack V sets (Err e) out = Unit {0}

-- the rules that a text was read as are written in no more bytes than it has, and read back as the same
pub record WrittenAgain (V : ℕ) (sets : List LiteralSet) (text : List ℕ) : Type 0 where
  pub no_longer : length (set_text V sets) ≤ length text
  pub same : as_sets (read_cnf (set_text V sets)) ≡ as_sets (read_cnf text)
