-- Rules as clause texts: single spaces, ascending variables, k before −k and each literal once.
use Rattle.std.specs.Prelude.{ℕ, Bool, cond, ◌&&◌, List, [], ◌∷◌, ◌++◌, map, length, drop, ℤ, Ok, Err, codes, decimal, Result, nat_le}
use Rattle.std.specs.Fmt.{signed_decimal}
use Rattle.faults.specs.declared.SheetFault.{SheetFault}
use Rattle.faults.specs.declared.SheetFault.TheVariants.{ShortBuffer}
use Rattle.literals.specs.declared.LiteralSet.{LiteralSet}
use Rattle.literals.specs.Literals.{listed}

-- a literal with a space behind it
abbrev pub literal_text : ℤ → List ℕ
literal_text l = signed_decimal l ++ (32 ∷ [])

-- one rule's line: its literals and the closing 0
abbrev pub rule_text : List ℤ → List ℕ
rule_text [] = codes "0" ++ (10 ∷ [])
rule_text (l ∷ ls) = literal_text l ++ rule_text ls

abbrev pub rules_text : List (List ℤ) → List ℕ
rules_text [] = []
rules_text (r ∷ rs) = rule_text r ++ rules_text rs

-- the clause text of rules over V variables
abbrev pub cnf_text : ℕ → List (List ℤ) → List ℕ
cnf_text V rs = codes "p cnf " ++ (decimal V ++ (32 ∷ (decimal (length rs) ++ (10 ∷ rules_text rs))))

-- the text of rules that are held as sets of literals
abbrev pub set_texts : ℕ → List LiteralSet → List ℕ
set_texts V sets = rules_text (map (listed V) sets)

abbrev pub set_text : ℕ → List LiteralSet → List ℕ
set_text V sets = cnf_text V (map (listed V) sets)

-- a clause text has 1 to 64 variables and at most 4,096 rules
abbrev pub some_text : ℕ → List LiteralSet → Bool
some_text V sets = nat_le 1 V && (nat_le V 64 && nat_le (length sets) 4096)

-- what writing into a buffer of so many bytes answers
abbrev pub written : ℕ → List LiteralSet → ℕ → Result ℕ SheetFault
written V sets room =
    cond (some_text V sets && nat_le (length (set_text V sets)) room) (Ok (length (set_text V sets))) (Err ShortBuffer)

-- the buffer after such an answer: the text at its front and the rest as it was, or all as it was
abbrev pub buffer_after : Result ℕ SheetFault → List ℕ → List ℕ → List ℕ
buffer_after (Ok n) text s = text ++ drop (length text) s
buffer_after (Err e) text s = s
