-- Literals: k wants variable k closed, and -k wants it open.
use Rattle.std.specs.Prelude.{ℕ, zero, suc, ◌^◌, Bool, true, false, cond, List, [], ◌∷◌, ◌++◌, ℤ, pos, negsuc, Some, None, fold, Option, bit_or, nat_lt}
use Rattle.std.specs.Option.{option_map}
use Rattle.literals.specs.declared.LiteralSet.{LiteralSet}
use Rattle.literals.specs.Bits.{bit}

-- a literal names one of n variables; 0 names none
abbrev pub names : ℕ → ℤ → Bool
names n (pos zero) = false
names n (pos (suc k)) = nat_lt k n
names n (negsuc k) = nat_lt k n

-- the place of the first literal that names no variable
abbrev pub first_unnamed : ℕ → List ℤ → Option ℕ
first_unnamed n [] = None
first_unnamed n (l ∷ ls) = cond (names n l) (option_map suc (first_unnamed n ls)) (Some 0)

-- a place of a list of some length, or none past its end
abbrev pub place_within : ℕ → ℕ → Option ℕ
place_within i length = cond (nat_lt i length) (Some i) None

abbrev pub no_literals : LiteralSet
no_literals = record { closed = 0; opened = 0 }

abbrev pub inserted : LiteralSet → ℤ → LiteralSet
inserted s (pos zero) = s
inserted s (pos (suc k)) = record { closed = bit_or s.closed (2 ^ k); opened = s.opened }
inserted s (negsuc k) = record { closed = s.closed; opened = bit_or s.opened (2 ^ k) }

-- a literal that names none of 64 variables adds nothing
abbrev pub with_literal : LiteralSet → ℤ → LiteralSet
with_literal s l = cond (names 64 l) (inserted s l) s

-- the set of a list's literals
abbrev pub set_of : List ℤ → LiteralSet
set_of ls = fold with_literal no_literals ls

-- the set has the literal that wants variable k + 1 closed (true), or open (false)
abbrev pub has : LiteralSet → ℕ → Bool → Bool
has s k true = bit s.closed k
has s k false = bit s.opened k

abbrev pub when : {A : Type 0} → Bool → A → List A
when b a = cond b (a ∷ []) []

-- the literals of a set on n variables from variable k + 1 on: ascending, k before -k, each once
abbrev pub listed_from : ℕ → ℕ → LiteralSet → List ℤ
listed_from k zero s = []
listed_from k (suc n) s = when (has s k true) (pos (suc k)) ++ (when (has s k false) (negsuc k) ++ listed_from (suc k) n s)

abbrev pub listed : ℕ → LiteralSet → List ℤ
listed n s = listed_from 0 n s
