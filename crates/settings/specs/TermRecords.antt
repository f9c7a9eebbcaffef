-- A term as it is written: the sum of the weights of the contacts that it wants closed, and of those that it wants open. Contact k of n has the weight 2 ^ (n - k).
use Rattle.std.specs.Prelude.{ℕ, zero, suc, ◌+◌, ◌-◌, ◌/◌, ◌%◌, ◌^◌, Bool, true, false, cond, ◌&&◌, List, [], ◌∷◌, ℤ, pos, negsuc, fold, ◌==◌, bit_and, bit_or}
use Rattle.literals.specs.Literals.{names}
use Rattle.settings.specs.declared.Term.{Term}

-- the weight of a literal's contact where the literal wants it closed; where it wants it open
abbrev pub closed_weight : ℕ → ℤ → ℕ
closed_weight n (pos zero) = 0
closed_weight n (pos (suc k)) = 2 ^ (n - suc k)
closed_weight n (negsuc k) = 0

abbrev pub opened_weight : ℕ → ℤ → ℕ
opened_weight n (pos k) = 0
opened_weight n (negsuc k) = 2 ^ (n - suc k)

abbrev pub total : (ℤ → ℕ) → List ℤ → ℕ
total weight [] = 0
total weight (l ∷ ls) = weight l + total weight ls

-- what is written of a term
abbrev pub sums : ℕ → List ℤ → Term
sums n ls = record { closed = total (closed_weight n) ls; opened = total (opened_weight n) ls }

-- a record covers the setting of a number that has each weight wanted closed and none wanted open
abbrev pub record_covers : Term → ℕ → Bool
record_covers t v = bit_and v t.closed == t.closed && bit_and v t.opened == 0

-- the setting of a number: its last n binary digits, the greatest first
abbrev pub digits : ℕ → ℕ → List Bool
digits zero v = []
digits (suc n) v = (v / 2 ^ n % 2 == 1) ∷ digits n v

-- the literal of contact j + 1 where it is wanted closed, or open; none where it is wanted neither way
abbrev pub signed_at : ℕ → Bool → Bool → List ℤ
signed_at j true o = pos (suc j) ∷ []
signed_at j false true = negsuc j ∷ []
signed_at j false false = []

-- the literals of the contacts wanted closed or open, in contact order from contact j + 1 on
abbrev pub signed : ℕ → List Bool → List Bool → List ℤ
signed j [] os = []
signed j (c ∷ cs) [] = []
signed j (true ∷ cs) (o ∷ os) = pos (suc j) ∷ signed (suc j) cs os
signed j (false ∷ cs) (true ∷ os) = negsuc j ∷ signed (suc j) cs os
signed j (false ∷ cs) (false ∷ os) = signed (suc j) cs os

-- the literals that a record wants, in contact order
abbrev pub wanted : ℕ → Term → List ℤ
wanted n t = signed 0 (digits n t.closed) (digits n t.opened)

-- the record of a term that wants nothing
abbrev pub no_wants : Term
no_wants = record { closed = 0; opened = 0 }

-- a record with what one literal wants besides; a literal that names none of n contacts adds nothing
abbrev pub with_want : ℕ → Term → ℤ → Term
with_want n t (pos zero) = t
with_want n t (pos (suc k)) = record { closed = bit_or t.closed (2 ^ (n - suc k)); opened = t.opened }
with_want n t (negsuc k) = record { closed = t.closed; opened = bit_or t.opened (2 ^ (n - suc k)) }

abbrev pub with_wanted : ℕ → Term → ℤ → Term
with_wanted n t l = cond (names n l) (with_want n t l) t

-- the record of what the literals of a list want; for the literals of a term it has their sums
abbrev pub record_of : ℕ → List ℤ → Term
record_of n ls = fold (with_wanted n) no_wants ls
