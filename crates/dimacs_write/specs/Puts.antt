-- Bytes put into a buffer, one after another.
use Rattle.std.specs.Prelude.{◌≡◌, ℕ, suc, ◌+◌, Bool, true, false, cond, List, [], ◌∷◌, ◌++◌, length, ℤ, pos, negsuc, Ok, Err, Result, slice_set}
use Rattle.faults.specs.declared.SheetFault.{SheetFault}
use Rattle.literals.specs.declared.LiteralSet.{LiteralSet}
use Rattle.literals.specs.Literals.{has}
use Rattle.dimacs_write.specs.declared.Output.{Output}
use Rattle.dimacs_write.specs.Texts.{literal_text}

-- the buffer s with bs from place i on; what is past its end is left out
abbrev pub over : List ℕ → ℕ → List ℕ → List ℕ
over s i [] = s
over s i (b ∷ bs) = over (slice_set s i b) (i + 1) bs

-- bs were put behind what was put before, into the same buffer
pub record Put (old : Output) (bs : List ℕ) (new : Output) : Type 0 where
  pub bytes : new.buffer.now ≡ over old.buffer.now old.length bs
  pub counted : new.length ≡ old.length + length bs
  pub same_buffer : new.buffer.ghost_name ≡ old.buffer.ghost_name

-- the buffer after an answer
abbrev pub written_over : Result ℕ SheetFault → List ℕ → List ℕ → List ℕ
written_over (Ok n) text s = over s 0 text
written_over (Err e) text s = s

-- −(k + 1) or k + 1
abbrev pub literal_of : Bool → ℕ → ℤ
literal_of true k = negsuc k
literal_of false k = pos (suc k)

-- the literals of variable k + 1 that a set has
abbrev pub variable_text : LiteralSet → ℕ → List ℕ
variable_text s k = cond (has s k true) (literal_text (literal_of false k)) [] ++ cond (has s k false) (literal_text (literal_of true k)) []
