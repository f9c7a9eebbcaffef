-- Numbers in base ten.
use Rattle.std.specs.Prelude.{ℕ, Bool, not, ◌&&◌, List, length, ◌==◌, nat_lt, slice_index}
use Rattle.std.specs.Str.{all_ascii_digits}

-- whether the word is a number: digits without needless zeros in front
abbrev pub numeral : List ℕ → Bool
numeral w = nat_lt 0 (length w) && (all_ascii_digits w && not (nat_lt 1 (length w) && slice_index w 0 == 48))
