-- What a word says as a number.
use Rattle.std.specs.Prelude.{ℕ, List}
use Rattle.std.specs.Str.Parse.{digits_value, without_leading_plus}

-- the number that its decimal digits write, behind a plus if there is one
abbrev pub spelled : List ℕ → ℕ
spelled word = digits_value 10 (without_leading_plus word)
