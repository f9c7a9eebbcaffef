use Rattle.std.proofs.Common.{◌≡◌, min, true, take}
use Rattle.std.specs.Str.Parse.{digits_value}
use Rattle.std.specs.Str.{all_ascii_digits}
use Rattle.texts.proofs.decimal.decimal.Given as goal

abbrev pub invariant-loop-byte : goal.invariant-loop-byte
invariant-loop-byte l = (all_ascii_digits (take l.byte-index l.word) ≡ true) × (l.number ≡ min (digits_value 10 (take l.byte-index l.word)) 1000000)
