-- The contacts of a setting's record, one by one.
use Rattle.std.proofs.Common.{◌≡◌, ℕ, ◌<◌, ◌≤◌, false, length, get_or, arith}
use Rattle.std.proofs.lemmas.List.FromFn.{get_or-map-range_with_len, length-map-range_with_len}
use Rattle.std.proofs.lemmas.List.{get_or_past}
use Rattle.literals.specs.Bits.{bit}
use Rattle.settings.specs.declared.Setting.{Setting}
use Rattle.settings.specs.Readings.{reading}

pub length_reading : (n : ℕ) (s : Setting) → length (reading n s) ≡ n
length_reading n s = length-map-range_with_len (λ k. bit s.closed k) 0 n

pub reading_at : (n : ℕ) (s : Setting) (k : ℕ) → k < n → get_or (reading n s) k false ≡ bit s.closed k
reading_at n s k lt = get_or-map-range_with_len (λ k. bit s.closed k) 0 n k k false lt (omega arith)

pub reading_beyond : (n : ℕ) (s : Setting) (k : ℕ) → n ≤ k → get_or (reading n s) k false ≡ false
reading_beyond n s k le = get_or_past (reading n s) k false (omega (arith, length_reading n s))
