-- What a network computes, gate by gate, with any values that have a false one, an opposite and an AND.
use Rattle.std.specs.Prelude.{ℕ, ◌/◌, ◌%◌, cond, List, [], ◌∷◌, ◌++◌, ◌==◌, slice_index_or}
use Rattle.aiger.specs.declared.Gate.{Gate}

module _ {T : Type 0} (zero : T) (opposite : T → T) (both : T → T → T) where
  -- the value of a literal, from those of the variables: 2k is variable k, 2k + 1 its opposite, so 0 is false and 1 true
  abbrev pub literal_from : List T → ℕ → T
  literal_from values l = cond (l % 2 == 1) (opposite (slice_index_or values (l / 2) zero)) (slice_index_or values (l / 2) zero)

  -- a gate is the AND of its two sides
  abbrev pub gate_from : List T → Gate → T
  gate_from values g = both (literal_from values g.left) (literal_from values g.right)

  -- the values of all variables, gate by gate
  abbrev pub extended : List T → List Gate → List T
  extended values [] = values
  extended values (g ∷ gs) = extended (values ++ gate_from values g ∷ []) gs
