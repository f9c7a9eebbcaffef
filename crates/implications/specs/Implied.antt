-- What follows from an assignment is right at the settings that agree with it.
use Rattle.std.specs.Prelude.{◌≡◌, ℕ, ◌+◌, ◌<◌, Bool, true, false, List, length, None, Ok, Err, Option, Result, ◌≢◌, slice_index_or}
use Rattle.search.specs.declared.Assignment.{Assignment}
use Rattle.search.specs.Assignments.{agreeing}
use Rattle.networks.specs.declared.lent_gates.Circuit.{Circuit}
use Rattle.networks.specs.Circuits.{circuit_allows, computed}
use Rattle.implications.specs.Ternaries.{Agree, Sound}
use Rattle.implications.specs.declared.Contradiction.{Contradiction}
use Rattle.implications.specs.declared.known.Implied.{Implied}

-- what follows from an assignment is right at each setting that the circuit allows and that agrees with it; a contradiction where there is no such setting
abbrev pub Implies : Circuit → Assignment → Result Implied Contradiction → Type 0
Implies c a (Err e) = (x : List Bool) → length x ≡ c.inputs → circuit_allows c x ≡ true → agreeing a x ≢ true
Implies c a (Ok k) = (x : List Bool) → length x ≡ c.inputs → circuit_allows c x ≡ true → agreeing a x ≡ true → Sound k.values (computed c.gates.now x)

-- what is known of the inputs is right at each good setting that agrees with the assignment
abbrev pub Right : ℕ → (List Bool → Bool) → Assignment → List (Option Bool) → Type 0
Right n good a ts = (x : List Bool) → length x ≡ n → good x ≡ true → agreeing a x ≡ true → (k : ℕ) → k < n → Agree (slice_index_or ts (k + 1) None) (slice_index_or x k false)
