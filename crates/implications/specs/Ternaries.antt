-- What is known of the variables of a network, step by step: of each nothing yet, or its value.
use Rattle.std.specs.Prelude.{◌≡◌, ℕ, zero, suc, ◌*◌, ◌/◌, ◌%◌, Bool, true, false, cond, not, List, Some, None, Ok, Err, Option, Result, ◌==◌, slice_index_or, slice_set}
use Rattle.aiger.specs.declared.Gate.{Gate}
use Rattle.literals.specs.Bits.{bit}
use Rattle.search.specs.declared.Assignment.{Assignment}
use Rattle.search.specs.Assignments.{decided, with_value}
use Rattle.networks.specs.Circuits.{readable}
use Rattle.implications.specs.declared.Consequence.{Consequence}
use Rattle.implications.specs.declared.Consequence.TheVariants.{Nothing, Contradiction as Contradicted, OutZero, OutOne, LeftZero, RightZero, SidesOne}
use Rattle.implications.specs.declared.Contradiction.{Contradiction}

abbrev pub opposite : Option Bool → Option Bool
opposite None = None
opposite (Some b) = Some (not b)

-- what follows at a gate: forward to it from its sides, and backward from the gate to its sides
abbrev pub inferred : Option Bool → Option Bool → Option Bool → Consequence
inferred (Some true) (Some false) r = Contradicted
inferred (Some true) (Some true) (Some false) = Contradicted
inferred (Some true) (Some true) (Some true) = Nothing
inferred (Some true) (Some true) None = SidesOne
inferred (Some true) None (Some false) = Contradicted
inferred (Some true) None (Some true) = SidesOne
inferred (Some true) None None = SidesOne
inferred (Some false) (Some false) r = Nothing
inferred (Some false) (Some true) (Some false) = Nothing
inferred (Some false) (Some true) (Some true) = Contradicted
inferred (Some false) (Some true) None = RightZero
inferred (Some false) None (Some false) = Nothing
inferred (Some false) None (Some true) = LeftZero
inferred (Some false) None None = Nothing
inferred None (Some false) r = OutZero
inferred None (Some true) (Some false) = OutZero
inferred None (Some true) (Some true) = OutOne
inferred None (Some true) None = Nothing
inferred None None (Some false) = OutZero
inferred None None (Some true) = Nothing
inferred None None None = Nothing

-- what is known of a literal, where ts says it of the variables
abbrev pub known : List (Option Bool) → ℕ → Option Bool
known ts l = cond (l % 2 == 1) (opposite (slice_index_or ts (l / 2) None)) (slice_index_or ts (l / 2) None)

abbrev pub written : List (Option Bool) → ℕ → Bool → List (Option Bool)
written ts l b = slice_set ts (l / 2) (Some (cond (l % 2 == 1) (not b) b))

-- what a step leaves: nothing that could be, where it found a contradiction
abbrev pub left_by : {A : Type 0} → Result A Contradiction → List (Option Bool) → Option (List (Option Bool))
left_by (Err e) ts = None
left_by (Ok a) ts = Some ts

-- what is known then, where a literal of which this is known is to be 1
abbrev pub demanded_by : Option Bool → List (Option Bool) → ℕ → Option (List (Option Bool))
demanded_by (Some true) ts l = Some ts
demanded_by (Some false) ts l = None
demanded_by None ts l = Some (written ts l true)

abbrev pub demanded : List (Option Bool) → ℕ → Option (List (Option Bool))
demanded ts l = demanded_by (known ts l) ts l

-- what is known then, by what follows at the gate of some literals
abbrev pub followed : Consequence → List (Option Bool) → ℕ → ℕ → ℕ → Option (List (Option Bool))
followed Nothing ts out left right = Some ts
followed Contradicted ts out left right = None
followed OutZero ts out left right = Some (written ts out false)
followed OutOne ts out left right = Some (written ts out true)
followed LeftZero ts out left right = Some (written ts left false)
followed RightZero ts out left right = Some (written ts right false)
followed SidesOne ts out left right = Some (written (written ts left true) right true)

abbrev pub gate_step : List (Option Bool) → ℕ → ℕ → ℕ → Option (List (Option Bool))
gate_step ts out left right = followed (inferred (known ts out) (known ts left) (known ts right)) ts out left right

-- what follows at the gate of variable v
abbrev pub step_at : List (Option Bool) → ℕ → Gate → Option (List (Option Bool))
step_at ts v g = gate_step ts (2 * v) (readable v g.left) (readable v g.right)

-- what an assignment says of a variable
abbrev pub assigned : Assignment → ℕ → Option Bool
assigned a k = cond (bit a.closed k) (Some true) (cond (bit a.opened k) (Some false) None)

-- an assignment with what is known of one variable more, unless that is decided
abbrev pub taken_from : Assignment → ℕ → Option Bool → Assignment
taken_from a k None = a
taken_from a k (Some b) = cond (decided a k) a (with_value a k b)

-- an assignment with what is known of the first n inputs
abbrev pub narrowed : ℕ → List (Option Bool) → Assignment → Assignment
narrowed zero ts a = a
narrowed (suc k) ts a = taken_from (narrowed k ts a) k (slice_index_or ts (suc k) None)

-- what is known of a value is right
abbrev pub Agree : Option Bool → Bool → Type 0
Agree None b = Unit {0}
Agree (Some v) b = b ≡ v

-- what is known of each variable is right, where V has their values
abbrev pub Sound : List (Option Bool) → (ℕ → Bool) → Type 0
Sound ts V = (v : ℕ) → Agree (slice_index_or ts v None) (V v)

-- the same after a call; where it found a contradiction, V cannot be
abbrev pub Holds : {A : Type 0} → (ℕ → Bool) → Result A Contradiction → List (Option Bool) → Type 0
Holds V (Err e) ts = ⊥
Holds V (Ok a) ts = Sound ts V
