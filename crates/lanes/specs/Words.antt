-- Words of 64 lanes: the value of a variable at 64 settings.
use Rattle.std.specs.Prelude.{◌≡◌, ℕ, suc, ◌+◌, ◌^◌, ◌<◌, Bool, true, false, cond, not, ◌&&◌, List, [], ◌∷◌, map, Some, None, Option, ◌==◌, bit_and, bit_or, bit_xor}
use Rattle.std.specs.List.{range_with_len}
use Rattle.literals.specs.Bits.{bit}
use Rattle.literals.specs.Literals.{has}
use Rattle.literals.specs.declared.LiteralSet.{LiteralSet}
use Rattle.settings.specs.Settings.{all_met, any_covers}
use Rattle.aiger.specs.declared.Gate.{Gate}
use Rattle.networks.specs.declared.lent_gates.Circuit.{Circuit}
use Rattle.networks.specs.Circuits.{circuit_allows}
use Rattle.networks.specs.Evaluation.{literal_from, gate_from, extended}
use Rattle.search.specs.declared.Assignment.{Assignment}
use Rattle.search.specs.declared.Found.TheVariants.{Conflict, MetBy}
use Rattle.search.specs.Assignments.{decided, undecided}
use Rattle.search.specs.Search.{Says}
use Rattle.rules.specs.Rules.{as_rule}

-- the word with every lane
abbrev pub all_lanes : ℕ
all_lanes = 0xffff_ffff_ffff_ffff

-- the lanes in which the free input of a rank is closed: lane j has them closed that are bits of j
abbrev pub pattern : ℕ → ℕ
pattern r =
    cond (r == 0) 0xaaaa_aaaa_aaaa_aaaa
    (cond (r == 1) 0xcccc_cccc_cccc_cccc
    (cond (r == 2) 0xf0f0_f0f0_f0f0_f0f0
    (cond (r == 3) 0xff00_ff00_ff00_ff00
    (cond (r == 4) 0xffff_0000_ffff_0000
    (cond (r == 5) 0xffff_ffff_0000_0000 0)))))

-- the lanes of input k, where so many inputs before it are undecided
abbrev pub input_word : Assignment → ℕ → ℕ → ℕ
input_word a k rank = cond (bit a.closed k) all_lanes (cond (bit a.opened k) 0 (pattern rank))

abbrev pub next_rank : Assignment → ℕ → ℕ → ℕ
next_rank a k rank = cond (decided a k) rank (rank + 1)

abbrev pub input_words : ℕ → Assignment → List ℕ
input_words n a = map (λ k. input_word a k (undecided k a)) (range_with_len 0 n)

-- what a network computes, lane by lane: as its values, with words in place of Bools
abbrev pub literal_word : List ℕ → ℕ → ℕ
literal_word ws l = literal_from 0 (λ w. bit_xor w all_lanes) (λ w v. bit_and w v) ws l

abbrev pub gate_word : List ℕ → Gate → ℕ
gate_word ws g = gate_from 0 (λ w. bit_xor w all_lanes) (λ w v. bit_and w v) ws g

abbrev pub words_from : List ℕ → List Gate → List ℕ
words_from ws gs = extended 0 (λ w. bit_xor w all_lanes) (λ w v. bit_and w v) ws gs

-- the lanes in which the output is 1
abbrev pub output_word : List Gate → ℕ → List ℕ → ℕ
output_word gates output ws = literal_word (words_from (0 ∷ ws) gates) output

-- the lanes in which input k agrees with a literal of the rule
abbrev pub literals_word : LiteralSet → ℕ → ℕ → ℕ
literals_word s k w = bit_or (cond (has s k true) w 0) (cond (has s k false) (bit_xor w all_lanes) 0)

-- the lanes in which a rule is met by the inputs from input k on, added to those at hand; and of the lanes at hand those in which all rules are met
abbrev pub met_word : ℕ → ℕ → LiteralSet → List ℕ → ℕ
met_word lanes k s [] = lanes
met_word lanes k s (w ∷ ws) = met_word (bit_or lanes (literals_word s k w)) (suc k) s ws

abbrev pub all_met_word : ℕ → List LiteralSet → List ℕ → ℕ
all_met_word lanes [] ws = lanes
all_met_word lanes (s ∷ ss) ws = all_met_word (bit_and lanes (met_word 0 0 s ws)) ss ws

-- what is searched for: the output is 1, every rule is met, and no bar covers
abbrev pub circuit_good : Circuit → List LiteralSet → List LiteralSet → List Bool → Bool
circuit_good c rules bars x = circuit_allows c x && (all_met rules x && not (any_covers bars x))

-- the lanes of such settings
abbrev pub good_word : Circuit → List LiteralSet → List LiteralSet → List ℕ → ℕ
good_word c rules bars ws = bit_and (output_word c.gates.now c.output ws) (bit_and (all_met_word all_lanes (map (as_rule false) rules) ws) (all_met_word all_lanes (map (as_rule true) bars) ws))

-- a lane that is set, or none is
abbrev pub FirstLane : ℕ → Option ℕ → Type 0
FirstLane w None = (j : ℕ) → j < 64 → bit w j ≡ false
FirstLane w (Some j) = (j < 64) × (bit w j ≡ true)

abbrev pub with_bit : ℕ → ℕ → Bool → ℕ
with_bit m k b = cond b (bit_or m (2 ^ k)) m

-- a good setting that agrees with the assignment, or there is none
abbrev pub Tried : ℕ → (List Bool → Bool) → Assignment → Option Assignment → Type 0
Tried n good a None = Says n good a Conflict
Tried n good a (Some b) = Says n good a (MetBy b)
