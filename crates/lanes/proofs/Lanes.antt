-- Each lane of the words is the network, the rules and the bars at the setting of that lane.
use Rattle.std.proofs.Common.{◌≡◌, ℕ, zero, suc, ◌/◌, ◌%◌, ◌<◌, Bool, true, false, cond, not, ◌&&◌, ◌||◌, eqb, List, [], ◌∷◌, ◌++◌, map, get_or, sym, refl, ap, ◌∙◌, ap₂}
use mathlib.Core.List.{map-append}
use lib.Bits.{bit_and, bit_or, bit_xor}
use Rattle.literals.specs.Bits.{bit}
use Rattle.literals.specs.Literals.{has}
use Rattle.literals.specs.declared.LiteralSet.{LiteralSet}
use Rattle.literals.proofs.Bits.{xor, bit_of_or, bit_of_and, bit_of_xor, bit_zero, bit_ones}
use Rattle.literals.proofs.Booleans.{and_assoc, or_assoc, or_false, and_true}
use Rattle.settings.specs.Settings.{meets_from, meets, all_met}
use Rattle.aiger.specs.declared.Gate.{Gate}
use Rattle.networks.specs.declared.lent_gates.Circuit.{Circuit}
use Rattle.networks.specs.Networks.{literal_value, gate_value, values_from, network_allows}
use Rattle.rules.specs.Rules.{as_rule}
use Rattle.rules.proofs.Sums.{all_met_rules, all_met_bars}
use Rattle.lanes.specs.Words.{all_lanes, literal_word, gate_word, words_from, output_word, literals_word, met_word, all_met_word, circuit_good, good_word}

xor_true : (b : Bool) → xor b true ≡ not b
xor_true true = refl
xor_true false = refl

module _ (j : ℕ) (lt : j < 64) where
  lane : ℕ → Bool
  lane w = bit w j

  pub every_lane : bit all_lanes j ≡ true
  every_lane = bit_ones 64 j lt

  flipped : (w : ℕ) → bit (bit_xor w all_lanes) j ≡ not (bit w j)
  flipped w = bit_of_xor w all_lanes j ∙ ap (xor (bit w j)) every_lane ∙ xor_true (bit w j)

  -- ---- the network

  at_lane : (ws : List ℕ) (k : ℕ) → get_or (map (λ w. bit w j) ws) k false ≡ bit (get_or ws k 0) j
  at_lane [] k = sym (bit_zero j)
  at_lane (w ∷ ws) zero = refl
  at_lane (w ∷ ws) (suc k) = at_lane ws k

  literal_lane : (ws : List ℕ) (l : ℕ) → bit (literal_word ws l) j ≡ literal_value (map (λ w. bit w j) ws) l
  literal_lane ws l = go (eqb (l % 2) 1) where
    go : (e : Bool) → bit (cond e (bit_xor (get_or ws (l / 2) 0) all_lanes) (get_or ws (l / 2) 0)) j ≡ cond e (not (get_or (map (λ w. bit w j) ws) (l / 2) false)) (get_or (map (λ w. bit w j) ws) (l / 2) false)
    go true = flipped (get_or ws (l / 2) 0) ∙ ap not (sym (at_lane ws (l / 2)))
    go false = sym (at_lane ws (l / 2))

  gate_lane : (ws : List ℕ) (g : Gate) → bit (gate_word ws g) j ≡ gate_value (map (λ w. bit w j) ws) g
  gate_lane ws g = bit_of_and (literal_word ws g.left) (literal_word ws g.right) j ∙ ap₂ (λ p q. p && q) (literal_lane ws g.left) (literal_lane ws g.right)

  words_lane : (gs : List Gate) (ws : List ℕ) → map (λ w. bit w j) (words_from ws gs) ≡ values_from (map (λ w. bit w j) ws) gs
  words_lane [] ws = refl
  words_lane (g ∷ gs) ws =
      words_lane gs (ws ++ gate_word ws g ∷ [])
      ∙ ap (λ vs. values_from vs gs) (map-append (λ w. bit w j) ws (gate_word ws g ∷ []) ∙ ap (λ b. map (λ w. bit w j) ws ++ b ∷ []) (gate_lane ws g))

  output_lane : (gs : List Gate) (output : ℕ) (ws : List ℕ) → bit (output_word gs output ws) j ≡ network_allows gs output (map (λ w. bit w j) ws)
  output_lane gs output ws =
      literal_lane (words_from (0 ∷ ws) gs) output
      ∙ ap (λ vs. literal_value vs output) (words_lane gs (0 ∷ ws) ∙ ap (λ b. values_from (b ∷ map (λ w. bit w j) ws) gs) (bit_zero j))

  -- ---- rules and bars

  chosen : (p : Bool) (w : ℕ) → bit (cond p w 0) j ≡ (p && bit w j)
  chosen true w = refl
  chosen false w = bit_zero j

  table : (p q b : Bool) → ((p && b) || (q && not b)) ≡ cond b p q
  table true true true = refl
  table true true false = refl
  table true false true = refl
  table true false false = refl
  table false true true = refl
  table false true false = refl
  table false false true = refl
  table false false false = refl

  own : (s : LiteralSet) (k : ℕ) (b : Bool) → cond b (has s k true) (has s k false) ≡ has s k b
  own s k true = refl
  own s k false = refl

  literals_lane : (s : LiteralSet) (k w : ℕ) → bit (literals_word s k w) j ≡ has s k (bit w j)
  literals_lane s k w =
      bit_of_or (cond (has s k true) w 0) (cond (has s k false) (bit_xor w all_lanes) 0) j
      ∙ ap₂ (λ p q. p || q) (chosen (has s k true) w) (chosen (has s k false) (bit_xor w all_lanes) ∙ ap (λ b. has s k false && b) (flipped w))
      ∙ table (has s k true) (has s k false) (bit w j) ∙ own s k (bit w j)

  met_lane : (ws : List ℕ) (lanes k : ℕ) (s : LiteralSet) → bit (met_word lanes k s ws) j ≡ (bit lanes j || meets_from k s (map (λ w. bit w j) ws))
  met_lane [] lanes k s = sym (or_false (bit lanes j))
  met_lane (w ∷ ws) lanes k s =
      met_lane ws (bit_or lanes (literals_word s k w)) (suc k) s
      ∙ ap (λ b. b || meets_from (suc k) s (map (λ w. bit w j) ws)) (bit_of_or lanes (literals_word s k w) j ∙ ap (λ b. bit lanes j || b) (literals_lane s k w))
      ∙ or_assoc (bit lanes j) (has s k (bit w j)) (meets_from (suc k) s (map (λ w. bit w j) ws))

  rule_lane : (ws : List ℕ) (s : LiteralSet) → bit (met_word 0 0 s ws) j ≡ meets s (map (λ w. bit w j) ws)
  rule_lane ws s = met_lane ws 0 0 s ∙ ap (λ b. b || meets s (map (λ w. bit w j) ws)) (bit_zero j)

  all_lane : (ss : List LiteralSet) (lanes : ℕ) (ws : List ℕ) → bit (all_met_word lanes ss ws) j ≡ (bit lanes j && all_met ss (map (λ w. bit w j) ws))
  all_lane [] lanes ws = sym (and_true (bit lanes j))
  all_lane (s ∷ ss) lanes ws =
      all_lane ss (bit_and lanes (met_word 0 0 s ws)) ws
      ∙ ap (λ b. b && all_met ss (map (λ w. bit w j) ws)) (bit_of_and lanes (met_word 0 0 s ws) j ∙ ap (λ b. bit lanes j && b) (rule_lane ws s))
      ∙ and_assoc (bit lanes j) (meets s (map (λ w. bit w j) ws)) (all_met ss (map (λ w. bit w j) ws))

  rules_lane : (ss : List LiteralSet) (ws : List ℕ) → bit (all_met_word all_lanes ss ws) j ≡ all_met ss (map (λ w. bit w j) ws)
  rules_lane ss ws = all_lane ss all_lanes ws ∙ ap (λ b. b && all_met ss (map (λ w. bit w j) ws)) every_lane

  -- ---- what is searched for

  pub good_lane : (c : Circuit) (rules bars : List LiteralSet) (ws : List ℕ) → bit (good_word c rules bars ws) j ≡ circuit_good c rules bars (map (λ w. bit w j) ws)
  good_lane c rules bars ws =
      let x = map (λ w. bit w j) ws in
      bit_of_and (output_word c.gates.now c.output ws) (bit_and (all_met_word all_lanes (map (as_rule false) rules) ws) (all_met_word all_lanes (map (as_rule true) bars) ws)) j
      ∙ ap₂ (λ p q. p && q) (output_lane c.gates.now c.output ws)
      (bit_of_and (all_met_word all_lanes (map (as_rule false) rules) ws) (all_met_word all_lanes (map (as_rule true) bars) ws) j
      ∙ ap₂ (λ p q. p && q) (rules_lane (map (as_rule false) rules) ws ∙ all_met_rules rules x) (rules_lane (map (as_rule true) bars) ws ∙ all_met_bars bars x))
