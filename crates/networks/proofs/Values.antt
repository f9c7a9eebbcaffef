-- The values that a network computes, one gate more at a time, and that there are no others.
use Rattle.std.proofs.Common.{◌≡◌, ℕ, suc, ◌+◌, ◌*◌, ◌/◌, ◌%◌, ◌<◌, Bool, false, cond, not, ◌&&◌, eqb, List, [], ◌∷◌, ◌++◌, length, get_or, sym, refl, ap, ◌∙◌, ap₂, ⊎_elim, arith, length-append}
use Rattle.std.proofs.lemmas.List.{get_or_append_left, get_or_push}
use Rattle.std.proofs.lemmas.Bool.{cases_lt}
use Rattle.aiger.specs.declared.Gate.{Gate}
use Rattle.aiger.specs.Grammar.{Below}
use Rattle.networks.specs.Evaluation.{gate_from, extended}
use Rattle.networks.specs.Networks.{literal_value, gate_value, values_from, no_gate, NetworkLaw}

-- ---- with any values

module _ {T : Type 0} (zero : T) (opposite : T → T) (both : T → T → T) where
  pub extended_push : (vs : List T) (gs : List Gate) (g : Gate) → extended zero opposite both vs (gs ++ g ∷ []) ≡ extended zero opposite both vs gs ++ gate_from zero opposite both (extended zero opposite both vs gs) g ∷ []
  extended_push vs [] g = refl
  extended_push vs (h ∷ gs) g = extended_push (vs ++ gate_from zero opposite both vs h ∷ []) gs g

  pub length_extended : (vs : List T) (gs : List Gate) → length (extended zero opposite both vs gs) ≡ length vs + length gs
  length_extended vs [] = omega arith
  length_extended vs (g ∷ gs) = length_extended (vs ++ gate_from zero opposite both vs g ∷ []) gs ∙ omega (arith, length-append vs (gate_from zero opposite both vs g ∷ []))

-- ---- at one setting

pub length_values : (vs : List Bool) (gs : List Gate) → length (values_from vs gs) ≡ length vs + length gs
length_values vs gs = length_extended false not (λ p q. p && q) vs gs

-- two lists of values agree below m
SameBelow : ℕ → List Bool → List Bool → Type 0
SameBelow m vs ws = (k : ℕ) → k < m → get_or vs k false ≡ get_or ws k false

literal_same : (m l : ℕ) (vs ws : List Bool) → SameBelow m vs ws → l < 2 * m → literal_value vs l ≡ literal_value ws l
unfolding SameBelow
literal_same m l vs ws same lt = ap (λ b. cond (eqb (l % 2) 1) (not b) b) (same (l / 2) (omega arith))

-- each further gate's sides are below it, so values that are right below it give its value
unique : (gs : List Gate) (vs ws : List Bool) (m due : ℕ) → length vs ≡ m → due ≡ 2 * m → Below due gs → SameBelow m ws vs →
    ((i : ℕ) → i < length gs → get_or ws (m + i) false ≡ gate_value ws (get_or gs i no_gate)) → SameBelow (m + length gs) ws (values_from vs gs)
unfolding SameBelow
unique [] vs ws m due long at below same gates k lt = same k (omega arith)
unique (g ∷ gs) vs ws m due long at below same gates k lt =
    unique gs (vs ++ gate_value vs g ∷ []) ws (m + 1) (due + 2) (length-append vs (gate_value vs g ∷ []) ∙ omega arith) (omega arith) below.2 more
    (λ i l. ap (λ j. get_or ws j false) {x = m + 1 + i} {y = m + suc i} (omega arith) ∙ gates (suc i) (omega arith)) k (omega arith)
  where
    here : get_or ws m false ≡ gate_value vs g
    here =
        ap (λ j. get_or ws j false) {x = m} {y = m + 0} (omega arith) ∙ gates 0 (omega arith)
        ∙ ap₂ (λ a b. a && b) (literal_same m g.left ws vs same (omega (arith, below.0))) (literal_same m g.right ws vs same (omega (arith, below.1)))

    more : (j : ℕ) → j < m + 1 → get_or ws j false ≡ get_or (vs ++ gate_value vs g ∷ []) j false
    more j l =
        ⊎_elim
        (λ low. same j low ∙ sym (get_or_append_left vs (gate_value vs g ∷ []) false j (omega arith)))
        (λ high. ap (λ i. get_or ws i false) {x = j} {y = m} (omega arith) ∙ here ∙ sym (get_or_push vs (gate_value vs g) false j (omega arith)))
        (cases_lt j m)

pub network_law : NetworkLaw
unfolding SameBelow
network_law c w x values sized consistent =
    let n : suc (length x) ≡ c.inputs + 1 = omega arith in
    literal_same (suc (length x) + length c.gates) c.output values (values_from (false ∷ x) c.gates)
    (unique c.gates (false ∷ x) values (suc (length x)) (2 * c.inputs + 2) refl (omega arith) w.sides_below consistent.inputs consistent.all_gates)
    (omega (arith, w.output_known))
