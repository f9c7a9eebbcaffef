-- The computed values are those in which each gate is the AND of what it reads.
use Rattle.std.proofs.Common.{◌≡◌, ℕ, zero, suc, ◌+◌, ◌/◌, ◌%◌, ◌<◌, Bool, false, cond, not, ◌&&◌, eqb, List, [], ◌∷◌, ◌++◌, length, get_or, sym, refl, ap, ◌∙◌, subst, ap₂, ⊎_elim, arith, length-append}
use Rattle.std.proofs.lemmas.List.{get_or_append_left, get_or_push, get_or_past}
use Rattle.std.proofs.lemmas.Bool.{cond-true, cond-false, lt-ltb, le-ltb, cases_lt}
use Rattle.aiger.specs.declared.Gate.{Gate}
use Rattle.networks.specs.Networks.{literal_value, gate_value, values_from, network_allows, no_gate}
use Rattle.networks.specs.Circuits.{computed, value_in, readable, Ands, Obeys}
use Rattle.networks.proofs.Values.{length_values}

-- values that are there stay
pub values_keep : (gs : List Gate) (vs : List Bool) (k : ℕ) → k < length vs → get_or (values_from vs gs) k false ≡ get_or vs k false
values_keep [] vs k lt = refl
values_keep (g ∷ gs) vs k lt =
    values_keep gs (vs ++ gate_value vs g ∷ []) k (omega (arith, length-append vs (gate_value vs g ∷ []))) ∙ get_or_append_left vs (gate_value vs g ∷ []) false k lt

-- a literal read from a list of values, where V has the same
pub reads : (V : ℕ → Bool) (vs : List Bool) (m l : ℕ) → length vs ≡ m → V 0 ≡ false → ((k : ℕ) → k < m → V k ≡ get_or vs k false) → value_in V (readable m l) ≡ literal_value vs l
reads V vs m l long low same =
    ⊎_elim
    (λ lt. ap (value_in V) (cond-true _ l (l % 2) (lt-ltb (l / 2) m lt)) ∙ ap (λ b. cond (eqb (l % 2) 1) (not b) b) (same (l / 2) lt))
    (λ ge.
    let parity : l % 2 % 2 ≡ l % 2 = omega arith in
    let none : l % 2 / 2 ≡ 0 = omega arith in
    ap (value_in V) (cond-false _ l (l % 2) (le-ltb (l / 2) m ge))
    ∙ ap₂ (λ (p : ℕ) (b : Bool). cond (eqb p 1) (not b) b) parity (ap V none ∙ low ∙ sym (get_or_past vs (l / 2) false (omega arith))))
    (cases_lt (l / 2) m)

-- each gate from variable m on
obeys_from : (gs : List Gate) (vs : List Bool) (m : ℕ) → length vs ≡ m → 0 < m → get_or vs 0 false ≡ false → Obeys m gs (λ k. get_or (values_from vs gs) k false)
obeys_from [] vs m long some low i lt = absurd (omega arith)
obeys_from (g ∷ gs) vs m long some low zero lt =
    let V : ℕ → Bool = λ k. get_or (values_from (vs ++ gate_value vs g ∷ []) gs) k false in
    let same : (k : ℕ) → k < m → V k ≡ get_or vs k false = λ k l. values_keep (g ∷ gs) vs k (omega arith) in
    let zeroth : V 0 ≡ false = same 0 some ∙ low in
    let here : m + 0 ≡ length vs = omega arith in
    let at : m ≡ m + 0 = omega arith in
    let own : V (m + 0) ≡ gate_value vs g =
    ap V here ∙ values_keep gs (vs ++ gate_value vs g ∷ []) (length vs) (omega (arith, length-append vs (gate_value vs g ∷ [])))
    ∙ get_or_push vs (gate_value vs g) false (length vs) refl in
    own
    ∙ sym (ap (λ v. value_in V (readable v g.left) && value_in V (readable v g.right)) (sym at)
    ∙ ap₂ (λ p q. p && q) (reads V vs m g.left long zeroth same) (reads V vs m g.right long zeroth same))
obeys_from (g ∷ gs) vs m long some low (suc i) lt =
    let V : ℕ → Bool = λ k. get_or (values_from (vs ++ gate_value vs g ∷ []) gs) k false in
    let e : m + 1 + i ≡ m + suc i = omega arith in
    let first : get_or (vs ++ gate_value vs g ∷ []) 0 false ≡ false = get_or_append_left vs (gate_value vs g ∷ []) false 0 (omega arith) ∙ low in
    subst (λ v. Ands v (get_or gs i no_gate) V) e
    (obeys_from gs (vs ++ gate_value vs g ∷ []) (m + 1) (length-append vs (gate_value vs g ∷ []) ∙ omega arith) (omega arith) first i (omega arith))

-- the values at a setting of n inputs: variable 0, the inputs, the gates, and the output
module _ (gates : List Gate) (x : List Bool) (n : ℕ) (long : length x ≡ n) where
  pub computed_obeys : Obeys (n + 1) gates (computed gates x)
  computed_obeys = obeys_from gates (false ∷ x) (n + 1) (omega arith) (omega arith) refl

  pub computed_zero : computed gates x 0 ≡ false
  computed_zero = values_keep gates (false ∷ x) 0 (omega arith)

  pub computed_input : (k : ℕ) → k < n → computed gates x (k + 1) ≡ get_or x k false
  computed_input k lt = ap (computed gates x) {x = k + 1} {y = suc k} (omega arith) ∙ values_keep gates (false ∷ x) (suc k) (omega arith)

  pub computed_output : (output m : ℕ) → n + 1 + length gates ≡ m → value_in (computed gates x) (readable m output) ≡ network_allows gates output x
  computed_output output m e =
      reads (computed gates x) (values_from (false ∷ x) gates) m output (length_values (false ∷ x) gates ∙ omega arith) computed_zero (λ k lt. refl)
