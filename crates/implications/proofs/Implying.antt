-- What follows from an assignment is right at each setting that the circuit allows and that agrees with it.
use Rattle.std.proofs.Common.{◌≡◌, ℕ, zero, suc, ◌+◌, ◌/◌, ◌<◌, Bool, true, false, cond, not, List, length, get_or, set, replicate, Some, None, Option, Result, sym, refl, ap, ◌∙◌, subst, arith}
use Rattle.std.proofs.lemmas.Bool.{both_ways}
use Rattle.literals.specs.Bits.{bit}
use Rattle.literals.specs.Literals.{has}
use Rattle.search.specs.declared.Assignment.{Assignment}
use Rattle.search.specs.Assignments.{agreeing, taken}
use Rattle.search.proofs.Pointwise.{covers_out}
use Rattle.networks.specs.declared.lent_gates.Circuit.{Circuit}
use Rattle.networks.specs.Circuits.{circuit_allows, computed, value_in, readable}
use Rattle.networks.proofs.Circuits.{computed_zero, computed_input, computed_output}
use Rattle.implications.specs.declared.Contradiction.{Contradiction}
use Rattle.implications.specs.Ternaries.{assigned, left_by, demanded, narrowed, taken_from, Agree, Sound, Holds}
use Rattle.implications.proofs.Sound.{sound_set, demanded_right, holds_from, readable_below}

pub blank : (m v : ℕ) → ◌≡◌ {A = Option Bool} (get_or {A = Option Bool} (replicate m None) v None) None
blank zero v = refl
blank (suc m) zero = refl
blank (suc m) (suc v) = blank m v

-- nothing is known but that variable 0 is false
pub first_sound : (ts : List (Option Bool)) (V : ℕ → Bool) → 0 < length ts → ((v : ℕ) → get_or ts v None ≡ None) → V 0 ≡ false → Sound (set ts 0 (Some false)) V
first_sound ts V some unknown low = sound_set ts V 0 (Some false) some (λ v. subst (λ t. Agree t (V v)) (sym (unknown v)) tt) low

pub narrowed_more : (k : ℕ) (ts : List (Option Bool)) (a : Assignment) → narrowed (k + 1) ts a ≡ taken_from (narrowed k ts a) k (get_or ts (k + 1) None)
narrowed_more k ts a =
    ap (λ j. narrowed j ts a) {x = k + 1} {y = suc k} (omega arith) ∙ ap (λ j. taken_from (narrowed k ts a) k (get_or ts j None)) {x = suc k} {y = k + 1} (omega arith)

agree_cond : (p q b : Bool) → (b ≡ false → p ≡ false) → (b ≡ true → q ≡ false) → Agree (cond p (Some true) (cond q (Some false) None)) b
agree_cond true q true f g = refl
agree_cond true q false f g = absurd (both_ways _ (f refl) refl)
agree_cond false true true f g = absurd (both_ways _ (g refl) refl)
agree_cond false true false f g = refl
agree_cond false false b f g = tt

module _ (c : Circuit) (a : Assignment) (x : List Bool) (long : length x ≡ c.inputs) (ok : circuit_allows c x ≡ true) (fit : agreeing a x ≡ true) where
  -- what the assignment says of an input is so
  pub assigned_agrees : (k : ℕ) → k < c.inputs → Agree (assigned a k) (computed c.gates.now x (k + 1))
  assigned_agrees k lt =
      let free : has (taken a) k (not (get_or x k false)) ≡ false = covers_out (taken a) x fit k (omega arith) in
      subst (Agree (assigned a k)) (sym (computed_input c.gates.now x c.inputs long k lt))
      (agree_cond (bit a.closed k) (bit a.opened k) (get_or x k false) (λ e. subst (λ b. has (taken a) k (not b) ≡ false) e free) (λ e. subst (λ b. has (taken a) k (not b) ≡ false) e free))

  -- and the output is 1
  output_right : {A : Type 0} (before after : List (Option Bool)) (p : Result A Contradiction) (l : ℕ) → l ≡ readable (c.inputs + 1 + length c.gates.now) c.output → length before ≡ 2081 → left_by p after ≡ demanded before l →
      Sound before (computed c.gates.now x) → Holds (computed c.gates.now x) p after
  output_right before after p l e whole noting s =
      let V = computed c.gates.now x in
      let m : ℕ = c.inputs + 1 + length c.gates.now in
      let below : l / 2 < 2081 = subst (λ l. l / 2 < 2081) (sym e) (readable_below 2081 m c.output (omega (arith, c.few_inputs, c.few_gates)) (omega arith)) in
      holds_from 2081 V p after (demanded before l) noting
      (demanded_right 2081 V before whole s l below (ap (value_in V) e ∙ computed_output c.gates.now x c.inputs long c.output m refl ∙ ok))

  -- what is known at first, and the output is 1
  pub start_right : {A : Type 0} (first after : List (Option Bool)) (p : Result A Contradiction) (l : ℕ) → l ≡ readable (c.inputs + 1 + length c.gates.now) c.output → length first ≡ 2081 → left_by p after ≡ demanded first l →
      ((V : ℕ → Bool) → V 0 ≡ false → ((k : ℕ) → k < c.inputs → Agree (assigned a k) (V (k + 1))) → Sound first V) → Holds (computed c.gates.now x) p after
  start_right first after p l e whole noting sound =
      output_right first after p l e whole noting (sound (computed c.gates.now x) (computed_zero c.gates.now x c.inputs long) assigned_agrees)
