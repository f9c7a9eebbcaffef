-- Each step keeps what is known right, whatever the values are.
use Rattle.std.proofs.Common.{◌≡◌, ℕ, ◌+◌, ◌*◌, ◌/◌, ◌%◌, ◌<◌, ◌≤◌, Bool, true, false, cond, not, ◌&&◌, eqb, List, length, get_or, set, Some, None, Ok, Err, Option, Result, sym, refl, ap, ◌∙◌, subst, ap₂, ⊎_elim, arith, length-set, get_or-set_other, get_or-set_same}
use Rattle.std.proofs.lemmas.Bool.{both_ways, and_from, and_parts, cases_eq, cases_lt, cond-true, cond-false, lt-ltb, le-ltb}
use Rattle.aiger.specs.declared.Gate.{Gate}
use Rattle.literals.proofs.Booleans.{not_not, and_true}
use Rattle.networks.specs.Networks.{no_gate}
use Rattle.networks.specs.Circuits.{value_in, readable, Ands, Obeys}
use Rattle.implications.specs.declared.Contradiction.{Contradiction}
use Rattle.implications.specs.Ternaries.{opposite, inferred, known, written, left_by, demanded_by, demanded, followed, step_at, Agree, Sound, Holds}

agree_opposite : (t : Option Bool) (b : Bool) → Agree t b → Agree (opposite t) (not b)
agree_opposite None b h = tt
agree_opposite (Some v) b h = ap not h

and_false : (a : Bool) → (a && false) ≡ false
and_false true = refl
and_false false = refl

-- what is known of a literal
pub known_agrees : (ts : List (Option Bool)) (V : ℕ → Bool) (l : ℕ) → Sound ts V → Agree (known ts l) (value_in V l)
known_agrees ts V l s =
    let t = get_or ts (l / 2) None in
    let b = V (l / 2) in
    elim (eqb (l % 2) 1) as (λ e. Agree (cond e (opposite t) t) (cond e (not b) b)) [ true ↦ agree_opposite t b (s (l / 2)) | false ↦ s (l / 2) ]

pub sound_set : (ts : List (Option Bool)) (V : ℕ → Bool) (v : ℕ) (t : Option Bool) → v < length ts → Sound ts V → Agree t (V v) → Sound (set ts v t) V
sound_set ts V v t lt s h w =
    ⊎_elim
    (λ e. subst (λ w. Agree (get_or (set ts v t) w None) (V w)) (sym e) (subst (λ u. Agree u (V v)) (sym (get_or-set_same ts v t None lt)) h))
    (λ ne. subst (λ u. Agree u (V w)) (sym (get_or-set_other ts v w t None ne)) (s w))
    (cases_eq w v)

-- what a step leaves is right, and as long as before; where there is a contradiction, V cannot be
abbrev pub Rightly : ℕ → (ℕ → Bool) → Option (List (Option Bool)) → Type 0
Rightly m V None = ⊥
Rightly m V (Some ts) = (length ts ≡ m) × Sound ts V

pub holds_from : {A : Type 0} (m : ℕ) (V : ℕ → Bool) (p : Result A Contradiction) (ts : List (Option Bool)) (o : Option (List (Option Bool))) → left_by p ts ≡ o → Rightly m V o → Holds V p ts
holds_from m V (Err f) ts o e h = subst (Rightly m V) (sym e) h
holds_from m V (Ok a) ts o e h = (subst (Rightly m V) (sym e) h).1

module _ (m : ℕ) (V : ℕ → Bool) (ts : List (Option Bool)) (long : length ts ≡ m) (s : Sound ts V) (l : ℕ) (lt : l / 2 < m) where
  own_agrees : (v : Bool) → value_in V l ≡ v → V (l / 2) ≡ cond (eqb (l % 2) 1) (not v) v
  own_agrees v h = go (eqb (l % 2) 1) h where
    go : (e : Bool) → cond e (not (V (l / 2))) (V (l / 2)) ≡ v → V (l / 2) ≡ cond e (not v) v
    go true h = sym (not_not (V (l / 2))) ∙ ap not h
    go false h = h

  written_right : (v : Bool) → value_in V l ≡ v → Rightly m V (Some (written ts l v))
  written_right v h = (length-set ts (l / 2) _ ∙ long, sound_set ts V (l / 2) _ (omega arith) s (own_agrees v h))

  pub demanded_right : value_in V l ≡ true → Rightly m V (demanded ts l)
  demanded_right one = go (known ts l) (known_agrees ts V l s) where
    go : (t : Option Bool) → Agree t (value_in V l) → Rightly m V (demanded_by t ts l)
    go (Some false) h = both_ways _ h one
    go (Some true) h = (long, s)
    go None h = written_right true one

-- a literal that can be read is one of the variables below, or of variable 0
pub readable_below : (m v l : ℕ) → v ≤ m → 0 < m → readable v l / 2 < m
readable_below m v l le some =
    ⊎_elim
    (λ low. subst (λ k. k / 2 < m) (sym (cond-true _ l (l % 2) (lt-ltb (l / 2) v low))) (omega arith))
    (λ high. subst (λ k. k / 2 < m) (sym (cond-false _ l (l % 2) (le-ltb (l / 2) v high))) (omega arith))
    (cases_lt (l / 2) v)

module _ (m : ℕ) (V : ℕ → Bool) (v : ℕ) (g : Gate) (lt : v < m) (ands : Ands v g V) where
  left : ℕ
  left = readable v g.left

  right : ℕ
  right = readable v g.right

  out_value : value_in V (2 * v) ≡ (value_in V left && value_in V right)
  unfolding left right
  out_value =
      let even : 2 * v % 2 ≡ 0 = omega arith in
      let half : 2 * v / 2 ≡ v = omega arith in
      ap₂ (λ (p : ℕ) (k : ℕ). cond (eqb p 1) (not (V k)) (V k)) even half ∙ ands

  -- what is known of the gate and its sides has right consequences
  consequence_right : (ts : List (Option Bool)) → length ts ≡ m → Sound ts V → (o p q : Option Bool) → Agree o (value_in V left && value_in V right) → Agree p (value_in V left) → Agree q (value_in V right) →
      Rightly m V (followed (inferred o p q) ts (2 * v) left right)
  unfolding left right
  consequence_right ts long s o p q = go o p q where
    out_below : 2 * v / 2 < m
    out_below = omega arith

    left_below : left / 2 < m
    left_below = readable_below m v g.left (omega arith) (omega arith)

    right_below : right / 2 < m
    right_below = readable_below m v g.right (omega arith) (omega arith)

    same : Rightly m V (Some ts)
    same = (long, s)

    out_is : (t : Bool) → (value_in V left && value_in V right) ≡ t → Rightly m V (Some (written ts (2 * v) t))
    out_is t h = written_right m V ts long s (2 * v) out_below t (out_value ∙ h)

    left_zero : value_in V left ≡ false → Rightly m V (Some (written ts left false))
    left_zero h = written_right m V ts long s left left_below false h

    right_zero : value_in V right ≡ false → Rightly m V (Some (written ts right false))
    right_zero h = written_right m V ts long s right right_below false h

    sides : (value_in V left && value_in V right) ≡ true → Rightly m V (Some (written (written ts left true) right true))
    sides h =
        let e = and_parts (value_in V left) (value_in V right) h in
        let r = written_right m V ts long s left left_below true e.0 in
        written_right m V (written ts left true) r.0 r.1 right right_below true e.1

    go : (o p q : Option Bool) → Agree o (value_in V left && value_in V right) → Agree p (value_in V left) → Agree q (value_in V right) → Rightly m V (followed (inferred o p q) ts (2 * v) left right)
    go (Some true) (Some false) q ho hp hq = both_ways _ hp (and_parts (value_in V left) (value_in V right) ho).0
    go (Some true) (Some true) (Some false) ho hp hq = both_ways _ hq (and_parts (value_in V left) (value_in V right) ho).1
    go (Some true) (Some true) (Some true) ho hp hq = same
    go (Some true) (Some true) None ho hp hq = sides ho
    go (Some true) None (Some false) ho hp hq = both_ways _ hq (and_parts (value_in V left) (value_in V right) ho).1
    go (Some true) None (Some true) ho hp hq = sides ho
    go (Some true) None None ho hp hq = sides ho
    go (Some false) (Some false) q ho hp hq = same
    go (Some false) (Some true) (Some false) ho hp hq = same
    go (Some false) (Some true) (Some true) ho hp hq = both_ways _ ho (and_from (value_in V left) (value_in V right) hp hq)
    go (Some false) (Some true) None ho hp hq = right_zero (sym (ap (λ a. a && value_in V right) hp) ∙ ho)
    go (Some false) None (Some false) ho hp hq = same
    go (Some false) None (Some true) ho hp hq = left_zero (sym (and_true (value_in V left)) ∙ sym (ap (λ b. value_in V left && b) hq) ∙ ho)
    go (Some false) None None ho hp hq = same
    go None (Some false) q ho hp hq = out_is false (ap (λ a. a && value_in V right) hp)
    go None (Some true) (Some false) ho hp hq = out_is false (ap₂ (λ a b. a && b) hp hq)
    go None (Some true) (Some true) ho hp hq = out_is true (and_from (value_in V left) (value_in V right) hp hq)
    go None (Some true) None ho hp hq = same
    go None None (Some false) ho hp hq = out_is false (ap (λ b. value_in V left && b) hq ∙ and_false (value_in V left))
    go None None (Some true) ho hp hq = same
    go None None None ho hp hq = same

  pub step_right : (ts : List (Option Bool)) → length ts ≡ m → Sound ts V → Rightly m V (step_at ts v g)
  unfolding left right
  step_right ts long s =
      consequence_right ts long s (known ts (2 * v)) (known ts (readable v g.left)) (known ts (readable v g.right))
      (subst (Agree (known ts (2 * v))) out_value (known_agrees ts V (2 * v) s)) (known_agrees ts V (readable v g.left) s) (known_agrees ts V (readable v g.right) s)

-- one gate of a pass
pub gate_right : {A : Type 0} (V : ℕ → Bool) (n : ℕ) (gates : List Gate) (i : ℕ) (before after : List (Option Bool)) (q : Result A Contradiction) → length before ≡ 2081 → n ≤ 32 → length gates ≤ 2048 → i < length gates →
    left_by q after ≡ step_at before (n + 1 + i) (get_or gates i no_gate) → Obeys (n + 1) gates V → Sound before V → Holds V q after
gate_right V n gates i before after q long few room lt e obeys s =
    holds_from 2081 V q after (step_at before (n + 1 + i) (get_or gates i no_gate)) e (step_right 2081 V (n + 1 + i) (get_or gates i no_gate) (omega arith) (obeys i lt) before long s)
