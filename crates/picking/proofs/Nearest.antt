-- Where no standing setting is before a given one, the pick near it is the earliest standing setting.
use Rattle.std.proofs.Common.{◌≡◌, ℕ, zero, suc, ◌+◌, ◌^◌, ◌<◌, ◌≤◌, Bool, true, false, cond, not, ◌&&◌, List, [], ◌∷◌, ◌++◌, length, get_or, take, ℤ, is_some, Some, None, Option, sym, refl, ap, ◌∙◌, subst, ap₂, arith}
use Rattle.std.specs.Option.{option_map, option_or}
use Rattle.std.proofs.lemmas.List.{append_assoc, length-append, take_at}
use Rattle.std.proofs.lemmas.Bool.{false≢true}
use Rattle.literals.proofs.Booleans.{and_true}
use Rattle.settings.specs.Settings.{fits, number, literal, literals}
use Rattle.settings.specs.Least.{least, some}
use Rattle.laws.proofs.Least.{number_below, least_is, least_alike, none_when, none_from, some_false}
use Rattle.laws.proofs.Literals.{at_length, front_fits, literals_push}
use Rattle.laws.proofs.Named.{Named, named_literals}
use Rattle.laws.proofs.Prefix.{next_open}
use Rattle.solver.specs.Meaning.{Meaning, stands, stands_with, literal_fault}
use Rattle.queries.specs.Queries.{possible_with, answered, least_literals}
use Rattle.queries.proofs.Answers.{fault_none, possible_named}
use Rattle.picking.specs.Picking.{shared_front, found_in, picked_under, picked}

-- a setting is not before another: where they first part, the other one is open
abbrev pub not_before : List Bool → List Bool → Bool
not_before [] y = true
not_before (b ∷ x) [] = true
not_before (true ∷ x) (true ∷ y) = not_before x y
not_before (true ∷ x) (false ∷ y) = false
not_before (false ∷ x) (true ∷ y) = true
not_before (false ∷ x) (false ∷ y) = not_before x y

-- y before x has the smaller number
pub before_less : (x y : List Bool) → length x ≡ length y → not_before x y ≡ false → number y < number x
before_less [] y l h = absurd (false≢true (sym h))
before_less (b ∷ x) [] l h = absurd (omega arith)
before_less (true ∷ x) (true ∷ y) l h = let w : 2 ^ length x ≡ 2 ^ length y = ap (λ k. 2 ^ k) (omega arith) in let i = before_less x y (omega arith) h in omega arith
before_less (true ∷ x) (false ∷ y) l h = let w : 2 ^ length x ≡ 2 ^ length y = ap (λ k. 2 ^ k) (omega arith) in let b = number_below y in omega arith
before_less (false ∷ x) (true ∷ y) l h = absurd (false≢true (sym h))
before_less (false ∷ x) (false ∷ y) l h = before_less x y (omega arith) h

-- the earliest of all is the earliest of fewer where it is one of them
pub least_among : (n : ℕ) (p q : List Bool → Bool) (e : List Bool) → least n p ≡ Some e → q e ≡ true → least n (λ x. p x && q x) ≡ Some e
unfolding least
least_among zero p q e h own = go (p []) refl h where
  go : (b : Bool) → p [] ≡ b → cond b (Some []) None ≡ Some e → cond (p [] && q []) (Some []) None ≡ Some e
  go true here is =
      let same : ◌≡◌ {A = List Bool} [] e = cc in
      let both : (p [] && q []) ≡ true = ap₂ (λ a b. a && b) here (ap q same ∙ own) in
      ap (λ b. cond b (Some []) None) both ∙ is
  go false here is = absurd (let z : ◌≡◌ {A = ℕ} 0 1 = cc in omega arith)
least_among (suc n) p q e h own =
    go (least n (λ x. p (false ∷ x))) refl (least n (λ x. p (true ∷ x))) refl h
    (λ x. least_among n (λ x. p (false ∷ x)) (λ x. q (false ∷ x)) x)
    (λ x. least_among n (λ x. p (true ∷ x)) (λ x. q (true ∷ x)) x)
  where
    fewer : (p q : List Bool → Bool) → least n p ≡ None → least n (λ x. p x && q x) ≡ None
    fewer p q none = none_when n (λ x. p x && q x) (λ y l. ap (λ b. b && q y) (some_false n p (ap is_some none) y l))

    go : (a : Option (List Bool)) → least n (λ x. p (false ∷ x)) ≡ a → (b : Option (List Bool)) → least n (λ x. p (true ∷ x)) ≡ b → option_or (option_map (λ x. false ∷ x) (least n (λ x. p (false ∷ x)))) (option_map (λ x. true ∷ x) (least n (λ x. p (true ∷ x)))) ≡ Some e → ((x : List Bool) → least n (λ x. p (false ∷ x)) ≡ Some x → q (false ∷ x) ≡ true → least n (λ x. p (false ∷ x) && q (false ∷ x)) ≡ Some x) → ((x : List Bool) → least n (λ x. p (true ∷ x)) ≡ Some x → q (true ∷ x) ≡ true → least n (λ x. p (true ∷ x) && q (true ∷ x)) ≡ Some x) → option_or (option_map (λ x. false ∷ x) (least n (λ x. p (false ∷ x) && q (false ∷ x)))) (option_map (λ x. true ∷ x) (least n (λ x. p (true ∷ x) && q (true ∷ x)))) ≡ Some e
    go (Some x) ea b eb is opened closed =
        let same : false ∷ x ≡ e = cc in
        let found = opened x ea (ap q same ∙ own) in
        ap (λ o. option_or (option_map (λ x. false ∷ x) o) (option_map (λ x. true ∷ x) (least n (λ x. p (true ∷ x) && q (true ∷ x))))) found ∙ ap Some same
    go None ea (Some x) eb is opened closed =
        let same : true ∷ x ≡ e = cc in
        let none = fewer (λ x. p (false ∷ x)) (λ x. q (false ∷ x)) ea in
        let found = closed x eb (ap q same ∙ own) in
        ap₂ (λ o u. option_or (option_map (λ x. false ∷ x) o) (option_map (λ x. true ∷ x) u)) none found ∙ ap Some same
    go None ea None eb is opened closed = absurd (let z : ◌≡◌ {A = ℕ} 0 1 = cc in omega arith)

module _ (m : Meaning) (e : List Bool) (first : least m.contacts (stands m) ≡ Some e) where
  sized : length e ≡ m.contacts
  sized = (least_is m.contacts (stands m) e first).sized

  -- a front of the earliest setting
  abbrev Fronted : List Bool → List Bool → Type 0
  Fronted s x = (f : List Bool) × ((t : List Bool) × ((shared_front m (literals 0 s) (literals (length s) x) ≡ literals 0 f) × (e ≡ f ++ t)))

  pushed : (s : List Bool) (b : Bool) → literals 0 s ++ literal (length s) b ∷ [] ≡ literals 0 (s ++ b ∷ [])
  pushed s b = ap (λ k. literals 0 s ++ literal k b ∷ []) (omega arith) ∙ sym (literals_push 0 s b)

  extended : (s : List Bool) (b : Bool) (r x : List Bool) → e ≡ s ++ b ∷ r → Fronted (s ++ b ∷ []) x → Fronted s (b ∷ x)
  unfolding shared_front
  extended s b r x whole on = go (possible_with m (literals 0 s ++ literal (length s) b ∷ [])) refl where
    go : (q : Bool) → possible_with m (literals 0 s ++ literal (length s) b ∷ []) ≡ q → Fronted s (b ∷ x)
    go false h = (s, (b ∷ r, (ap (λ c. cond c (shared_front m (literals 0 s ++ literal (length s) b ∷ []) (literals (suc (length s)) x)) (literals 0 s)) h, whole)))
    go true h =
        let long : suc (length s) ≡ length (s ++ b ∷ []) = omega (arith, length-append s (b ∷ [])) in
        (on.0, (on.1.0, (ap (λ c. cond c (shared_front m (literals 0 s ++ literal (length s) b ∷ []) (literals (suc (length s)) x)) (literals 0 s)) h ∙ ap₂ (λ f k. shared_front m f (literals k x)) (pushed s b) long ∙ on.1.1.0, on.1.1.1)))

  -- where the earliest has a contact closed, no standing setting with the same front has it open
  none_open : (s r : List Bool) → e ≡ s ++ true ∷ r → possible_with m (literals 0 s ++ literal (length s) false ∷ []) ≡ false
  none_open s r whole =
      let k : ℕ = length s in
      let long : length s + suc (length r) ≡ m.contacts = sym (length-append s (true ∷ r)) ∙ ap length (sym whole) ∙ sized in
      let before : take k e ≡ s = ap (take k) whole ∙ take_at s (true ∷ r) k refl in
      let here : get_or e k false ≡ true = ap (λ y. get_or y k false) whole ∙ at_length s r true in
      let named : Named m.contacts (literals 0 (s ++ false ∷ [])) = named_literals m.contacts 0 (s ++ false ∷ []) (omega (arith, length-append s (false ∷ []))) in
      ap (possible_with m) (pushed s false)
      ∙ possible_named m (literals 0 (s ++ false ∷ [])) named
      ∙ ap (λ f. some m.contacts (stands_with m (literals 0 (f ++ false ∷ [])))) (sym before)
      ∙ next_open m.contacts (stands m) e first k (omega arith)
      ∙ ap not here

  shared_is_front : (s r x : List Bool) → e ≡ s ++ r → length x ≤ length r → not_before x r ≡ true → Fronted s x
  unfolding shared_front
  shared_is_front s r [] whole fit after = (s, (r, (refl, whole)))
  shared_is_front s [] (b ∷ x) whole fit after = absurd (omega arith)
  shared_is_front s (true ∷ r) (true ∷ x) whole fit after = extended s true r x whole (shared_is_front (s ++ true ∷ []) r x (whole ∙ sym (append_assoc s (true ∷ []) r)) (omega arith) after)
  shared_is_front s (false ∷ r) (false ∷ x) whole fit after = extended s false r x whole (shared_is_front (s ++ false ∷ []) r x (whole ∙ sym (append_assoc s (false ∷ []) r)) (omega arith) after)
  shared_is_front s (false ∷ r) (true ∷ x) whole fit after = absurd (false≢true after)
  shared_is_front s (true ∷ r) (false ∷ x) whole fit after =
      (s, (true ∷ r, (ap (λ c. cond c (shared_front m (literals 0 s ++ literal (length s) false ∷ []) (literals (suc (length s)) x)) (literals 0 s)) (none_open s r whole), whole)))

  picked_there : (x : List Bool) → length x ≤ m.contacts → not_before x e ≡ true → picked m (literals 0 x) ≡ Some (literals 0 e)
  picked_there x fit after =
      let at : Fronted [] x = shared_is_front [] e x refl (omega (arith, sized)) after in
      let f : List Bool = at.0 in
      let t : List Bool = at.1.0 in
      let whole : e ≡ f ++ t = at.1.1.1 in
      let own : fits (literals 0 f) e ≡ true = subst (λ y. fits (literals 0 f) y ≡ true) (sym whole) (front_fits f t) in
      let named : literal_fault m (literals 0 f) ≡ None = fault_none m (literals 0 f) (named_literals m.contacts 0 f (omega (arith, sized, ap length whole, length-append f t))) in
      ap (picked_under m) at.1.1.0
      ∙ ap (λ o. found_in (answered o (least_literals m (literals 0 f)))) named
      ∙ ap (option_map (literals 0)) (least_among m.contacts (stands m) (fits (literals 0 f)) e first own)

module _ (m : Meaning) (none : least m.contacts (stands m) ≡ None) where
  impossible : (ls : List ℤ) → possible_with m ls ≡ false
  unfolding possible_with
  impossible ls = go (is_some (literal_fault m ls)) where
    nothing : some m.contacts (stands_with m ls) ≡ false
    nothing = none_from m.contacts (stands_with m ls) (λ y l. ap (λ b. b && fits ls y) (some_false m.contacts (stands m) (ap is_some none) y l))

    go : (b : Bool) → cond b false (some m.contacts (stands_with m ls)) ≡ false
    go true = refl
    go false = nothing

  no_front : (ls : List ℤ) → shared_front m [] ls ≡ []
  unfolding shared_front
  no_front [] = refl
  no_front (l ∷ ls) = ap (λ c. cond c (shared_front m (l ∷ []) ls) []) (impossible (l ∷ []))

-- the earliest standing setting, with nothing asked of it
plain_least : (m : Meaning) → least m.contacts (stands_with m []) ≡ least m.contacts (stands m)
plain_least m = least_alike m.contacts (stands_with m []) (stands m) (λ x l. and_true (stands m x))

pub picked_earliest : (m : Meaning) (near : List ℤ) (x : List Bool) → near ≡ literals 0 x → length x ≤ m.contacts → ((y : List Bool) → length y ≡ m.contacts → stands m y ≡ true → not_before x y ≡ true) → picked m near ≡ least_literals m []
picked_earliest m near x is fit after = go (least m.contacts (stands m)) refl where
  go : (o : Option (List Bool)) → least m.contacts (stands m) ≡ o → picked m near ≡ least_literals m []
  go (Some e) h =
      let first = least_is m.contacts (stands m) e h in
      ap (picked m) is ∙ picked_there m e h x fit (after e first.sized first.passes) ∙ sym (ap (option_map (literals 0)) (plain_least m ∙ h))
  go None h = ap (picked_under m) (no_front m h near)
