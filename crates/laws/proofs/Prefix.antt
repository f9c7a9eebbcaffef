-- The earliest setting, found by deciding one contact after another.
use Rattle.std.proofs.Common.{◌≡◌, ℕ, ◌+◌, ◌<◌, Bool, true, false, not, ◌&&◌, List, [], ◌∷◌, ◌++◌, length, get_or, take, drop, Some, sym, refl, ap, ◌∙◌, subst, arith}
use Rattle.std.proofs.lemmas.List.{append_assoc, length-append, length-take-le, length-drop, take-append-drop, drop_more}
use Rattle.std.proofs.lemmas.Bool.{both_ways, and_parts, and_from}
use Rattle.settings.specs.Settings.{fits, number, literals}
use Rattle.settings.specs.Least.{least, some}
use Rattle.laws.proofs.Least.{number_parts, least_is, less_fails, some_true, some_from, some_same}
use Rattle.laws.proofs.Literals.{front_fits, fits_front}

-- a list of n + m passes where some m follow some n so that they pass
pub some_append : (n m : ℕ) (p : List Bool → Bool) → some (n + m) p ≡ some n (λ x. some m (λ y. p (x ++ y)))
some_append n m p =
    some_same (n + m) n p (λ x. some m (λ y. p (x ++ y)))
    (λ z l h.
    let front : length (take n z) ≡ n = length-take-le n z (omega arith) in
    let whole : take n z ++ drop n z ≡ z = take-append-drop n z in
    some_from n (λ x. some m (λ y. p (x ++ y))) (take n z) front (some_from m (λ y. p (take n z ++ y)) (drop n z) (length-drop n z ∙ omega arith) (ap p whole ∙ h)))
    (λ x l h.
    let w = some_true m (λ y. p (x ++ y)) h in
    some_from (n + m) p (x ++ w.0) (omega (arith, length-append x w.0, w.1)) w.2)

-- a list that passes and begins with a front, by the front's literals
pub some_front : (front : List Bool) (m : ℕ) (p : List Bool → Bool) → some (length front + m) (λ x. p x && fits (literals 0 front) x) ≡ some m (λ y. p (front ++ y))
some_front front m p =
    some_same (length front + m) m (λ x. p x && fits (literals 0 front) x) (λ y. p (front ++ y))
    (λ x l h.
    let k = and_parts (p x) (fits (literals 0 front) x) h in
    let r = fits_front front x (omega arith) k.1 in
    some_from m (λ y. p (front ++ y)) r.0 (omega (arith, ap length r.1, length-append front r.0)) (ap p (sym r.1) ∙ k.0))
    (λ y l h.
    some_from (length front + m) (λ x. p x && fits (literals 0 front) x) (front ++ y) (omega (arith, length-append front y))
    (and_from (p (front ++ y)) (fits (literals 0 front) (front ++ y)) h (front_fits front y)))

-- with the contacts before it as in the earliest setting, a contact can be open exactly where the earliest setting has it open
module _ (n : ℕ) (p : List Bool → Bool) (s : List Bool) (earliest : least n p ≡ Some s) (k : ℕ) (lt : k < n) where
  abbrev opened_front : List Bool
  opened_front = take k s ++ false ∷ []

  long : k < length s
  long = omega (arith, (least_is n p s earliest).sized)

  split : take k s ++ get_or s k false ∷ drop (k + 1) s ≡ s
  split = ap (λ t. take k s ++ t) (sym (drop_more s k false long)) ∙ take-append-drop k s

  pub next_open : some n (λ x. p x && fits (literals 0 (take k s ++ false ∷ [])) x) ≡ not (get_or s k false)
  next_open = go (get_or s k false) refl (some n (λ x. p x && fits (literals 0 opened_front) x)) refl where
    open_found : get_or s k false ≡ false → some n (λ x. p x && fits (literals 0 opened_front) x) ≡ true
    open_found here =
        let whole : s ≡ opened_front ++ drop (k + 1) s = sym split ∙ ap (λ b. take k s ++ b ∷ drop (k + 1) s) here ∙ sym (append_assoc (take k s) (false ∷ []) (drop (k + 1) s)) in
        let fit : fits (literals 0 opened_front) s ≡ true = subst (λ x. fits (literals 0 opened_front) x ≡ true) (sym whole) (front_fits opened_front (drop (k + 1) s)) in
        let told = least_is n p s earliest in
        some_from n (λ x. p x && fits (literals 0 opened_front) x) s told.sized (and_from (p s) (fits (literals 0 opened_front) s) told.passes fit)

    closed_none : get_or s k false ≡ true → some n (λ x. p x && fits (literals 0 opened_front) x) ≡ true → ⊥
    closed_none here h =
        let w = some_true n (λ x. p x && fits (literals 0 opened_front) x) h in
        let parts = and_parts (p w.0) (fits (literals 0 opened_front) w.0) w.2 in
        let front : length opened_front ≡ k + 1 = omega (arith, length-append (take k s) (false ∷ []), length-take-le k s (omega (arith, long))) in
        let r = fits_front opened_front w.0 (omega (arith, w.1, front)) parts.1 in
        let x : w.0 ≡ take k s ++ false ∷ r.0 = r.1 ∙ append_assoc (take k s) (false ∷ []) r.0 in
        let y : s ≡ take k s ++ true ∷ drop (k + 1) s = sym split ∙ ap (λ b. take k s ++ b ∷ drop (k + 1) s) here in
        let sizes : length r.0 ≡ length (drop (k + 1) s) = omega (arith, w.1, ap length r.1, length-append opened_front r.0, front, length-drop (k + 1) s, (least_is n p s earliest).sized) in
        let less = number_parts (take k s) r.0 (drop (k + 1) s) sizes in
        both_ways (p w.0) (less_fails n p s earliest w.0 w.1 (omega (arith, less, ap number x, ap number y))) parts.0

    go : (b : Bool) → get_or s k false ≡ b → (a : Bool) → some n (λ x. p x && fits (literals 0 opened_front) x) ≡ a → some n (λ x. p x && fits (literals 0 opened_front) x) ≡ not (get_or s k false)
    go false here a h = open_found here ∙ ap not (sym here)
    go true here false h = h ∙ ap not (sym here)
    go true here true h = absurd (closed_none here h)
