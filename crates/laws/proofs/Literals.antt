-- The literals of a setting: it alone agrees with all of them.
use Rattle.std.proofs.Common.{◌≡◌, ℕ, suc, ◌+◌, ◌≤◌, Bool, true, false, not, ◌&&◌, List, [], ◌∷◌, ◌++◌, length, get_or, ℤ, sym, refl, ap, ◌∙◌, subst, ap₂, arith}
use Rattle.std.proofs.lemmas.List.{append_assoc, append-nil, length-append, nil_from_length, get_or_at}
use Rattle.std.proofs.lemmas.Bool.{and_parts, and_from, not-true}
use Rattle.settings.specs.Settings.{agrees, fits, literal, literals}
use Rattle.laws.specs.Choices.{chosen}
use Rattle.literals.proofs.Booleans.{and_assoc}

pub at_length : (front x : List Bool) (d : Bool) → get_or (front ++ d ∷ x) (length front) false ≡ d
at_length front x d = get_or_at front d x false (length front) refl

length_more : (front : List Bool) (b : Bool) → length (front ++ b ∷ []) ≡ suc (length front)
length_more front b = omega (arith, length-append front (b ∷ []))

agrees_own : (front x : List Bool) (b : Bool) → agrees (front ++ b ∷ x) (literal (length front) b) ≡ true
agrees_own front x true = at_length front x true
agrees_own front x false = ap not (at_length front x false)

agrees_only : (front x : List Bool) (b d : Bool) → agrees (front ++ d ∷ x) (literal (length front) b) ≡ true → d ≡ b
agrees_only front x true d h = sym (at_length front x d) ∙ h
agrees_only front x false d h = sym (at_length front x d) ∙ not-true (get_or (front ++ d ∷ x) (length front) false) h

-- one step on: a contact moves from the rest to the front
pub chosen_on : (front c s x : List Bool) (b : Bool) → fits (chosen c (literals (length (front ++ b ∷ [])) s)) ((front ++ b ∷ []) ++ x) ≡ fits (chosen c (literals (suc (length front)) s)) (front ++ b ∷ x)
chosen_on front c s x b = ap₂ (λ k y. fits (chosen c (literals k s)) y) (length_more front b) (append_assoc front (b ∷ []) x)

literals_on : (front s x : List Bool) (b : Bool) → fits (literals (length (front ++ b ∷ [])) s) ((front ++ b ∷ []) ++ x) ≡ fits (literals (suc (length front)) s) (front ++ b ∷ x)
literals_on front s x b = ap₂ (λ k y. fits (literals k s) y) (length_more front b) (append_assoc front (b ∷ []) x)

own_fits : (front s rest : List Bool) → fits (literals (length front) s) (front ++ (s ++ rest)) ≡ true
own_fits front [] rest = refl
own_fits front (b ∷ s) rest =
    and_from (agrees (front ++ b ∷ (s ++ rest)) (literal (length front) b)) (fits (literals (suc (length front)) s) (front ++ b ∷ (s ++ rest)))
    (agrees_own front (s ++ rest) b)
    (sym (literals_on front s (s ++ rest) b) ∙ own_fits (front ++ b ∷ []) s rest)

only_fits : (front s x : List Bool) → length s ≤ length x → fits (literals (length front) s) (front ++ x) ≡ true → (rest : List Bool) × (x ≡ s ++ rest)
only_fits front [] x l h = (x, refl)
only_fits front (b ∷ s) [] l h = absurd (omega arith)
only_fits front (b ∷ s) (d ∷ x) l h =
    let k = and_parts (agrees (front ++ d ∷ x) (literal (length front) b)) (fits (literals (suc (length front)) s) (front ++ d ∷ x)) h in
    let r = only_fits (front ++ d ∷ []) s x (omega arith) (literals_on front s x d ∙ k.1) in
    (r.0, ap₂ (λ c y. c ∷ y) (agrees_only front x b d k.0) r.1)

-- the settings that begin with a front are those that agree with its literals
pub front_fits : (s rest : List Bool) → fits (literals 0 s) (s ++ rest) ≡ true
front_fits s rest = own_fits [] s rest

pub fits_front : (s x : List Bool) → length s ≤ length x → fits (literals 0 s) x ≡ true → (rest : List Bool) × (x ≡ s ++ rest)
fits_front s x = only_fits [] s x

pub literals_own : (s : List Bool) → fits (literals 0 s) s ≡ true
literals_own s = subst (λ x. fits (literals 0 s) x ≡ true) (append-nil s) (front_fits s [])

pub literals_only : (s x : List Bool) → length x ≡ length s → fits (literals 0 s) x ≡ true → x ≡ s
literals_only s x l h =
    let r = fits_front s x (omega arith) h in
    r.1 ∙ ap (λ t. s ++ t) (nil_from_length r.0 (omega (arith, ap length r.1, length-append s r.0))) ∙ append-nil s

pub length_literals : (j : ℕ) (s : List Bool) → length (literals j s) ≡ length s
length_literals j [] = refl
length_literals j (b ∷ s) = ap suc (length_literals (suc j) s)

pub literals_push : (j : ℕ) (s : List Bool) (b : Bool) → literals j (s ++ b ∷ []) ≡ literals j s ++ literal (j + length s) b ∷ []
literals_push j [] b = ap (λ k. literal k b ∷ []) (omega arith)
literals_push j (c ∷ s) b = ap (λ t. literal j c ∷ t) (literals_push (suc j) s b ∙ ap (λ k. literals (suc j) s ++ literal k b ∷ []) (omega arith))

-- to fit two lists of literals, and to fit fewer
pub fits_append : (a b : List ℤ) (x : List Bool) → fits (a ++ b) x ≡ (fits a x && fits b x)
fits_append [] b x = refl
fits_append (l ∷ a) b x = ap (λ v. agrees x l && v) (fits_append a b x) ∙ sym (and_assoc (agrees x l) (fits a x) (fits b x))

-- an allowed setting that fits two lists of literals
pub allowed_fits : (allowed : Bool) (a b : List ℤ) (x : List Bool) → (allowed && fits (a ++ b) x) ≡ ((allowed && fits a x) && fits b x)
allowed_fits allowed a b x = ap (λ v. allowed && v) (fits_append a b x) ∙ sym (and_assoc allowed (fits a x) (fits b x))

pub fits_chosen : (c : List Bool) (ls : List ℤ) (x : List Bool) → fits ls x ≡ true → fits (chosen c ls) x ≡ true
fits_chosen [] ls x h = refl
fits_chosen (b ∷ c) [] x h = refl
fits_chosen (true ∷ c) (l ∷ ls) x h =
    let k = and_parts (agrees x l) (fits ls x) h in and_from (agrees x l) (fits (chosen c ls) x) k.0 (fits_chosen c ls x k.1)
fits_chosen (false ∷ c) (l ∷ ls) x h = fits_chosen c ls x (and_parts (agrees x l) (fits ls x) h).1
