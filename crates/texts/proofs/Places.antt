-- A reading that fails does so at one of the lexemes that it was given.
use Rattle.std.proofs.Common.{◌≡◌, ℕ, ◌+◌, Bool, true, false, cond, ◌&&◌, eqb, leb, List, [], ◌∷◌, Ok, Err, Result, sym, refl, ap, ◌∙◌, inl, inr}
use Rattle.std.specs.Str.Parse.{digits_value}
use Rattle.std.specs.Str.{bytes_eq}
use Rattle.faults.specs.declared.TextFault.{TextFault}
use Rattle.faults.specs.declared.TextFault.TheVariants.{Shape, Limit}
use Rattle.texts.specs.Lexemes.{Lexeme, word, line_end, end, goes_on, longer, lexemes, lexemes_from}
use Rattle.texts.specs.Numerals.{numeral}
use Rattle.texts.specs.Due.{leaving, and_then, one, limited, number, line_end_due, exactly, ended}
use Rattle.texts.specs.Places.{fault_place, place, Stands}

-- the end comes last, and comes
abbrev pub Closed : List Lexeme → Type 0
Closed [] = ⊥
Closed (word w p ∷ ts) = Closed ts
Closed (line_end p ∷ ts) = Closed ts
Closed (end p ∷ ts) = Unit {0}

closed_longer : (b p : ℕ) (ts : List Lexeme) → Closed ts → Closed (longer b p ts)
closed_longer b p [] h = h
closed_longer b p (word w q ∷ ts) h = h
closed_longer b p (line_end q ∷ ts) h = h
closed_longer b p (end q ∷ ts) h = h

closed_cond : (t : Bool) (xs ys : List Lexeme) → Closed xs → Closed ys → Closed (cond t xs ys)
closed_cond true xs ys h k = h
closed_cond false xs ys h k = k

closed_lexemes : (p : ℕ) (bs : List ℕ) → Closed (lexemes p bs)
unfolding lexemes
closed_lexemes p [] = tt
closed_lexemes p (b ∷ bs) =
    let more = closed_lexemes (p + 1) bs in
    let ts = lexemes (p + 1) bs in
    closed_cond (eqb b 10) (line_end p ∷ ts) _ more (closed_cond (eqb b 32) ts _ more (closed_cond (goes_on bs) (longer b p ts) (word (b ∷ []) p ∷ ts) (closed_longer b p ts more) more))

pub closed_text : (text : List ℕ) → Closed (lexemes_from 0 text)
unfolding lexemes_from
closed_text text = closed_lexemes 0 text

-- what is left of ts
abbrev pub Left : List Lexeme → List Lexeme → Type 0
Left us ts = ((p : ℕ) → Stands p us → Stands p ts) × Closed us

-- a reading of ts leaves a part of it, or fails at one of its lexemes
abbrev pub Placed : {A : Type 0} → List Lexeme → Result (A × List Lexeme) TextFault → Type 0
Placed ts (Ok a) = Left a.1 ts
Placed ts (Err f) = Stands (fault_place f) ts

abbrev pub FailsAt : {A : Type 0} → List Lexeme → Result A TextFault → Type 0
FailsAt ts (Ok a) = Unit {0}
FailsAt ts (Err f) = Stands (fault_place f) ts

pub placed_then : {A B : Type 0} (ts : List Lexeme) (r : Result (A × List Lexeme) TextFault) (k : A × List Lexeme → Result (B × List Lexeme) TextFault) → Placed ts r → ((a : A × List Lexeme) → Closed a.1 → Placed a.1 (k a)) → Placed ts (and_then r k)
placed_then ts (Err f) k h g = h
placed_then {B = B} ts (Ok a) k h g = go (k a) (g a h.1)
  where
    go : (r : Result (B × List Lexeme) TextFault) → Placed a.1 r → Placed ts r
    go (Ok b) l = ((λ p s. h.0 p (l.0 p s)), l.1)
    go (Err f) l = h.0 (fault_place f) l

pub fails_then : {A B : Type 0} (ts : List Lexeme) (r : Result (A × List Lexeme) TextFault) (k : A × List Lexeme → Result B TextFault) → Placed ts r → ((a : A × List Lexeme) → Closed a.1 → FailsAt a.1 (k a)) → FailsAt ts (and_then r k)
fails_then ts (Err f) k h g = h
fails_then {B = B} ts (Ok a) k h g = go (k a) (g a h.1)
  where
    go : (r : Result B TextFault) → FailsAt a.1 r → FailsAt ts r
    go (Ok b) l = tt
    go (Err f) l = h.0 (fault_place f) l

-- a value that is only changed
pub fails_kept : {A B : Type 0} (ts : List Lexeme) (r : Result A TextFault) (k : A → B) → FailsAt ts r → FailsAt ts (and_then r (λ a. Ok (k a)))
fails_kept ts (Ok a) k h = tt
fails_kept ts (Err f) k h = h

pub all_left : (ts : List Lexeme) → Closed ts → Left ts ts
all_left ts h = ((λ p s. s), h)

-- the same reading with one lexeme before it
pub placed_behind : {A : Type 0} (t : Lexeme) (ts : List Lexeme) (r : Result (A × List Lexeme) TextFault) → Placed ts r → Placed (t ∷ ts) r
placed_behind t ts (Ok a) h = ((λ p s. inr (h.0 p s)), h.1)
placed_behind t ts (Err f) h = inr h

pub placed_kept : {A B : Type 0} (ts : List Lexeme) (r : Result (A × List Lexeme) TextFault) (k : A → B) → Placed ts r → Placed ts (and_then r (λ a. Ok (k a.0, a.1)))
placed_kept ts (Ok a) k h = h
placed_kept ts (Err f) k h = h

-- how a lexeme is judged: a fault stands at it, and the end is never what is due
pub record Judge {A : Type 0} (f : Lexeme → Result A TextFault) : Type 0 where
  pub at : (t : Lexeme) (e : TextFault) → f t ≡ Err e → place t ≡ fault_place e
  pub no_end : (p : ℕ) (a : A) → f (end p) ≡ Ok a → ⊥

pub placed_one : {A : Type 0} (f : Lexeme → Result A TextFault) → Judge f → (ts : List Lexeme) → Closed ts → Placed ts (one f ts)
placed_one f j [] h = absurd h
placed_one {A} f j (t ∷ ts) h = go t (f t) refl h
  where
    go : (t : Lexeme) (r : Result A TextFault) → f t ≡ r → Closed (t ∷ ts) → Placed (t ∷ ts) (leaving r ts)
    go (word w p) (Ok a) e h = ((λ q s. inr s), h)
    go (line_end p) (Ok a) e h = ((λ q s. inr s), h)
    go (end p) (Ok a) e h = absurd (j.no_end p a e)
    go t (Err x) e h = inl (j.at t x e)

-- a test that lets nothing else pass
pub at_cond : {A : Type 0} (p : ℕ) (b : Bool) (r : Result A TextFault) (f e : TextFault) → fault_place f ≡ p → (r ≡ Err e → p ≡ fault_place e) → cond b r (Err f) ≡ Err e → p ≡ fault_place e
at_cond p true r f e h g q = g q
at_cond {A} p false r f e h g q = sym h ∙ ap fault_place same
  where
    same : f ≡ e
    same = cc

pub limited_at : (low high : ℕ) (w : List ℕ) (p : ℕ) (e : TextFault) → limited low high w p ≡ Err e → p ≡ fault_place e
limited_at low high w p e =
    at_cond p (numeral w) _ (Shape p) e refl (at_cond p (leb low (digits_value 10 w) && leb (digits_value 10 w) high) (Ok (digits_value 10 w)) (Limit p) e refl (λ q. cc))

pub shape_at : {A : Type 0} (p : ℕ) (e : TextFault) → ◌≡◌ {A = Result A TextFault} (Err (Shape p)) (Err e) → p ≡ fault_place e
shape_at {A} p e q = ap fault_place same
  where
    same : Shape p ≡ e
    same = cc

pub never : {A : Type 0} (f : TextFault) (a : A) → ◌≡◌ {A = Result A TextFault} (Err f) (Ok a) → ⊥
never f a q = cc

-- one reading of a word after another
pub at_then : {A B : Type 0} (p : ℕ) (r : Result A TextFault) (k : A → Result B TextFault) (e : TextFault) → ((x : TextFault) → r ≡ Err x → p ≡ fault_place x) → ((a : A) → k a ≡ Err e → p ≡ fault_place e) → and_then r k ≡ Err e → p ≡ fault_place e
at_then p (Ok a) k e h g q = g a q
at_then p (Err x) k e h g q = h x refl ∙ ap fault_place same
  where
    same : x ≡ e
    same = cc

pub number_judge : (low high : ℕ) → Judge (number low high)
number_judge low high = record { at = at; no_end = λ p a e. never (Shape p) a e }
  where
    at : (t : Lexeme) (e : TextFault) → number low high t ≡ Err e → place t ≡ fault_place e
    at (word w p) e q = limited_at low high w p e q
    at (line_end p) e q = shape_at p e q
    at (end p) e q = shape_at p e q

pub exactly_judge : (due : List ℕ) → Judge (exactly due)
exactly_judge due = record { at = at; no_end = λ p a e. never (Shape p) a e }
  where
    at : (t : Lexeme) (e : TextFault) → exactly due t ≡ Err e → place t ≡ fault_place e
    at (word w p) e q = at_cond p (bytes_eq w due) (Ok tt) (Shape p) e refl (λ x. absurd (never e tt (sym x))) q
    at (line_end p) e q = shape_at p e q
    at (end p) e q = shape_at p e q

pub line_end_judge : Judge line_end_due
line_end_judge = record { at = at; no_end = λ p a e. never (Shape p) a e }
  where
    at : (t : Lexeme) (e : TextFault) → line_end_due t ≡ Err e → place t ≡ fault_place e
    at (word w p) e q = shape_at p e q
    at (line_end p) e q = cc
    at (end p) e q = shape_at p e q

-- any judge whose faults stand at the words, and that takes nothing but words
pub word_judge : {A : Type 0} (f : Lexeme → Result A TextFault) → ((w : List ℕ) (p : ℕ) (e : TextFault) → f (word w p) ≡ Err e → p ≡ fault_place e) → ((p : ℕ) → f (line_end p) ≡ Err (Shape p)) → ((p : ℕ) → f (end p) ≡ Err (Shape p)) → Judge f
word_judge f words feeds ends = record { at = at; no_end = λ p a e. never (Shape p) a (sym (ends p) ∙ e) }
  where
    at : (t : Lexeme) (e : TextFault) → f t ≡ Err e → place t ≡ fault_place e
    at (word w p) e q = words w p e q
    at (line_end p) e q = shape_at p e (sym (feeds p) ∙ q)
    at (end p) e q = shape_at p e (sym (ends p) ∙ q)

pub ended_fails : (b : ℕ) (ts : List Lexeme) → Closed ts → FailsAt ts (ended b ts)
ended_fails b [] h = absurd h
ended_fails b (word w p ∷ ts) h = inl refl
ended_fails b (line_end p ∷ ts) h = inl refl
ended_fails b (end p ∷ ts) h = go (eqb p b)
  where
    go : (t : Bool) → FailsAt {A = Unit {0}} (end p ∷ ts) (cond t (Ok tt) (Err (Shape p)))
    go true = tt
    go false = inl refl
