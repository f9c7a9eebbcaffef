-- The law of TERMS.
use Rattle.std.proofs.Common.{◌≡◌, ℕ, zero, suc, ◌+◌, ◌≤◌, Bool, true, false, cond, not, ◌&&◌, ◌||◌, List, [], ◌∷◌, ◌++◌, length, ℤ, is_some, Some, None, Option, unwrap_or, sym, refl, ap, ◌∙◌, subst, ap₂, arith}
use mathlib.Core.Path.{fun_ext}
use Rattle.std.specs.List.{AllByRecursion as All}
use Rattle.std.proofs.ByRecursion.{All-push, All-weaker}
use Rattle.std.proofs.lemmas.List.{append-nil, append_assoc, length-append}
use Rattle.std.proofs.lemmas.Bool.{both_ways, and_parts, or_from, or_right, not-true, not-false}
use Rattle.settings.specs.Settings.{fits, covered, literals}
use Rattle.laws.specs.Choices.{chosen, why, trim}
use Rattle.laws.specs.Terms.{Outcome, made, shared, full, uncovered, pick, covers_all, next_term, after_pick, gather, struck, terms}
use Rattle.laws.specs.Laws.{Alike, Enough, NotEnough, Reasoned, Recorded, Missed, MadeNext, MadeInTurn, Settled, TermsLaw, TermsAlike}
use Rattle.laws.proofs.Least.{least_alike, least_is, neither, neither_from, both_at}
use Rattle.laws.proofs.Trim.{Grows, trim_passes, trim_lean, all_trim, length_trim}
use Rattle.laws.proofs.Why.{why_reasoned, why_alike}
use Rattle.laws.proofs.Literals.{literals_own, literals_only, fits_chosen, length_literals}
use Rattle.laws.proofs.Records.{records_law}

-- one term more covers no less
covered_more : (front back : List (List ℤ)) (t : List ℤ) (x : List Bool) → covered (front ++ back) x ≡ true → covered (front ++ t ∷ back) x ≡ true
covered_more [] back t x h = or_right (fits t x) (covered back x) h
covered_more (f ∷ front) back t x h = go (fits f x) h (covered_more front back t x) where
  go : (b : Bool) → (b || covered (front ++ back) x) ≡ true → (covered (front ++ back) x ≡ true → covered (front ++ t ∷ back) x ≡ true) → (b || covered (front ++ t ∷ back) x) ≡ true
  go true h i = refl
  go false h i = i h

-- a term that covers no BREAK setting, can be written as a record and covers one when short of a literal
abbrev Lean : ℕ → (List Bool → Bool) → List ℤ → Type 0
Lean n brk t = Enough n brk t × Recorded n t × ((front back : List ℤ) (l : ℤ) → t ≡ front ++ l ∷ back → NotEnough n brk (front ++ back))

all_at : {A : Type 0} (P : A → Type 0) (front back : List A) (a : A) → All P (front ++ a ∷ back) → P a
all_at P [] back a h = h.0
all_at P (f ∷ front) back a h = all_at P front back a h.1

module _ (n : ℕ) (make brk : List Bool → Bool) where
  pub covers_means : (ts : List (List ℤ)) → covers_all n make ts ≡ true → (x : List Bool) → length x ≡ n → make x ≡ true → covered ts x ≡ true
  covers_means ts h x l m = not-false (covered ts x) (neither n make (λ x. not (covered ts x)) h x l m)

  covers_from : (ts : List (List ℤ)) → ((x : List Bool) → length x ≡ n → make x ≡ true → covered ts x ≡ true) → covers_all n make ts ≡ true
  covers_from ts h = neither_from n make (λ x. not (covered ts x)) (λ x l m. ap not (h x l m))

  missed_at : (ts : List (List ℤ)) → covers_all n make ts ≡ false → Missed n make ts
  missed_at ts h =
      let r = both_at n make (λ x. not (covered ts x)) h in
      record { setting = r.0; sized = r.1; is_make = r.2; not_covered = not-true (covered ts r.0) r.3 }

  pub covers_grows : Grows (covers_all n make)
  covers_grows front back t h = covers_from (front ++ t ∷ back) (λ x l m. covered_more front back t x (covers_means (front ++ back) h x l m))

  covers_no_break : (ts : List (List ℤ)) → All (Lean n brk) ts → (x : List Bool) → length x ≡ n → brk x ≡ true → covered ts x ≡ false
  covers_no_break [] g x l b = refl
  covers_no_break (t ∷ ts) g x l b = or_from (fits t x) (covered ts x) (g.0.0 x l b) (covers_no_break ts g.1 x l b)

  next_lean : (x : List Bool) → length x ≡ n → brk x ≡ false → Lean n brk (next_term n brk x)
  unfolding next_term
  next_lean x l b = go (why n brk (literals 0 x)) (why_reasoned n brk (literals 0 x)) where
    go : (o : Option (List Bool)) → Reasoned n brk (literals 0 x) o → Lean n brk (chosen (unwrap_or o []) (literals 0 x))
    go (Some c) r = (r.is_enough, subst (λ k. Recorded k (chosen c (literals 0 x))) l (records_law c x (r.sized ∙ length_literals 0 x)), r.no_literal_less)
    go None r = absurd (both_ways (brk x) b (subst (λ y. brk y ≡ true) (literals_only x r.setting (r.sized ∙ sym l) r.agrees_with_all) r.is_allowed))

  pub next_covers : (x : List Bool) → fits (next_term n brk x) x ≡ true
  unfolding next_term
  next_covers x = fits_chosen (unwrap_or (why n brk (literals 0 x)) []) (literals 0 x) x (literals_own x)

  -- the terms so far; what comes of them, with m at most
  record SoFar (ts : List (List ℤ)) : Type 0 where
    lean : All (Lean n brk) ts
    in_turn : MadeInTurn n make brk [] ts

  Gathered : ℕ → Outcome → Type 0
  Gathered m (made ts) = SoFar ts × (covers_all n make ts ≡ true) × (length ts ≤ m)
  Gathered m (shared x) = (ts : List (List ℤ)) × SoFar ts × (length ts ≤ m) × (pick n make ts ≡ Some x) × (brk x ≡ true)
  Gathered m full = (ts : List (List ℤ)) × SoFar ts × (length ts ≡ m) × (x : List Bool) × (pick n make ts ≡ Some x) × (brk x ≡ false)

  turn : (m : ℕ) (ts : List (List ℤ)) → SoFar ts → length ts ≤ m → (more : List Bool → Outcome) → ((x : List Bool) → pick n make ts ≡ Some x → brk x ≡ false → Gathered m (more x)) → (o : Option (List Bool)) → pick n make ts ≡ o → Gathered m (after_pick o (made ts) (λ x. cond (brk x) (shared x) (more x)))
  unfolding Gathered
  turn m ts g few more h None e = (g, ap (λ o. not (is_some o)) e, few)
  turn m ts g few more h (Some x) e = go (brk x) refl where
    go : (b : Bool) → brk x ≡ b → Gathered m (cond b (shared x) (more x))
    go true b = (ts, g, few, e, b)
    go false b = h x e b

  turn_push : (before ts : List (List ℤ)) (t : List ℤ) → MadeInTurn n make brk before ts → MadeNext n make brk (before ++ ts) t → MadeInTurn n make brk before (ts ++ t ∷ [])
  turn_push before [] t h w = (subst (λ b. MadeNext n make brk b t) (append-nil before) w, tt)
  turn_push before (u ∷ ts) t h w = (h.0, turn_push (before ++ u ∷ []) ts t h.1 (subst (λ b. MadeNext n make brk b t) (sym (append_assoc before (u ∷ []) ts)) w))

  one_more : (ts : List (List ℤ)) (x : List Bool) → SoFar ts → pick n make ts ≡ Some x → brk x ≡ false → SoFar (ts ++ next_term n brk x ∷ [])
  one_more ts x g e b =
      let first = least_is n (uncovered make ts) x e in
      let lean = next_lean x first.sized b in
      record {
        lean = All-push (Lean n brk) ts (next_term n brk x) g.lean lean;
        in_turn = turn_push [] ts (next_term n brk x) g.in_turn (record { setting = x; picked = first; clear = b; covers_it = next_covers x; no_break = lean.0; chosen_by_why = refl });
      }

  gather_law : (m room : ℕ) (ts : List (List ℤ)) → SoFar ts → room + length ts ≡ m → Gathered m (gather n make brk room ts)
  unfolding gather Gathered
  gather_law m zero ts g l = turn m ts g (omega arith) (λ x. full) (λ x e b. (ts, g, omega arith, x, e, b)) (pick n make ts) refl
  gather_law m (suc room) ts g l =
      turn m ts g (omega arith) (λ x. gather n make brk room (ts ++ next_term n brk x ∷ []))
      (λ x e b. gather_law m room (ts ++ next_term n brk x ∷ []) (one_more ts x g e b) (omega (arith, length-append ts (next_term n brk x ∷ []))))
      (pick n make ts) refl

  struck_law : (o : Outcome) → Gathered 64 o → Settled n make brk (struck (covers_all n make) o)
  unfolding Gathered
  struck_law (shared x) h =
      let first = least_is n (uncovered make h.0) x h.3 in
      record {
        is_make = (and_parts (make x) (not (covered h.0 x)) first.passes).0;
        is_break = h.4;
        so_far = h.0;
        in_turn = h.1.in_turn;
        at_most_64 = h.2;
        picked = first;
      }
  struck_law full h =
      record { so_far = h.0; in_turn = h.1.in_turn; all_64 = h.2; setting = h.3; picked = least_is n (uncovered make h.0) h.3 h.4; clear = h.5 }
  struck_law (made us) h =
      let e : List (List ℤ) → Bool = covers_all n make in
      let ts : List (List ℤ) = trim e [] us in
      let lean = all_trim (Lean n brk) e us h.0.lean in
      record {
        every_make = covers_means ts (trim_passes e covers_grows us h.1);
        no_break = covers_no_break ts lean;
        at_most_64 = omega (arith, h.2, length_trim e us);
        recorded = All-weaker (Lean n brk) (Recorded n) (λ t g. g.1) ts lean;
        no_literal_less = λ before after front back l s. (all_at (Lean n brk) before after (front ++ l ∷ back) (subst (All (Lean n brk)) s lean)).2 front back l refl;
        no_term_less = λ before after t s. missed_at (before ++ after) (trim_lean e covers_grows us h.1 before after t s);
      }

-- the terms that were made cover every MAKE setting, and can be written as records
pub gather_covers : (n : ℕ) (make brk : List Bool → Bool) (ts : List (List ℤ)) → gather n make brk 64 [] ≡ made ts → covers_all n make ts ≡ true
unfolding Gathered
gather_covers n make brk ts e = (subst (Gathered n make brk 64) e (gather_law n make brk 64 64 [] (record { lean = tt; in_turn = tt }) refl)).1

pub gather_recorded : (n : ℕ) (make brk : List Bool → Bool) (ts : List (List ℤ)) → gather n make brk 64 [] ≡ made ts → All (Recorded n) ts
unfolding Gathered
gather_recorded n make brk ts e =
    All-weaker (Lean n brk) (Recorded n) (λ t g. g.1) ts (subst (Gathered n make brk 64) e (gather_law n make brk 64 64 [] (record { lean = tt; in_turn = tt }) refl)).0.lean

pub terms_law : TermsLaw
unfolding terms
terms_law n make brk = struck_law n make brk (gather n make brk 64 []) (gather_law n make brk 64 64 [] (record { lean = tt; in_turn = tt }) refl)

-- sheets that allow alike give one answer
module _ (n : ℕ) (make make' brk brk' : List Bool → Bool) (m : Alike n make make') (b : Alike n brk brk') where
  pick_alike : (ts : List (List ℤ)) → pick n make ts ≡ pick n make' ts
  pick_alike ts = least_alike n (uncovered make ts) (uncovered make' ts) (λ x l. ap (λ c. c && not (covered ts x)) (m x l))

  covers_alike : covers_all n make ≡ covers_all n make'
  covers_alike = fun_ext (λ ts. ap (λ o. not (is_some o)) (pick_alike ts))

  next_alike : (x : List Bool) → next_term n brk x ≡ next_term n brk' x
  unfolding next_term
  next_alike x = ap (λ o. chosen (unwrap_or o []) (literals 0 x)) (why_alike n brk brk' b (literals 0 x))

  turn_alike : (ts : List (List ℤ)) (f f' : List Bool → Outcome) → ((x : List Bool) → f x ≡ f' x) → after_pick (pick n make ts) (made ts) (λ x. cond (brk x) (shared x) (f x)) ≡ after_pick (pick n make' ts) (made ts) (λ x. cond (brk' x) (shared x) (f' x))
  turn_alike ts f f' h = go (pick n make ts) refl ∙ ap (λ o. after_pick o (made ts) (λ x. cond (brk' x) (shared x) (f' x))) (pick_alike ts) where
    go : (o : Option (List Bool)) → pick n make ts ≡ o → after_pick o (made ts) (λ x. cond (brk x) (shared x) (f x)) ≡ after_pick o (made ts) (λ x. cond (brk' x) (shared x) (f' x))
    go None e = refl
    go (Some x) e = ap₂ (λ c o. cond c (shared x) o) (b x (least_is n (uncovered make ts) x e).sized) (h x)

  gather_alike : (room : ℕ) (ts : List (List ℤ)) → gather n make brk room ts ≡ gather n make' brk' room ts
  unfolding gather
  gather_alike zero ts = turn_alike ts (λ x. full) (λ x. full) (λ x. refl)
  gather_alike (suc room) ts =
      turn_alike ts (λ x. gather n make brk room (ts ++ next_term n brk x ∷ [])) (λ x. gather n make' brk' room (ts ++ next_term n brk' x ∷ []))
      (λ x. gather_alike room (ts ++ next_term n brk x ∷ []) ∙ ap (λ t. gather n make' brk' room (ts ++ t ∷ [])) (next_alike x))

pub terms_alike : TermsAlike
unfolding terms
terms_alike n make make' brk brk' m b = ap₂ struck (covers_alike n make make' brk brk' m b) (gather_alike n make make' brk brk' m b 64 [])

-- the steps of a loop that makes terms
module _ (n : ℕ) (make brk : List Bool → Bool) (ts : List (List ℤ)) where
  pub gather_done : (room : ℕ) → pick n make ts ≡ None → gather n make brk room ts ≡ made ts
  unfolding gather
  gather_done zero e = ap (λ o. after_pick o (made ts) (λ x. cond (brk x) (shared x) full)) e
  gather_done (suc room) e = ap (λ o. after_pick o (made ts) (λ x. cond (brk x) (shared x) (gather n make brk room (ts ++ next_term n brk x ∷ [])))) e

  pub gather_shared : (room : ℕ) (x : List Bool) → pick n make ts ≡ Some x → brk x ≡ true → gather n make brk room ts ≡ shared x
  unfolding gather
  gather_shared zero x e b = ap (λ o. after_pick o (made ts) (λ x. cond (brk x) (shared x) full)) e ∙ ap (λ c. cond c (shared x) full) b
  gather_shared (suc room) x e b = cc

  pub gather_full : (x : List Bool) → pick n make ts ≡ Some x → brk x ≡ false → gather n make brk 0 ts ≡ full
  unfolding gather
  gather_full x e b = cc

  pub gather_more : (room : ℕ) (x : List Bool) → pick n make ts ≡ Some x → brk x ≡ false → gather n make brk (suc room) ts ≡ gather n make brk room (ts ++ next_term n brk x ∷ [])
  unfolding gather
  gather_more room x e b = cc
