-- A line that is written reads as what it was written for, and a script is cut into the lines that it was put together from.
use Rattle.std.proofs.Common.{◌≡◌, ℕ, zero, suc, ◌+◌, ◌<◌, ◌≤◌, Bool, true, false, cond, not, ◌&&◌, eqb, ltb, List, [], ◌∷◌, ◌++◌, map, length, get_or, ℤ, pos, negsuc, neg_ℤ, Some, codes, decimal, sym, refl, ap, ◌∙◌, append_assoc, append-nil, add-zero, arith}
use Rattle.std.specs.Option.{option_map}
use Rattle.std.specs.Result.{result_ok}
use Rattle.std.specs.Fmt.{signed_decimal}
use Rattle.std.specs.List.{AllByRecursion as All}
use Rattle.std.proofs.lemmas.Fmt.{decimal_digit, decimal_nonempty, first_decimal}
use Rattle.std.proofs.lemmas.Bool.{and_parts, cond-false, ltb-true, ne_eqb, not-true}
use Rattle.texts.specs.Lexemes.{Lexeme, word, line_end, end, blank, goes_on, longer, lexemes, lexemes_from}
use Rattle.texts.proofs.Cuts.{Solid, a_word}
use Rattle.texts.proofs.Dues.{number_ok}
use Rattle.texts.proofs.Spellings.{solid_decimal}
use Rattle.model.specs.declared.Side.{Side}
use Rattle.model.specs.declared.Side.TheVariants.{Make, Break}
use Rattle.scripts.specs.Lines.{lines_of, longer as longer_line}
use Rattle.scripts.specs.Words.{words, words_of}
use Rattle.scripts.specs.Forms.{nothing, call, terms, ActionForm, rule, assume, release, least, why, write}
use Rattle.scripts.specs.Grammar.{number_of, literal_of, positive_of, literals_of, and_then, or_bad, call_of, line_of}
use Rattle.scripts.specs.Laws.{InByte, Within, side_word, action_words, spaced, line_text, spaces, LinesLaw, NoFeed, fed, ScriptLaw}

-- bytes that make one word
abbrev AWord : List ℕ → Type 0
AWord w = (0 < length w) × Solid w

abbrev all_solid : List ℕ → Bool
all_solid [] = true
all_solid (b ∷ bs) = not (blank b) && all_solid bs

solid_so : (w : List ℕ) → all_solid w ≡ true → Solid w
solid_so [] h = tt
solid_so (b ∷ bs) h = let q = and_parts (not (blank b)) (all_solid bs) h in (not-true (blank b) q.0, solid_so bs q.1)

name : (w : List ℕ) → (ltb 0 (length w) && all_solid w) ≡ true → AWord w
name w h = let q = and_parts (ltb 0 (length w)) (all_solid w) h in (ltb-true 0 (length w) q.0, solid_so w q.1)

number_word : (n : ℕ) → n ≤ 65535 → AWord (decimal n)
number_word n h = (decimal_nonempty n (omega arith), solid_decimal n (omega arith))

literal_word : (l : ℤ) → InByte l → AWord (signed_decimal l)
literal_word (pos n) h = (decimal_nonempty n (omega arith), solid_decimal n (omega arith))
literal_word (negsuc n) h = (omega arith, (refl, solid_decimal (suc n) (omega arith)))

literal_words : (ls : List ℤ) → All InByte ls → All AWord (map signed_decimal ls)
literal_words [] h = tt
literal_words (l ∷ ls) h = (literal_word l h.0, literal_words ls h.1)

-- words on a line are the words of the line
read_words : (w : List ℕ) (ws : List (List ℕ)) (p : ℕ) → AWord w → All AWord ws → words (lexemes p (w ++ spaced ws)) ≡ w ∷ ws
unfolding lexemes
read_words w [] p h hs = ap words (a_word w [] p h.0 h.1 refl)
read_words w (v ∷ ws) p h hs =
    ap words (a_word w (spaced (v ∷ ws)) p h.0 h.1 refl)
    ∙ ap (λ vs. w ∷ vs) (read_words v ws (p + length w + 1) hs.0 hs.1)

line_words : (w : List ℕ) (ws : List (List ℕ)) → AWord w → All AWord ws → words_of (line_text w ws) ≡ w ∷ ws
unfolding lexemes_from
line_words w ws h hs = read_words w ws 0 h hs

-- numbers and literals read back
number_back : (n : ℕ) → n ≤ 65535 → number_of (decimal n) ≡ Some n
number_back n h = ap result_ok (number_ok 0 65535 n 0 (omega arith) (omega arith) h)

no_minus : (w : List ℕ) → 0 < length w → (get_or w 0 0 ≡ 45 → ⊥) → literal_of w ≡ positive_of w
no_minus [] some other = absurd (omega arith)
no_minus (b ∷ bs) some other = cond-false (eqb b 45) _ _ (ne_eqb b 45 other)

digit_first : (n : ℕ) → n ≤ 127 → get_or (decimal n) 0 0 ≡ 45 → ⊥
digit_first zero h e = let z : ◌≡◌ {A = ℕ} 48 45 = sym (ap (λ w. get_or w 0 0) (decimal_digit 0 (omega arith))) ∙ e in omega arith
digit_first (suc n) h e = omega (arith, first_decimal (suc n) (omega arith) (omega arith))

literal_back : (l : ℤ) → InByte l → literal_of (signed_decimal l) ≡ Some l
literal_back (pos n) h =
    no_minus (decimal n) (decimal_nonempty n (omega arith)) (digit_first n h)
    ∙ ap (λ r. option_map pos (result_ok r)) (number_ok 0 127 n 0 (omega arith) (omega arith) h)
literal_back (negsuc n) h = ap (λ r. option_map (λ k. neg_ℤ (pos k)) (result_ok r)) (number_ok 1 128 (suc n) 0 (omega arith) (omega arith) (omega arith))

literals_back : (ls : List ℤ) → All InByte ls → literals_of (map signed_decimal ls) ≡ Some ls
literals_back [] h = refl
literals_back (l ∷ ls) h =
    ap (λ o. and_then o (λ k. option_map (λ ks. k ∷ ks) (literals_of (map signed_decimal ls)))) (literal_back l h.0)
    ∙ ap (option_map (λ ks. l ∷ ks)) (literals_back ls h.1)

-- what is asked of a sheet reads back
module _ (side : Side) where
  action_back : (a : ActionForm) → Within a → call_of (Some side) (action_words a) ≡ call side a
  action_back (rule ls) h = ap (λ o. or_bad (call side) (option_map rule o)) (literals_back ls h)
  action_back (assume l) h = ap (λ o. or_bad (call side) (option_map assume o)) (literal_back l h)
  action_back (release label number) h =
      ap (λ o. or_bad (call side) (and_then o (λ k. option_map (release k) (number_of (decimal number))))) (number_back label h.0)
      ∙ ap (λ o. or_bad (call side) (option_map (release label) o)) (number_back number h.1)
  action_back (least n) h = ap (λ o. or_bad (call side) (option_map least o)) (number_back n h)
  action_back (why n) h = ap (λ o. or_bad (call side) (option_map why o)) (number_back n h)
  action_back (write n) h = ap (λ o. or_bad (call side) (option_map write o)) (number_back n h)

  action_good : (a : ActionForm) → Within a → All AWord (action_words a)
  action_good (rule ls) h = (name (codes "rule") refl, literal_words ls h)
  action_good (assume l) h = (name (codes "assume") refl, (literal_word l h, tt))
  action_good (release label number) h = (name (codes "release") refl, (number_word label h.0, (number_word number h.1, tt)))
  action_good (least n) h = (name (codes "least") refl, (number_word n h, tt))
  action_good (why n) h = (name (codes "why") refl, (number_word n h, tt))
  action_good (write n) h = (name (codes "write") refl, (number_word n h, tt))

side_good : (side : Side) → AWord (side_word side)
side_good Make = name (codes "make") refl
side_good Break = name (codes "break") refl

sided : (side : Side) (ws : List (List ℕ)) → line_of (side_word side ∷ ws) ≡ call_of (Some side) ws
sided Make ws = refl
sided Break ws = refl

-- a line that is blank so far
blank_front : (k p : ℕ) (bs : List ℕ) → lexemes p (spaces k ++ bs) ≡ lexemes (p + k) bs
unfolding lexemes
blank_front zero p bs = ap (λ q. lexemes q bs) (sym (add-zero p))
blank_front (suc k) p bs = blank_front k (p + 1) bs ∙ ap (λ q. lexemes q bs) (omega arith)

-- a comment's first word begins with its first byte
comment_word : (p : ℕ) (ts : List Lexeme) → line_of (words (longer 35 p ts)) ≡ nothing
comment_word p [] = refl
comment_word p (word w q ∷ ts) = refl
comment_word p (line_end q ∷ ts) = refl
comment_word p (end q ∷ ts) = refl

comment_line : (p : ℕ) (bs : List ℕ) → line_of (words (lexemes p (35 ∷ bs))) ≡ nothing
unfolding lexemes
comment_line p bs = go (goes_on bs)
  where
    go : (b : Bool) → line_of (words (cond b (longer 35 p (lexemes (p + 1) bs)) (word (35 ∷ []) p ∷ lexemes (p + 1) bs))) ≡ nothing
    go true = comment_word p (lexemes (p + 1) bs)
    go false = refl

pub lines_law : LinesLaw
unfolding lexemes_from lexemes
lines_law = record {
  calls_read_back = λ side a h. ap line_of (line_words (side_word side) (action_words a) (side_good side) (action_good side a h)) ∙ sided side (action_words a) ∙ action_back side a h;
  terms_read_back = λ n h. ap line_of (line_words (codes "terms") (decimal n ∷ []) (name (codes "terms") refl) (number_word n h, tt)) ∙ ap (or_bad terms) (number_back n h);
  blank_is_nothing = λ k. ap (λ l. line_of (words (lexemes 0 l))) (sym (append-nil (spaces k))) ∙ ap (λ ts. line_of (words ts)) (blank_front k 0 []);
  comment_is_nothing = λ k bs. ap (λ ts. line_of (words ts)) (blank_front k 0 (35 ∷ bs)) ∙ comment_line (0 + k) bs;
}

-- one line more in front of a script
one_fed : (l rest : List ℕ) → NoFeed l → lines_of (l ++ (10 ∷ rest)) ≡ l ∷ lines_of rest
unfolding lines_of
one_fed [] rest h = refl
one_fed (b ∷ l) rest h = cond-false (eqb b 10) _ _ h.0 ∙ ap (longer_line b) (one_fed l rest h.1)

unfed : (b : ℕ) (l : List ℕ) → NoFeed (b ∷ l) → lines_of (b ∷ l) ≡ (b ∷ l) ∷ []
unfolding lines_of
unfed b [] h = cond-false (eqb b 10) _ _ h.0
unfed b (c ∷ l) h = cond-false (eqb b 10) _ _ h.0 ∙ ap (longer_line b) (unfed c l h.1)

cut_again : (ls : List (List ℕ)) (rest : List ℕ) → All NoFeed ls → lines_of (fed ls ++ rest) ≡ ls ++ lines_of rest
cut_again [] rest h = refl
cut_again (l ∷ ls) rest h =
    ap lines_of (append_assoc l (10 ∷ fed ls) rest)
    ∙ one_fed l (fed ls ++ rest) h.0
    ∙ ap (λ more. l ∷ more) (cut_again ls rest h.1)

pub script_law : ScriptLaw
unfolding lines_of
script_law = record {
  all_fed = λ ls h. ap lines_of (sym (append-nil (fed ls))) ∙ cut_again ls [] h ∙ append-nil ls;
  last_unfed = λ ls b last h g. cut_again ls (b ∷ last) h ∙ ap (λ more. ls ++ more) (unfed b last g);
}
