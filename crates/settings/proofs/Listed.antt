-- The literals of a setting, one contact more at a time, and the setting that they make.
use Rattle.std.proofs.Common.{◌≡◌, ℕ, zero, suc, ◌+◌, ◌<◌, ◌≤◌, Bool, true, false, ◌&&◌, ◌||◌, eqb, List, [], ◌∷◌, ◌++◌, length, get_or, fold, sym, refl, ap, ◌∙◌, ap₂, arith}
use Rattle.std.proofs.lemmas.List.FromFn.{map-range_with_len_more, fill_by_all}
use Rattle.std.proofs.lemmas.Bool.{eq-eqb, ne_eqb, lt-ltb, cond-true}
use Rattle.std.proofs.lemmas.Bool.Decides.{nat_tests}
use Rattle.literals.specs.declared.LiteralSet.{LiteralSet}
use Rattle.literals.specs.Bits.{bit}
use Rattle.literals.specs.Literals.{names, no_literals, inserted, with_literal, set_of, has}
use Rattle.literals.proofs.Bits.{bit_of_and, bit_ones, bit_zero}
use Rattle.literals.proofs.Booleans.{and_true}
use Rattle.settings.specs.declared.Setting.{Setting}
use Rattle.settings.specs.Settings.{literal, literals}
use Rattle.settings.specs.Readings.{reading, setting_of}
use Rattle.settings.specs.Laws.{SettingLaw}
use Rattle.settings.proofs.Recorded.{length_reading}
use Rattle.settings.proofs.Sets.{has_literal, same}

literals_push : (j : ℕ) (x : List Bool) (b : Bool) → literals j (x ++ b ∷ []) ≡ literals j x ++ literal (j + length x) b ∷ []
literals_push j [] b = ap (λ k. literal k b ∷ []) (omega arith)
literals_push j (c ∷ x) b = ap (λ ls. literal j c ∷ ls) (literals_push (suc j) x b ∙ ap (λ k. literals (suc j) x ++ literal k b ∷ []) (omega arith))

pub length_literals : (j : ℕ) (x : List Bool) → length (literals j x) ≡ length x
length_literals j [] = refl
length_literals j (b ∷ x) = ap suc (length_literals (suc j) x)

-- one contact more
pub literals_more : (s : Setting) (i : ℕ) → literals 0 (reading (i + 1) s) ≡ literals 0 (reading i s) ++ literal i (bit s.closed i) ∷ []
literals_more s i =
    ap (literals 0) (map-range_with_len_more (λ k. bit s.closed k) 0 i i (omega arith))
    ∙ literals_push 0 (reading i s) (bit s.closed i)
    ∙ ap (λ k. literals 0 (reading i s) ++ literal k (bit s.closed i) ∷ []) (omega (arith, length_reading i s))

-- ---- the setting that the literals make

named : (i : ℕ) (b : Bool) → i < 64 → names 64 (literal i b) ≡ true
named i true lt = lt-ltb i 64 lt
named i false lt = lt-ltb i 64 lt

wanted_closed : (s : LiteralSet) (i : ℕ) (b : Bool) (k : ℕ) → i < 64 → has (with_literal s (literal i b)) k true ≡ (has s k true || (eqb k i && b))
unfolding same
wanted_closed s i true k lt = ap (λ t. has t k true) (cond-true _ (inserted s (literal i true)) s (named i true lt)) ∙ has_literal s i true k true
wanted_closed s i false k lt = ap (λ t. has t k true) (cond-true _ (inserted s (literal i false)) s (named i false lt)) ∙ has_literal s i false k true

-- the literals of the contacts from index j on leave an earlier bit, and decide a later one
before : (x : List Bool) (j k : ℕ) (s : LiteralSet) → j + length x ≤ 64 → k < j → has (fold with_literal s (literals j x)) k true ≡ has s k true
before [] j k s room lt = refl
before (b ∷ x) j k s room lt =
    before x (suc j) k (with_literal s (literal j b)) (omega arith) (omega arith) ∙ wanted_closed s j b k (omega arith)
    ∙ ap (λ e. has s k true || (e && b)) (ne_eqb k j (omega arith)) ∙ grind (arith, nat_tests)

decided : (x : List Bool) (j m : ℕ) (s : LiteralSet) → j + length x ≤ 64 → m < length x → has s (j + m) true ≡ false → has (fold with_literal s (literals j x)) (j + m) true ≡ get_or x m false
decided [] j m s room lt none = absurd (omega arith)
decided (b ∷ x) j zero s room lt none =
    before x (suc j) (j + 0) (with_literal s (literal j b)) (omega arith) (omega arith) ∙ wanted_closed s j b (j + 0) (omega arith)
    ∙ ap₂ (λ h e. h || (e && b)) none (eq-eqb (j + 0) j (omega arith))
decided (b ∷ x) j (suc m) s room lt none =
    let move : j + suc m ≡ suc j + m = omega arith in
    let free : has (with_literal s (literal j b)) (suc j + m) true ≡ false =
    ap (λ k. has (with_literal s (literal j b)) k true) (sym move) ∙ wanted_closed s j b (j + suc m) (omega arith)
    ∙ ap₂ (λ h e. h || (e && b)) none (ne_eqb (j + suc m) j (omega arith)) in
    ap (λ k. has (fold with_literal s (literals j (b ∷ x))) k true) move ∙ decided x (suc j) m (with_literal s (literal j b)) (omega arith) (omega arith) free

closed_bit : (x : List Bool) (k : ℕ) → length x ≤ 32 → k < length x → bit (setting_of (literals 0 x)).closed k ≡ get_or x k false
closed_bit x k short lt =
    let at : 0 + k ≡ k = omega arith in
    bit_of_and (set_of (literals 0 x)).closed 0xffff_ffff k
    ∙ ap (λ b. bit (set_of (literals 0 x)).closed k && b) (bit_ones 32 k (omega arith))
    ∙ and_true (bit (set_of (literals 0 x)).closed k)
    ∙ ap (bit (set_of (literals 0 x)).closed) (sym at)
    ∙ decided x 0 k no_literals (omega arith) lt (bit_zero (0 + k))

pub setting_law : SettingLaw
setting_law x short = sym (fill_by_all (λ k. bit (setting_of (literals 0 x)).closed k) x (length x) false refl (λ k lt. sym (closed_bit x k short lt)))
