-- The held literals name contacts.
use Rattle.std.proofs.Common.{◌≡◌, ℕ, zero, suc, true, ltb, List, [], ◌∷◌, ◌++◌, length, sym, refl, ap, subst}
use Rattle.std.specs.List.{remove}
use Rattle.std.proofs.lemmas.List.{map-append}
use Rattle.std.proofs.lemmas.Bool.{cond_both}
use Rattle.literals.specs.Literals.{names}
use Rattle.tables.specs.Tables.{without}
use Rattle.laws.proofs.Named.{Named, named_append, named_cons, named_removed}
use Rattle.sheets.specs.declared.Held.{Held}
use Rattle.sheets.specs.Sheets.{held_literals}

literals_removed : (hs : List Held) (i : ℕ) → held_literals (remove hs i) ≡ remove (held_literals hs) i
literals_removed [] zero = refl
literals_removed [] (suc i) = refl
literals_removed (h ∷ hs) zero = refl
literals_removed (h ∷ hs) (suc i) = ap (λ t. h.literal ∷ t) (literals_removed hs i)

pub named_without : (n : ℕ) (hs : List Held) (i : ℕ) → Named n (held_literals hs) → Named n (held_literals (without hs i))
named_without n hs i h =
    cond_both (ltb i (length hs)) (remove hs i) hs (λ t. Named n (held_literals t)) (λ _. subst (Named n) (sym (literals_removed hs i)) (named_removed n (held_literals hs) i h)) (λ _. h)

pub named_held : (n : ℕ) (hs : List Held) (h : Held) → names n h.literal ≡ true → Named n (held_literals hs) → Named n (held_literals (hs ++ h ∷ []))
named_held n hs h own all =
    subst (Named n) (sym (map-append (λ y. y.literal) hs (h ∷ []))) (named_append n (held_literals hs) (h.literal ∷ []) all (named_cons n h.literal [] own refl))
