-- A ticket stays good while later ones come and go.
use Rattle.std.proofs.Common.{◌≡◌, ℕ, suc, ◌+◌, ◌≤◌, Bool, true, false, cond, eqb, ltb, List, [], ◌∷◌, ◌++◌, length, ℤ, is_some, Some, None, Option, sym, refl, ap, ◌∙◌, subst, arith}
use Rattle.std.specs.List.{remove}
use Rattle.std.specs.Option.{option_map}
use Rattle.std.proofs.lemmas.Bool.{cond-true, cond_both, eq-eqb, ne_eqb, eqb-true, eqb-false, false≢true}
use Rattle.faults.specs.declared.SheetFault.{SheetFault}
use Rattle.tables.specs.Tables.{without}
use Rattle.sheets.specs.declared.Held.{Held}
use Rattle.sheets.specs.declared.Ticket.{Ticket}
use Rattle.sheets.specs.Sheets.{SheetMeaning, assume_fault, next_ticket, with_held, numbered_at, held_at, after_release}
use Rattle.trials.specs.Trials.{kept_if_refused, given_back, after_trial}

-- an entry with this number is held
abbrev pub Numbered : ℕ → List Held → Type 0
Numbered k hs = is_some (numbered_at k hs) ≡ true

some_mapped : (o : Option ℕ) → is_some (option_map suc o) ≡ is_some o
some_mapped None = refl
some_mapped (Some i) = refl

numbered_cons : (k : ℕ) (h : Held) (hs : List Held) → Numbered k hs → Numbered k (h ∷ hs)
numbered_cons k h hs rest = go (eqb h.number k) where
  go : (b : Bool) → is_some (cond b (Some 0) (option_map suc (numbered_at k hs))) ≡ true
  go true = refl
  go false = some_mapped (numbered_at k hs) ∙ rest

numbered_here : (k : ℕ) (h : Held) (hs : List Held) → h.number ≡ k → Numbered k (h ∷ hs)
numbered_here k h hs e = ap is_some (cond-true (eqb h.number k) (Some 0) (option_map suc (numbered_at k hs)) (eq-eqb h.number k e))

-- it is the first entry, or one behind it
numbered_where : (k : ℕ) (h : Held) (hs : List Held) → Numbered k (h ∷ hs) → (h.number ≡ k → ⊥) → Numbered k hs
numbered_where k h hs is other =
    sym (some_mapped (numbered_at k hs)) ∙ ap (λ b. is_some (cond b (Some 0) (option_map suc (numbered_at k hs)))) (sym (ne_eqb h.number k other)) ∙ is

numbered_last : (hs : List Held) (h : Held) → Numbered h.number (hs ++ h ∷ [])
numbered_last [] h = numbered_here h.number h [] refl
numbered_last (g ∷ hs) h = numbered_cons h.number g (hs ++ h ∷ []) (numbered_last hs h)

numbered_append : (k : ℕ) (hs more : List Held) → Numbered k hs → Numbered k (hs ++ more)
numbered_append k [] more is = absurd (false≢true is)
numbered_append k (h ∷ hs) more is = go (eqb h.number k) refl (λ rest. numbered_append k hs more rest) where
  go : (b : Bool) → eqb h.number k ≡ b → (Numbered k hs → Numbered k (hs ++ more)) → Numbered k (h ∷ (hs ++ more))
  go true e behind = numbered_here k h (hs ++ more) (eqb-true h.number k e)
  go false e behind = numbered_cons k h (hs ++ more) (behind (numbered_where k h hs is (eqb-false h.number k e)))

-- taking out the entry of another number leaves it
numbered_removed : (k j place : ℕ) (hs : List Held) → (j ≡ k → ⊥) → numbered_at j hs ≡ Some place → Numbered k hs → Numbered k (remove hs place)
numbered_removed k j place [] other at is = absurd (false≢true is)
numbered_removed k j place (h ∷ hs) other at is = go (eqb h.number j) refl (numbered_at j hs) refl at (λ i found rest. numbered_removed k j i hs other found rest) where
  behind : (b : Bool) → eqb h.number k ≡ b → (i : ℕ) → (Numbered k hs → Numbered k (remove hs i)) → Numbered k (h ∷ remove hs i)
  behind true e i rest = numbered_here k h (remove hs i) (eqb-true h.number k e)
  behind false e i rest = numbered_cons k h (remove hs i) (rest (numbered_where k h hs is (eqb-false h.number k e)))

  go : (b : Bool) → eqb h.number j ≡ b → (o : Option ℕ) → numbered_at j hs ≡ o → cond b (Some 0) (option_map suc o) ≡ Some place → ((i : ℕ) → numbered_at j hs ≡ Some i → Numbered k hs → Numbered k (remove hs i)) → Numbered k (remove (h ∷ hs) place)
  go true e o found here rest =
      let first : place ≡ 0 = cc in
      let same = eqb-true h.number j e in
      subst (λ i. Numbered k (remove (h ∷ hs) i)) (sym first) (numbered_where k h hs is (λ own. other (sym same ∙ own)))
  go false e None found here rest = absurd (let z : ◌≡◌ {A = Bool} false true = cc in false≢true z)
  go false e (Some i) found here rest =
      let later : place ≡ suc i = cc in
      subst (λ m. Numbered k (remove (h ∷ hs) m)) (sym later) (behind (eqb h.number k) refl i (rest i found))

numbered_without : (k j place : ℕ) (hs : List Held) → (j ≡ k → ⊥) → numbered_at j hs ≡ Some place → Numbered k hs → Numbered k (without hs place)
numbered_without k j place hs other at is =
    cond_both (ltb place (length hs)) (remove hs place) hs (Numbered k) (λ _. numbered_removed k j place hs other at is) (λ _. is)

-- giving another ticket back leaves it
numbered_given_back : (k : ℕ) (t : Ticket) (p : SheetMeaning) → (t.number ≡ k → ⊥) → Numbered k p.held → Numbered k (given_back t p).held
numbered_given_back k t p other is = go (eqb t.label p.label) (numbered_at t.number p.held) refl where
  go : (b : Bool) (o : Option ℕ) → numbered_at t.number p.held ≡ o → Numbered k (after_release p (cond b o None)).held
  go true None at = is
  go true (Some place) at = numbered_without k t.number place p.held other at is
  go false o at = is

released_label : (p : SheetMeaning) (o : Option ℕ) → (after_release p o).label ≡ p.label
released_label p None = refl
released_label p (Some place) = refl

label_kept : (p : SheetMeaning) (ls : List ℤ) → (after_trial p ls).label ≡ p.label
label_kept p [] = refl
label_kept p (l ∷ ls) = go (assume_fault p l) (label_kept (with_held p l) ls) where
  go : (o : Option SheetFault) → (after_trial (with_held p l) ls).label ≡ p.label → (kept_if_refused o p (given_back (next_ticket p) (after_trial (with_held p l) ls))).label ≡ p.label
  go None rest = released_label (after_trial (with_held p l) ls) (held_at (after_trial (with_held p l) ls) (next_ticket p)) ∙ rest
  go (Some f) rest = refl

-- a trial leaves every entry of a number issued before it
numbered_kept : (p : SheetMeaning) (ls : List ℤ) (k : ℕ) → k ≤ p.count → Numbered k p.held → Numbered k (after_trial p ls).held
numbered_kept p [] k issued is = is
numbered_kept p (l ∷ ls) k issued is =
    go (assume_fault p l) (numbered_kept (with_held p l) ls k (omega arith) (numbered_append k p.held (record { literal = l; number = p.count + 1 } ∷ []) is))
  where
    go : (o : Option SheetFault) → Numbered k (after_trial (with_held p l) ls).held → Numbered k (kept_if_refused o p (given_back (next_ticket p) (after_trial (with_held p l) ls))).held
    go None rest = numbered_given_back k (next_ticket p) (after_trial (with_held p l) ls) (λ e. omega arith) rest
    go (Some f) rest = is

-- so the ticket of the first literal is good when the others are given back
pub still_held : (p : SheetMeaning) (l : ℤ) (ls : List ℤ) → is_some (held_at (after_trial (with_held p l) ls) (next_ticket p)) ≡ true
still_held p l ls =
    let q = after_trial (with_held p l) ls in
    ap is_some (cond-true (eqb p.label q.label) (numbered_at (p.count + 1) q.held) None (eq-eqb p.label q.label (sym (label_kept (with_held p l) ls))))
    ∙ numbered_kept (with_held p l) ls (p.count + 1) (omega arith) (numbered_last p.held (record { literal = l; number = p.count + 1 }))
