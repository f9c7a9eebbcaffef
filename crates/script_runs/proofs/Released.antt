-- RELEASE on one sheet of a pair, and the tickets that are kept.
use Rattle.std.proofs.Common.{◌≡◌, ℕ, zero, suc, ◌<◌, List, [], ◌∷◌, length, get_or, Some, None, Option, refl, ap, arith}
use Rattle.std.specs.List.{insert, remove}
use Rattle.faults.specs.declared.Refusal.{Refusal}
use Rattle.sheets.specs.declared.Ticket.{Ticket}
use Rattle.sheets.specs.Sheets.{SheetMeaning, held_at, release_answer}
use Rattle.model.specs.Calls.{accepted, denied, done, same_ticket}
use Rattle.session.specs.Served.{release_says}
use Rattle.script_runs.specs.Obeyed.{release_reply, kept_after}

-- an accepted ticket was held there
pub spent : (s : SheetMeaning) (t : Ticket) (ts : List Ticket) (place : ℕ) → accepted done ≡ release_reply s t → remove ts place ≡ kept_after (held_at s t) ts place
spent s t ts place e = go (held_at s t) e
  where
    go : (o : Option ℕ) → accepted done ≡ release_says (release_answer o t) → remove ts place ≡ kept_after o ts place
    go None e = absurd (let z : ◌≡◌ {A = ℕ} 0 1 = cc in omega arith)
    go (Some i) e = refl

-- a refused one comes back, and was not held there
pub handed_back : (s : SheetMeaning) (t u : Ticket) (f : Refusal) → denied f (same_ticket u) ≡ release_reply s t → (u ≡ t) × (held_at s t ≡ None)
handed_back s t u f e = go (held_at s t) e
  where
    go : (o : Option ℕ) → denied f (same_ticket u) ≡ release_says (release_answer o t) → (u ≡ t) × (o ≡ None)
    go None e = (cc, refl)
    go (Some i) e = absurd (let z : ◌≡◌ {A = ℕ} 0 1 = cc in omega arith)

-- what is put back where it was taken from
pub put_again : {A : Type 0} (xs : List A) (i : ℕ) (d : A) → i < length xs → insert (remove xs i) i (get_or xs i d) ≡ xs
put_again [] i d h = absurd (omega arith)
put_again (x ∷ xs) zero d h = refl
put_again (x ∷ xs) (suc i) d h = ap (λ l. x ∷ l) (put_again xs i d (omega arith))
