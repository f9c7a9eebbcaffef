-- Looking for a ticket among those of its owner.
use Rattle.std.proofs.Common.{◌≡◌, ℕ, zero, suc, ◌<◌, Bool, true, false, cond, ◌||◌, eqb, ltb, List, [], ◌∷◌, map, length, is_some, Some, None, Option, sym, refl, ap, ◌∙◌, subst, arith}
use lib.ListN.{length-map}
use Rattle.std.specs.List.{remove}
use Rattle.std.specs.Option.{option_map}
use Rattle.std.proofs.lemmas.Bool.{cond-true, cond-false, eq-eqb, ne_eqb, eqb-true, lt-ltb}
use Rattle.tables.specs.Tables.{without}
use Rattle.sheets.specs.declared.Held.{Held}
use Rattle.sheets.specs.declared.Ticket.{Ticket}
use Rattle.sheets.specs.Sheets.{SheetMeaning, numbered_at, held_at, after_release}
use Rattle.model.specs.declared.Side.{Side}
use Rattle.model.specs.declared.Side.TheVariants.{Make, Break}
use Rattle.tickets.specs.Tickets.{place_of, ticket_for, tickets_of}
use Rattle.script_runs.specs.Outcomes.{shown, no_ticket}
use Rattle.script_runs.specs.Obeyed.{sided, release_reply, make_released, break_released, ticket_at, kept_after, Labelled, ticket_of, kept, release_outcome}

-- the place of a ticket is that of its assumption
place_held : (label number : ℕ) (hs : List Held) → place_of number (map (ticket_for label) hs) ≡ numbered_at number hs
place_held label number [] = refl
place_held label number (h ∷ hs) = ap (λ o. cond (eqb h.number number) (Some 0) (option_map suc o)) (place_held label number hs)

pub record At (label number : ℕ) (hs : List Held) (i : ℕ) : Type 0 where
  pub there : i < length hs
  pub ticket : ticket_at (map (ticket_for label) hs) i ≡ record { label = label; number = number }

at_place : (label number : ℕ) (hs : List Held) (i : ℕ) → numbered_at number hs ≡ Some i → At label number hs i
at_place label number [] i e = absurd (let z : ◌≡◌ {A = ℕ} 0 1 = cc in omega arith)
at_place label number (h ∷ hs) i e = go (eqb h.number number) refl (numbered_at number hs) e (at_place label number hs)
  where
    go : (b : Bool) → eqb h.number number ≡ b → (o : Option ℕ) → cond b (Some 0) (option_map suc o) ≡ Some i → ((j : ℕ) → o ≡ Some j → At label number hs j) → At label number (h ∷ hs) i
    go true same o found more =
        let first : i ≡ 0 = cc in
        let own = eqb-true h.number number same in
        subst (λ k. At label number (h ∷ hs) k) (sym first) (record { there = omega arith; ticket = ap (λ n. record { label = label; number = n }) own })
    go false other None found more = absurd (let z : ◌≡◌ {A = ℕ} 0 1 = cc in omega arith)
    go false other (Some j) found more =
        let later : i ≡ suc j = cc in
        let rest = more j refl in
        subst (λ k. At label number (h ∷ hs) k) (sym later) (record { there = omega (arith, rest.there); ticket = rest.ticket })

removed_map : {A B : Type 0} (f : A → B) (xs : List A) (i : ℕ) → remove (map f xs) i ≡ map f (remove xs i)
removed_map f [] zero = refl
removed_map f [] (suc i) = refl
removed_map f (x ∷ xs) zero = refl
removed_map f (x ∷ xs) (suc i) = ap (λ l. f x ∷ l) (removed_map f xs i)

without_there : (hs : List Held) (i : ℕ) → i < length hs → without hs i ≡ remove hs i
without_there hs i h = cond-true (ltb i (length hs)) _ _ (lt-ltb i (length hs) h)

-- an owner holds its tickets, and nobody else does
owner_holds : (s : SheetMeaning) (label number : ℕ) → s.label ≡ label → held_at s (record { label = label; number = number }) ≡ numbered_at number s.held
owner_holds s label number e = cond-true (eqb label s.label) _ _ (eq-eqb label s.label (sym e))

other_lacks : (s : SheetMeaning) (t : Ticket) → (t.label ≡ s.label → ⊥) → held_at s t ≡ None
other_lacks s t other = cond-false (eqb t.label s.label) _ _ (ne_eqb t.label s.label other)

-- the ticket is in neither sheet
pub record Absent (side : Side) (m b : SheetMeaning) (t : Ticket) : Type 0 where
  pub outcome : no_ticket ≡ release_outcome side m b t
  pub make_kept : m ≡ make_released side m t
  pub break_kept : b ≡ break_released side b t

absent_is : (side : Side) (m b : SheetMeaning) (t : Ticket) → held_at m t ≡ None → held_at b t ≡ None → Absent side m b t
absent_is side m b t hm hb = record {
  outcome = sym (cond-false (kept m b t) _ _ (ap (λ o. is_some o || is_some (held_at b t)) hm ∙ ap is_some hb));
  make_kept = make_same side;
  break_kept = break_same side;
}
  where
    make_same : (side : Side) → m ≡ make_released side m t
    make_same Make = sym (ap (after_release m) hm)
    make_same Break = refl

    break_same : (side : Side) → b ≡ break_released side b t
    break_same Make = refl
    break_same Break = sym (ap (after_release b) hb)

pub absent : (owner side : Side) (m b : SheetMeaning) (number : ℕ) → Labelled m b → None ≡ place_of number (tickets_of (sided owner m b)) → Absent side m b (ticket_of owner number)
absent Make side m b number lab none =
    absent_is side m b (ticket_of Make number) (owner_holds m 1 number lab.make_label ∙ sym (place_held m.label number m.held) ∙ sym none) (other_lacks b (ticket_of Make number) (λ e. omega (arith, lab.break_label)))
absent Break side m b number lab none =
    absent_is side m b (ticket_of Break number) (other_lacks m (ticket_of Break number) (λ e. omega (arith, lab.make_label))) (owner_holds b 2 number lab.break_label ∙ sym (place_held b.label number b.held) ∙ sym none)

-- the ticket is among its owner's
pub record Present (owner side : Side) (m b : SheetMeaning) (t : Ticket) (i : ℕ) : Type 0 where
  pub there : i < length (tickets_of (sided owner m b))
  pub ticket : ticket_at (tickets_of (sided owner m b)) i ≡ t
  pub outcome : shown 0 (release_reply (sided side m b) t) ≡ release_outcome side m b t
  pub tickets : kept_after (held_at (sided side m b) t) (tickets_of (sided owner m b)) i ≡ tickets_of (sided owner (make_released side m t) (break_released side b t))
  pub others : tickets_of (sided owner (break_released side b t) (make_released side m t)) ≡ tickets_of (sided owner b m)

-- the owner's tickets once it has released one
owner_released : (s : SheetMeaning) (t : Ticket) (i : ℕ) → i < length s.held → held_at s t ≡ Some i → kept_after (held_at s t) (tickets_of s) i ≡ tickets_of (after_release s (held_at s t))
owner_released s t i there at =
    ap (λ o. kept_after o (tickets_of s) i) at
    ∙ removed_map (ticket_for s.label) s.held i
    ∙ ap (map (ticket_for s.label)) (sym (without_there s.held i there))
    ∙ ap (λ o. tickets_of (after_release s o)) (sym at)

-- and those of a sheet that lacks the ticket
other_kept : (s : SheetMeaning) (t : Ticket) → held_at s t ≡ None → tickets_of (after_release s (held_at s t)) ≡ tickets_of s
other_kept s t none = ap (λ o. tickets_of (after_release s o)) none

pub present : (owner side : Side) (m b : SheetMeaning) (number i : ℕ) → Labelled m b → Some i ≡ place_of number (tickets_of (sided owner m b)) → Present owner side m b (ticket_of owner number) i
present Make side m b number i lab found =
    let t = ticket_of Make number in
    let at : numbered_at number m.held ≡ Some i = sym (found ∙ place_held m.label number m.held) in
    let here = at_place m.label number m.held i at in
    let hm : held_at m t ≡ Some i = owner_holds m 1 number lab.make_label ∙ at in
    let hb : held_at b t ≡ None = other_lacks b t (λ e. omega (arith, lab.break_label)) in
    let size = length-map m.held (ticket_for m.label) in
    record {
      there = omega (arith, here.there);
      ticket = here.ticket ∙ ap (λ k. record { label = k; number = number }) lab.make_label;
      outcome = sym (cond-true (kept m b t) _ _ (ap (λ o. is_some o || is_some (held_at b t)) hm));
      tickets = mine side t hm hb here.there;
      others = other side t hb;
    }
  where
    mine : (side : Side) (t : Ticket) → held_at m t ≡ Some i → held_at b t ≡ None → i < length m.held → kept_after (held_at (sided side m b) t) (tickets_of m) i ≡ tickets_of (make_released side m t)
    mine Make t hm hb there = owner_released m t i there hm
    mine Break t hm hb there = ap (λ o. kept_after o (tickets_of m) i) hb

    other : (side : Side) (t : Ticket) → held_at b t ≡ None → tickets_of (break_released side b t) ≡ tickets_of b
    other Make t hb = refl
    other Break t hb = other_kept b t hb
present Break side m b number i lab found =
    let t = ticket_of Break number in
    let at : numbered_at number b.held ≡ Some i = sym (found ∙ place_held b.label number b.held) in
    let here = at_place b.label number b.held i at in
    let hb : held_at b t ≡ Some i = owner_holds b 2 number lab.break_label ∙ at in
    let hm : held_at m t ≡ None = other_lacks m t (λ e. omega (arith, lab.make_label)) in
    let size = length-map b.held (ticket_for b.label) in
    record {
      there = omega (arith, here.there);
      ticket = here.ticket ∙ ap (λ k. record { label = k; number = number }) lab.break_label;
      outcome = sym (cond-true (kept m b t) _ _ (ap (λ o. is_some o || is_some (held_at b t)) hm ∙ ap is_some hb));
      tickets = mine side t hm hb here.there;
      others = other side t hm;
    }
  where
    mine : (side : Side) (t : Ticket) → held_at m t ≡ None → held_at b t ≡ Some i → i < length b.held → kept_after (held_at (sided side m b) t) (tickets_of b) i ≡ tickets_of (break_released side b t)
    mine Make t hm hb there = ap (λ o. kept_after o (tickets_of b) i) hm
    mine Break t hm hb there = owner_released b t i there hb

    other : (side : Side) (t : Ticket) → held_at m t ≡ None → tickets_of (make_released side m t) ≡ tickets_of m
    other Make t hm = other_kept m t hm
    other Break t hm = refl
