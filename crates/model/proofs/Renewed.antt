-- Pairs that differ only in the tests of what was allowed when new, and there only on lists that are no settings, answer alike.
use Rattle.std.proofs.Common.{◌≡◌, Bool, true, false, cond, ◌&&◌, eqb, leb, List, [], ◌∷◌, length, Some, None, Option, sym, refl, ap, ◌∙◌, subst}
use Rattle.std.proofs.lemmas.Bool.{eqb-true}
use Rattle.faults.specs.declared.Refusal.{Refusal}
use Rattle.faults.specs.declared.Layer.TheVariants.{Sheet}
use Rattle.faults.specs.Refusals.{refused}
use Rattle.settings.specs.Settings.{fits}
use Rattle.laws.specs.Texts.{every_met}
use Rattle.laws.specs.Laws.{Alike}
use Rattle.laws.proofs.Least.{least_alike}
use Rattle.laws.proofs.Why.{why_alike}
use Rattle.laws.proofs.Terms.{terms_alike}
use Rattle.sheets.specs.Sheets.{held_literals}
use Rattle.model.specs.declared.Side.{Side}
use Rattle.model.specs.declared.Side.TheVariants.{Make, Break}
use Rattle.model.specs.Model.{SheetModel, PairModel, on, allows, earliest, reason, card}
use Rattle.model.specs.Calls.{Call, RULE, ASSUME, RELEASE, LEAST, WHY, TERMS, accepted, is, first_no, questions, card_questions, granted, entered, reply_on, next_on, answered, next}
use Rattle.model.specs.Guarantee.{Event, calls_of, ByTheModel}
use Rattle.model.proofs.Runs.{next_keeps, all_yes}

-- a sheet with another test of what was allowed when new
abbrev pub with_new : SheetModel → (List Bool → Bool) → SheetModel
with_new s f = record { contacts = s.contacts; label = s.label; new = f; rules = s.rules; held = s.held; count = s.count }

abbrev pub renewed : PairModel → (Side → List Bool → Bool) → PairModel
renewed p f = record { make = with_new p.make (f Make); brk = with_new p.brk (f Break) }

module _ (s : SheetModel) (f : List Bool → Bool) (same : Alike s.contacts s.new f) where
  same_allows : Alike s.contacts (allows s) (allows (with_new s f))
  same_allows x sized = ap (λ b. b && every_met s.rules x) (same x sized)

  same_earliest : earliest s ≡ earliest (with_new s f)
  same_earliest =
      let held = held_literals s.held in
      least_alike s.contacts (λ x. allows s x && fits held x) (λ x. allows (with_new s f) x && fits held x) (λ x sized. ap (λ b. b && fits held x) (same_allows x sized))

  same_reason : reason s ≡ reason (with_new s f)
  same_reason = why_alike s.contacts (allows s) (allows (with_new s f)) same_allows (held_literals s.held)

-- what is asked behind a yes only has to be the same there
behind_yes : {A B : Type 0} {x y : A} (b : Bool) → (b ≡ true → x ≡ y) → (more : A → B) (otherwise : B) → cond b (more x) otherwise ≡ cond b (more y) otherwise
behind_yes true same more otherwise = ap more (same refl)
behind_yes false same more otherwise = refl

-- the tests agree on all settings of the contacts
abbrev pub Agree : PairModel → (Side → List Bool → Bool) → Type 0
Agree p f = (side : Side) → Alike (on p side).contacts (on p side).new (f side)

module _ (p : PairModel) (f : Side → List Bool → Bool) (agree : Agree p f) where
  -- BREAK's tests agree at its own number of contacts, so where that is MAKE's
  same_card : eqb p.make.contacts p.brk.contacts ≡ true → card p ≡ card (renewed p f)
  same_card e =
      terms_alike p.make.contacts (allows p.make) (allows (renewed p f).make) (allows p.brk) (allows (renewed p f).brk) (same_allows p.make (f Make) (agree Make))
      (λ x sized. same_allows p.brk (f Break) (agree Break) x (sized ∙ eqb-true p.make.contacts p.brk.contacts e))

  same_no : (c : Call) → first_no (questions p c) ≡ first_no (questions (renewed p f) c)
  same_no (RULE Make ls) = refl
  same_no (RULE Break ls) = refl
  same_no (ASSUME Make l) = refl
  same_no (ASSUME Break l) = refl
  same_no (RELEASE Make t) = refl
  same_no (RELEASE Break t) = refl
  same_no (LEAST Make out) = let e = same_earliest p.make (f Make) (agree Make) in cc
  same_no (LEAST Break out) = let e = same_earliest p.brk (f Break) (agree Break) in cc
  same_no (WHY Make out) = let e = same_earliest p.make (f Make) (agree Make) in cc
  same_no (WHY Break out) = let e = same_earliest p.brk (f Break) (agree Break) in cc
  same_no (TERMS out) =
      behind_yes (eqb p.make.contacts p.brk.contacts) same_card (λ o. first_no (is (leb 64 (length out)) (refused 10 0 Sheet) ∷ card_questions o)) (Some (refused 13 0 Sheet))

  same_granted : (c : Call) → first_no (questions p c) ≡ None → granted p c ≡ granted (renewed p f) c
  same_granted (RULE side ls) e = refl
  same_granted (ASSUME Make l) e = refl
  same_granted (ASSUME Break l) e = refl
  same_granted (RELEASE side t) e = refl
  same_granted (LEAST Make out) e = let r = same_earliest p.make (f Make) (agree Make) in cc
  same_granted (LEAST Break out) e = let r = same_earliest p.brk (f Break) (agree Break) in cc
  same_granted (WHY Make out) e = let r = same_reason p.make (f Make) (agree Make) in cc
  same_granted (WHY Break out) e = let r = same_reason p.brk (f Break) (agree Break) in cc
  same_granted (TERMS out) e = let r = same_card (all_yes (questions p (TERMS out)) e).0 in cc

  same_answered : (c : Call) → answered p c ≡ answered (renewed p f) c
  same_answered c = go (first_no (questions p c)) refl ∙ ap (λ o. reply_on o (renewed p f) c) (same_no c) where
    go : (o : Option Refusal) → first_no (questions p c) ≡ o → reply_on o p c ≡ reply_on o (renewed p f) c
    go None e = ap accepted (same_granted c e)
    go (Some refusal) e = refl

  same_entered : (c : Call) → renewed (entered p c) f ≡ entered (renewed p f) c
  same_entered (RULE Make ls) = refl
  same_entered (RULE Break ls) = refl
  same_entered (ASSUME Make l) = refl
  same_entered (ASSUME Break l) = refl
  same_entered (RELEASE Make t) = refl
  same_entered (RELEASE Break t) = refl
  same_entered (LEAST side out) = refl
  same_entered (WHY side out) = refl
  same_entered (TERMS out) = refl

  same_next : (c : Call) → renewed (next p c) f ≡ next (renewed p f) c
  same_next c = go (first_no (questions p c)) ∙ ap (λ o. next_on o (renewed p f) c) (same_no c) where
    go : (o : Option Refusal) → renewed (next_on o p c) f ≡ next_on o (renewed p f) c
    go None = same_entered c
    go (Some refusal) = refl

  agree_next : (c : Call) → Agree (next p c) f
  agree_next c side = subst (λ s. Alike s.contacts s.new (f side)) (sym (next_keeps side p c)) (agree side)

-- all that the model answers to some calls
abbrev history : PairModel → List Call → List Event
history p [] = []
history p (c ∷ calls) = record { call = c; reply = answered p c } ∷ history (next p c) calls

by_history : (p : PairModel) (h : List Event) → ByTheModel p h → h ≡ history p (calls_of h)
by_history p [] by = refl
by_history p (e ∷ h) by = λ i. record { call = e.call; reply = by.0 i } ∷ by_history (next p e.call) h by.1 i

same_history : (p : PairModel) (f : Side → List Bool → Bool) → Agree p f → (calls : List Call) → history p calls ≡ history (renewed p f) calls
same_history p f agree [] = refl
same_history p f agree (c ∷ calls) =
    let rest = same_history (next p c) f (agree_next p f agree c) calls ∙ ap (λ q. history q calls) (same_next p f agree c) in
    λ i. record { call = c; reply = same_answered p f agree c i } ∷ rest i

pub same_events : (p : PairModel) (f : Side → List Bool → Bool) → Agree p f → (h h' : List Event) → ByTheModel p h → ByTheModel (renewed p f) h' → calls_of h' ≡ calls_of h → h' ≡ h
same_events p f agree h h' by by' calls =
    by_history (renewed p f) h' by' ∙ ap (history (renewed p f)) calls ∙ sym (same_history p f agree (calls_of h)) ∙ sym (by_history p h by)
