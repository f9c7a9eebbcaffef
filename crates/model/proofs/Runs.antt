-- Runs of calls on the model: runs one behind the other, what no call changes, and the rules that were accepted.
use Rattle.std.proofs.Common.{◌≡◌, ℕ, Bool, true, false, cond, not, List, [], ◌∷◌, ◌++◌, is_some, Some, None, Option, sym, refl, ap, ◌∙◌, subst, arith}
use Rattle.std.specs.List.{AllByRecursion as All}
use Rattle.std.proofs.ByRecursion.{All-append}
use Rattle.std.proofs.lemmas.List.{append-nil, append_assoc}
use Rattle.std.proofs.lemmas.Bool.{false≢true}
use Rattle.faults.specs.declared.Refusal.{Refusal}
use Rattle.literals.specs.Literals.{first_unnamed}
use Rattle.laws.proofs.Named.{Named}
use Rattle.model.specs.declared.Side.{Side}
use Rattle.model.specs.declared.Side.TheVariants.{Make, Break}
use Rattle.model.specs.Model.{SheetModel, PairModel, on, put_on, with_rule}
use Rattle.model.specs.Calls.{Call, RULE, ASSUME, RELEASE, LEAST, WHY, TERMS, Question, first_no, questions, entered, reply_on, next_on, answered, next}
use Rattle.model.specs.Guarantee.{Event, calls_of, after, NewPair, if_same, if_accepted, rule_of, accepted_rules, Run, ByTheModel}

-- where each answer is the model's, so it is in the front and in the back of the run; and the other way round
pub front_by : (p : PairModel) (front back : List Event) → ByTheModel p (front ++ back) → ByTheModel p front
front_by p [] back h = tt
front_by p (e ∷ front) back h = (h.0, front_by (next p e.call) front back h.1)

pub back_by : (p : PairModel) (front back : List Event) → ByTheModel p (front ++ back) → ByTheModel (after p (calls_of front)) back
back_by p [] back h = h
back_by p (e ∷ front) back h = back_by (next p e.call) front back h.1

pub joined_by : (p : PairModel) (front back : List Event) → ByTheModel p front → ByTheModel (after p (calls_of front)) back → ByTheModel p (front ++ back)
joined_by p [] back h k = k
joined_by p (e ∷ front) back h k = (h.0, joined_by (next p e.call) front back h.1 k)

-- what is told at every point of a run, one event after the other
by_each : (p : PairModel) (h : List Event) → ((before : List Event) (e : Event) (rest : List Event) → h ≡ before ++ e ∷ rest → e.reply ≡ answered (after p (calls_of before)) e.call) → ByTheModel p h
by_each p [] told = tt
by_each p (e ∷ h) told = (told [] e h refl, by_each (next p e.call) h (λ before x rest eq. told (e ∷ before) x rest (ap (λ t. e ∷ t) eq)))

pub run_by : (start : PairModel) (h : List Event) → Run start h → ByTheModel start h
run_by start h run = by_each start h (λ before e rest eq. (run before e rest eq).by_the_model)

-- a part of a sheet that is kept on the sheet that is put is kept on both
put_keeps : {X : Type 0} (part : SheetModel → X) (side other : Side) (p : PairModel) (s : SheetModel) → part s ≡ part (on p other) → part (on (put_on p other s) side) ≡ part (on p side)
put_keeps part Make Make p s e = e
put_keeps part Make Break p s e = refl
put_keeps part Break Make p s e = refl
put_keeps part Break Break p s e = e

-- a sheet as it was when new: its contacts, its label and the settings then allowed are all that no call changes
abbrev pub as_new : SheetModel → SheetModel
as_new s = record { contacts = s.contacts; label = s.label; new = s.new; rules = []; held = []; count = 0 }

module _ (side : Side) where
  entered_keeps : (p : PairModel) (c : Call) → as_new (on (entered p c) side) ≡ as_new (on p side)
  entered_keeps p (RULE s ls) = put_keeps as_new side s p _ refl
  entered_keeps p (ASSUME s l) = put_keeps as_new side s p _ refl
  entered_keeps p (RELEASE s t) = put_keeps as_new side s p _ refl
  entered_keeps p (LEAST s out) = refl
  entered_keeps p (WHY s out) = refl
  entered_keeps p (TERMS out) = refl

  pub next_keeps : (p : PairModel) (c : Call) → as_new (on (next p c) side) ≡ as_new (on p side)
  next_keeps p c = go (first_no (questions p c)) where
    go : (o : Option Refusal) → as_new (on (next_on o p c) side) ≡ as_new (on p side)
    go None = entered_keeps p c
    go (Some f) = refl

  pub after_keeps : (p : PairModel) (calls : List Call) → as_new (on (after p calls) side) ≡ as_new (on p side)
  after_keeps p [] = refl
  after_keeps p (c ∷ calls) = after_keeps (next p c) calls ∙ next_keeps p c

  -- its rules are those that it had, and those of the accepted RULE calls on it
  entered_rules : (p : PairModel) (c : Call) → (on (entered p c) side).rules ≡ (on p side).rules ++ rule_of side c
  entered_rules p (RULE s ls) = go side s where
    go : (side s : Side) → (on (put_on p s (with_rule (on p s) ls)) side).rules ≡ (on p side).rules ++ if_same side s (ls ∷ [])
    go Make Make = refl
    go Make Break = rw append-nil
    go Break Make = rw append-nil
    go Break Break = refl
  entered_rules p (ASSUME s l) = rw append-nil (put_keeps (λ s. s.rules) side s p _ refl)
  entered_rules p (RELEASE s t) = rw append-nil (put_keeps (λ s. s.rules) side s p _ refl)
  entered_rules p (LEAST s out) = rw append-nil
  entered_rules p (WHY s out) = rw append-nil
  entered_rules p (TERMS out) = rw append-nil

  next_rules : (p : PairModel) (c : Call) → (on (next p c) side).rules ≡ (on p side).rules ++ if_accepted (answered p c) (rule_of side c)
  next_rules p c = go (first_no (questions p c)) where
    go : (o : Option Refusal) → (on (next_on o p c) side).rules ≡ (on p side).rules ++ if_accepted (reply_on o p c) (rule_of side c)
    go None = entered_rules p c
    go (Some f) = rw append-nil

  pub after_rules : (p : PairModel) (h : List Event) → ByTheModel p h → (on (after p (calls_of h)) side).rules ≡ (on p side).rules ++ accepted_rules side h
  after_rules p [] k = rw append-nil
  after_rules p (e ∷ h) k =
      let own = if_accepted e.reply (rule_of side e.call) in
      let first : (on (next p e.call) side).rules ≡ (on p side).rules ++ own = next_rules p e.call ∙ ap (λ r. (on p side).rules ++ if_accepted r (rule_of side e.call)) (sym k.0) in
      after_rules (next p e.call) h k.1 ∙ ap (λ rs. rs ++ accepted_rules side h) first ∙ append_assoc (on p side).rules own (accepted_rules side h)

  pub no_rules_when_new : (p : PairModel) → NewPair p → (on p side).rules ≡ []
  no_rules_when_new p new = go side where
    go : (side : Side) → (on p side).rules ≡ []
    go Make = new.make.no_rules
    go Break = new.brk.no_rules

-- where no refusal is due, every question was answered with yes
pub all_yes : (qs : List Question) → first_no qs ≡ None → All (λ q. q.so ≡ true) qs
all_yes [] e = tt
all_yes (q ∷ qs) e = go q.so (all_yes qs) e where
  go : (b : Bool) → (first_no qs ≡ None → All (λ q. q.so ≡ true) qs) → cond b (first_no qs) (Some q.otherwise) ≡ None → (b ≡ true) × All (λ q. q.so ≡ true) qs
  go true more e = (refl, more e)
  go false more e = let z : ◌≡◌ {A = ℕ} 0 1 = cc in absurd (omega arith)

-- each rule of a sheet names contacts
none_there : {A : Type 0} (o : Option A) → not (is_some o) ≡ true → o ≡ None
none_there None e = refl
none_there (Some a) e = absurd (false≢true e)

module _ (side : Side) where
  named_rule : (p : PairModel) (c : Call) → first_no (questions p c) ≡ None → All (Named (on p side).contacts) (rule_of side c)
  named_rule p (RULE s ls) e = go side s (none_there (first_unnamed (on p s).contacts ls) (all_yes (questions p (RULE s ls)) e).0) where
    go : (side s : Side) → Named (on p s).contacts ls → All (Named (on p side).contacts) (if_same side s (ls ∷ []))
    go Make Make h = (h, tt)
    go Make Break h = tt
    go Break Make h = tt
    go Break Break h = (h, tt)
  named_rule p (ASSUME s l) e = tt
  named_rule p (RELEASE s t) e = tt
  named_rule p (LEAST s out) e = tt
  named_rule p (WHY s out) e = tt
  named_rule p (TERMS out) e = tt

  named_accepted : (p : PairModel) (c : Call) → All (Named (on p side).contacts) (if_accepted (answered p c) (rule_of side c))
  named_accepted p c = go (first_no (questions p c)) refl where
    go : (o : Option Refusal) → first_no (questions p c) ≡ o → All (Named (on p side).contacts) (if_accepted (reply_on o p c) (rule_of side c))
    go None e = named_rule p c e
    go (Some f) e = tt

  named_after : (n : ℕ) (p : PairModel) (calls : List Call) → (on p side).contacts ≡ n → All (Named n) (on p side).rules → All (Named n) (on (after p calls) side).rules
  named_after n p [] e h = h
  named_after n p (c ∷ calls) e h =
      let own = if_accepted (answered p c) (rule_of side c) in
      let more : All (Named n) own = subst (λ n. All (Named n) own) e (named_accepted p c) in
      named_after n (next p c) calls (ap (λ s. s.contacts) (next_keeps side p c) ∙ e) (rw (next_rules side p c) (All-append (Named n) (on p side).rules own h more))

pub named_here : (start : PairModel) → NewPair start → (calls : List Call) (side : Side) → All (λ r. first_unnamed (on start side).contacts r ≡ None) (on (after start calls) side).rules
named_here start new calls side = named_after side (on start side).contacts start calls refl (rw (no_rules_when_new side start new) tt)
