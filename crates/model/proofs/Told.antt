-- What LEAST, WHY and TERMS are told at a point of a run of which each answer so far was the model's.
use Rattle.std.proofs.Common.{◌≡◌, ℕ, Bool, true, false, ◌&&◌, List, [], ◌∷◌, ◌++◌, map, length, ℤ, Some, None, Decides, Option, unwrap_or, sym, refl, ap, ◌∙◌, subst, arith}
use Rattle.std.specs.List.{AllByRecursion as All}
use Rattle.std.proofs.lemmas.List.{length-map}
use Rattle.std.proofs.lemmas.Bool.{both_ways, false≢true, and_parts, and_from}
use Rattle.std.proofs.ByRecursion.{Decides-by_and}
use Rattle.faults.specs.declared.Refusal.{Refusal}
use Rattle.settings.specs.declared.Term.{Term}
use Rattle.settings.specs.Settings.{agrees, met, fits}
use Rattle.settings.specs.TermRecords.{sums}
use Rattle.laws.specs.Texts.{every_met}
use Rattle.laws.specs.Choices.{chosen, enough, greedy}
use Rattle.laws.specs.Terms.{Outcome, made, shared, full}
use Rattle.laws.specs.Laws.{IsEarliest, Enough, Reason, Reasoned, Card, Settled}
use Rattle.laws.proofs.Least.{least_is, least_there}
use Rattle.laws.proofs.Why.{why_law, why_greedy}
use Rattle.laws.proofs.Terms.{terms_law}
use Rattle.model.specs.declared.Side.{Side}
use Rattle.model.specs.declared.Side.TheVariants.{Make}
use Rattle.model.specs.Model.{SheetModel, PairModel, on, allows, earliest, reason, card}
use Rattle.model.specs.Calls.{Call, RULE, ASSUME, RELEASE, LEAST, WHY, TERMS, accepted, terms_written, first_no, questions, card_questions, card_terms, card_records, at_front, reply_on, answered}
use Rattle.model.specs.Guarantee.{Event, calls_of, here, held_here, Allowed, LeastSetting, Blocks, SmallestReason, Told, Run, NewPair, ByTheModel, accepted_rules}
use Rattle.model.proofs.Runs.{front_by, back_by, as_new, after_keeps, after_rules, no_rules_when_new, all_yes}

-- each entry of a list passes where the whole list does
all_met : (x : List Bool) (rs : List (List ℤ)) → Decides (every_met rs x) (All (λ r. met r x ≡ true) rs)
all_met x = Decides-by_and (λ r. met r x) (λ r. met r x ≡ true) (λ rs. every_met rs x) (λ r. (λ e. e, λ e. e)) refl (λ r rs. refl)

all_agree : (x : List Bool) (ls : List ℤ) → Decides (fits ls x) (All (λ l. agrees x l ≡ true) ls)
all_agree x = Decides-by_and (agrees x) (λ l. agrees x l ≡ true) (λ ls. fits ls x) (λ l. (λ e. e, λ e. e)) refl (λ l ls. refl)

-- what was written, from the reply
terms_parts : (count count' : ℕ) (written written' : List Term) → accepted (terms_written count written) ≡ accepted (terms_written count' written') → (count' ≡ count) × (written' ≡ written)
terms_parts count count' written written' r = (cc, cc)

module _ (start : PairModel) (before : List Event) (new : NewPair start) (by : ByTheModel start before) where
  abbrev pair : PairModel
  pair = here start before

  -- what a call is told, by the refusal that is due or that none is
  abbrev Tells : Call → Type 0
  Tells c = (due : Option Refusal) → first_no (questions pair c) ≡ due → Told start before c (reply_on due pair c)

  module _ (side : Side) where
    abbrev now : SheetModel
    now = on pair side

    abbrev held : List ℤ
    held = held_here start before side

    fixed : as_new now ≡ as_new (on start side)
    fixed = after_keeps side start (calls_of before)

    rules_now : now.rules ≡ accepted_rules side before
    rules_now = after_rules side start before by ∙ ap (λ rs. rs ++ accepted_rules side before) (no_rules_when_new side start new)

    -- a setting of its contacts is allowed where the sheet's test says so
    allowed_from : (x : List Bool) → length x ≡ now.contacts → allows now x ≡ true → Allowed start before side x
    allowed_from x sized h =
        let parts = and_parts (now.new x) (every_met now.rules x) h in
        record {
          sized = sized ∙ ap (λ s. s.contacts) fixed;
          allowed_when_new = ap (λ s. s.new x) (sym fixed) ∙ parts.0;
          meets_rules = subst (All (λ r. met r x ≡ true)) rules_now ((all_met x now.rules).0 parts.1);
        }

    allowed_sized : (x : List Bool) → Allowed start before side x → length x ≡ now.contacts
    allowed_sized x a = a.sized ∙ ap (λ s. s.contacts) (sym fixed)

    allowed_passes : (x : List Bool) → Allowed start before side x → allows now x ≡ true
    allowed_passes x a =
        and_from (now.new x) (every_met now.rules x) (ap (λ s. s.new x) fixed ∙ a.allowed_when_new) ((all_met x now.rules).1 (subst (All (λ r. met r x ≡ true)) (sym rules_now) a.meets_rules))

    least_setting : (x : List Bool) → IsEarliest now.contacts (λ x. allows now x && fits held x) x → LeastSetting start before side x
    least_setting x e =
        let parts = and_parts (allows now x) (fits held x) e.passes in
        record {
          free = record { allowed = allowed_from x e.sized parts.0; agrees_with_held = (all_agree x held).0 parts.1 };
          others_later = λ y free. e.others_later y (allowed_sized y free.allowed) (and_from (allows now y) (fits held y) (allowed_passes y free.allowed) ((all_agree y held).1 free.agrees_with_held));
        }

    -- a choice blocks where its literals are enough
    blocks_from : (c : List Bool) → Enough now.contacts (allows now) (chosen c held) → Blocks start before side c
    blocks_from c e x a h = both_ways (fits (chosen c held) x) (e x (allowed_sized x a) (allowed_passes x a)) ((all_agree x (chosen c held)).1 h)

    blocks_enough : (c : List Bool) → Blocks start before side c → Enough now.contacts (allows now) (chosen c held)
    blocks_enough c b x sized h = go (fits (chosen c held) x) refl where
      go : (t : Bool) → fits (chosen c held) x ≡ t → t ≡ false
      go false e = refl
      go true e = absurd (b x (allowed_from x sized h) ((all_agree x (chosen c held)).0 e))

    smallest_reason : (c : List Bool) → Reason now.contacts (allows now) held c → SmallestReason start before side c
    smallest_reason c r = record {
      sized = r.sized;
      enough = blocks_from c r.is_enough;
      others_greater = λ d sized b. r.others_greater d sized (blocks_enough d b);
    }

    tell_least : (out : List ℤ) → Tells (LEAST side out)
    tell_least out (Some f) e written r = let z : ◌≡◌ {A = ℕ} 0 1 = cc in absurd (omega arith)
    tell_least out None e written r =
        let test : List Bool → Bool = λ x. allows now x && fits held x in
        let found = least_there now.contacts test (all_yes (questions pair (LEAST side out)) e).1.0 in
        record { setting = unwrap_or (earliest now) []; least = least_setting (unwrap_or (earliest now) []) (least_is now.contacts test (unwrap_or (earliest now) []) found); buffer = cc }

    tell_why : (out : List ℤ) → Tells (WHY side out)
    tell_why out (Some f) e size written r = let z : ◌≡◌ {A = ℕ} 0 1 = cc in absurd (omega arith)
    tell_why out None e size written r =
        let c : List Bool = greedy (enough now.contacts (allows now)) [] held in
        let found : reason now ≡ Some c = why_greedy now.contacts (allows now) held (all_yes (questions pair (WHY side out)) e).1.0 in
        record { choice = c; smallest = smallest_reason c (subst (Reasoned now.contacts (allows now) held) found (why_law now.contacts (allows now) held)); counted = cc; buffer = cc }

  tell_terms : (out : List Term) → Tells (TERMS out)
  tell_terms out (Some f) e count written r = let z : ◌≡◌ {A = ℕ} 0 1 = cc in absurd (omega arith)
  tell_terms out None e count written r =
      let ts = card_terms (card pair) in
      let same : pair.make.contacts ≡ start.make.contacts = ap (λ s. s.contacts) (fixed Make) in
      let told = terms_parts (length (card_records pair)) count (at_front (card_records pair) out) written r in
      record {
        terms = ts;
        card = subst (λ n. Card n (allows pair.make) (allows pair.brk) ts) same (whole (card pair) refl (all_yes (questions pair (TERMS out)) e).1.1);
        counted = told.0 ∙ length-map ts (sums pair.make.contacts);
        buffer = told.1 ∙ ap (λ n. at_front (map (sums n) ts) out) same;
      }
    where
      whole : (o : Outcome) → card pair ≡ o → All (λ q. q.so ≡ true) (card_questions o) → Card pair.make.contacts (allows pair.make) (allows pair.brk) (card_terms o)
      whole (made ts) is h = subst (Settled pair.make.contacts (allows pair.make) (allows pair.brk)) is (terms_law pair.make.contacts (allows pair.make) (allows pair.brk))
      whole (shared x) is h = absurd (false≢true h.0)
      whole full is h = absurd (false≢true h.0)

  tell : (c : Call) → Told start before c (answered pair c)
  tell (RULE side ls) = tt
  tell (ASSUME side l) = tt
  tell (RELEASE side t) = tt
  tell (LEAST side out) = tell_least side out (first_no (questions pair (LEAST side out))) refl
  tell (WHY side out) = tell_why side out (first_no (questions pair (WHY side out))) refl
  tell (TERMS out) = tell_terms out (first_no (questions pair (TERMS out))) refl

-- so every point of such a run was told what is due there
pub run_from : (start : PairModel) (h : List Event) → NewPair start → ByTheModel start h → Run start h
run_from start h new by before e rest eq =
    let all : ByTheModel start (before ++ e ∷ rest) = subst (ByTheModel start) eq by in
    let answer = (back_by start before (e ∷ rest) all).0 in
    record { by_the_model = answer; told = subst (Told start before e.call) (sym answer) (tell start before new (front_by start before (e ∷ rest) all) e.call) }
