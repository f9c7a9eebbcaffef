-- TERMS on two sheets, and the model that describes them.
use Rattle.std.proofs.Common.{◌≡◌, ℕ, ◌≤◌, Bool, true, false, cond, not, eqb, leb, List, ◌∷◌, map, length, Some, None, Err, vec_items, Option, sym, refl, ap, ◌∙◌, subst, arith, eqb-true}
use Rattle.std.proofs.lemmas.List.{length-map}
use Rattle.faults.specs.declared.SheetFault.TheVariants.{ShortBuffer, OtherContacts}
use Rattle.faults.specs.declared.Refusal.{Refusal}
use Rattle.faults.specs.Refusals.{refused}
use Rattle.faults.specs.declared.Layer.TheVariants.{Sheet}
use Rattle.settings.specs.declared.Term.{Term}
use Rattle.settings.specs.TermRecords.{sums}
use Rattle.laws.specs.Terms.{Outcome, made, shared, full, terms}
use Rattle.laws.specs.Laws.{Settled}
use Rattle.laws.proofs.Terms.{terms_law, terms_alike}
use Rattle.solver.specs.Meaning.{stands}
use Rattle.terms.specs.Answers.{recorded, terms_answer}
use Rattle.model.specs.declared.Side.TheVariants.{Make, Break}
use Rattle.model.specs.Model.{PairModel, allows, card}
use Rattle.model.specs.Calls.{TERMS, accepted, terms_written, first_no, questions, is, card_questions, card_terms, at_front, reply_on, next, next_on}
use Rattle.session.specs.declared.request.Request.{Request}
use Rattle.session.specs.declared.request.Request.TheVariants.{Sheet as OnSheet, Terms}
use Rattle.session.specs.Requests.{asks}
use Rattle.session.specs.Served.{terms_says, request_reply, make_after, break_after}
use Rattle.session.specs.Mirrors.{meaning_of, RulesNamed}
use Rattle.session.proofs.Mirrored.{stands_allowed, short_or_long, over_front}
use Rattle.session.proofs.Sides.{Turned, make_turned, break_turned}

module _ (p : PairModel) (out : List Term) (few : p.make.contacts ≤ 32) (few' : p.brk.contacts ≤ 32) (named : RulesNamed p.make) (named' : RulesNamed p.brk) where
  abbrev n : ℕ
  n = p.make.contacts

  -- once the contacts and the buffer suit, the steps decide
  card_said : (o : Outcome) → Settled n (allows p.make) (allows p.brk) o → card p ≡ o → leb 64 (length out) ≡ true → terms_says (recorded n o) out ≡ reply_on (first_no (card_questions o)) p (TERMS out)
  card_said (made ts) settled e long =
      let size : length (map (sums n) ts) ≤ 64 = omega (arith, settled.at_most_64, length-map ts (sums n)) in
      let there : ts ≡ card_terms (card p) = sym (ap card_terms e) in
      ap (λ w. accepted (terms_written (length (map (sums n) ts)) w)) (over_front (map (sums n) ts) out 64 size long)
      ∙ ap (λ us. accepted (terms_written (length (map (sums n) us)) (at_front (map (sums n) us) out))) there
  card_said (shared x) settled e long = refl
  card_said full settled e long = refl

  same_card : eqb n p.brk.contacts ≡ true → terms n (stands (meaning_of p.make).meaning) (stands (meaning_of p.brk).meaning) ≡ card p
  same_card same =
      let both : n ≡ p.brk.contacts = eqb-true n p.brk.contacts same in
      terms_alike n (stands (meaning_of p.make).meaning) (allows p.make) (stands (meaning_of p.brk).meaning) (allows p.brk)
      (stands_allowed p.make few named)
      (λ x sized. stands_allowed p.brk few' named' x (sized ∙ both))

  terms_cases : (same long : Bool) → eqb n p.brk.contacts ≡ same → leb 64 (length out) ≡ long → terms_says (cond same (cond (not long) (Err ShortBuffer) (recorded n (terms n (stands (meaning_of p.make).meaning) (stands (meaning_of p.brk).meaning)))) (Err OtherContacts)) out ≡ reply_on (first_no (is same (refused 13 0 Sheet) ∷ is long (refused 10 0 Sheet) ∷ card_questions (card p))) p (TERMS out)
  terms_cases false long e l = refl
  terms_cases true false e l = refl
  terms_cases true true e l = ap (λ o. terms_says (recorded n o) out) (same_card e) ∙ card_said (card p) (terms_law n (allows p.make) (allows p.brk)) refl l

  terms_reply : terms_says (terms_answer (meaning_of p.make) (meaning_of p.brk) (length out)) out ≡ reply_on (first_no (is (eqb n p.brk.contacts) (refused 13 0 Sheet) ∷ is (leb 64 (length out)) (refused 10 0 Sheet) ∷ card_questions (card p))) p (TERMS out)
  terms_reply =
      ap (λ short. terms_says (cond (eqb n p.brk.contacts) (cond short (Err ShortBuffer) (recorded n (terms n (stands (meaning_of p.make).meaning) (stands (meaning_of p.brk).meaning)))) (Err OtherContacts)) out) (short_or_long (length out) 64)
      ∙ terms_cases (eqb n p.brk.contacts) (leb 64 (length out)) refl refl

  -- TERMS changes nothing
  pair_kept : (due : Option Refusal) → p ≡ next_on due p (TERMS out)
  pair_kept None = refl
  pair_kept (Some f) = refl

  pub terms_turned : Turned p (TERMS out) (terms_says (terms_answer (meaning_of p.make) (meaning_of p.brk) (length out)) out) (meaning_of p.make) (meaning_of p.brk)
  terms_turned =
      let kept : p ≡ next p (TERMS out) = pair_kept (first_no (questions p (TERMS out))) in
      record {
        reply = terms_reply;
        make_means = ap (λ q. meaning_of q.make) kept;
        break_means = ap (λ q. meaning_of q.brk) kept;
        make_named = subst (λ q. RulesNamed q.make) kept named;
        break_named = subst (λ q. RulesNamed q.brk) kept named';
      }

-- whatever the request is
pub request_turned : (p : PairModel) (q : Request) → p.make.contacts ≤ 32 → p.brk.contacts ≤ 32 → RulesNamed p.make → RulesNamed p.brk → Turned p (asks q) (request_reply (meaning_of p.make) (meaning_of p.brk) q) (make_after (meaning_of p.make) q) (break_after (meaning_of p.brk) q)
request_turned p (OnSheet Make c) few few' named named' = make_turned p c few few' named named'
request_turned p (OnSheet Break c) few few' named named' = break_turned p c few few' named named'
request_turned p (Terms v) few few' named named' = terms_turned p (vec_items v) few few' named named'
