-- One request on a pair of sheets, and the model that describes the pair.
use Rattle.std.proofs.Common.{◌≡◌, ◌≤◌, Some, None, vec_items, Option, sym, refl, ap, subst}
use Rattle.faults.specs.declared.Refusal.{Refusal}
use Rattle.sheets.specs.Sheets.{SheetMeaning}
use Rattle.model.specs.declared.Side.{Side}
use Rattle.model.specs.declared.Side.TheVariants.{Make, Break}
use Rattle.model.specs.Model.{PairModel, on}
use Rattle.model.specs.Calls.{Call, Reply, first_no, questions, answered, next, next_on}
use Rattle.session.specs.declared.request.SheetCall.{SheetCall}
use Rattle.session.specs.declared.request.SheetCall.TheVariants.{Rule, Assume, Release, Least, Why}
use Rattle.session.specs.Requests.{asks_on}
use Rattle.session.specs.Served.{call_reply, call_next}
use Rattle.session.specs.Mirrors.{meaning_of, RulesNamed}
use Rattle.session.proofs.Mirrored.{Followed, rule_followed, assume_followed, release_followed, least_followed, why_followed}

-- the reply and both sheets after a call are the model's
pub record Turned (p : PairModel) (c : Call) (r : Reply) (m b : SheetMeaning) : Type 0 where
  pub reply : r ≡ answered p c
  pub make_means : m ≡ meaning_of (next p c).make
  pub break_means : b ≡ meaning_of (next p c).brk
  pub make_named : RulesNamed (next p c).make
  pub break_named : RulesNamed (next p c).brk

call_followed : (p : PairModel) (side : Side) (c : SheetCall) → (on p side).contacts ≤ 32 → RulesNamed (on p side) → Followed p side (asks_on side c) (call_reply (meaning_of (on p side)) c) (call_next (meaning_of (on p side)) c)
call_followed p side (Rule v) few named = rule_followed p side (vec_items v) named
call_followed p side (Assume l) few named = assume_followed p side l named
call_followed p side (Release t) few named = release_followed p side t named
call_followed p side (Least v) few named = least_followed p side (vec_items v) few named
call_followed p side (Why v) few named = why_followed p side (vec_items v) few named

-- a call on one sheet leaves the other as it was
break_kept : (due : Option Refusal) (p : PairModel) (c : SheetCall) → (next_on due p (asks_on Make c)).brk ≡ p.brk
break_kept (Some f) p c = refl
break_kept None p (Rule v) = refl
break_kept None p (Assume l) = refl
break_kept None p (Release t) = refl
break_kept None p (Least v) = refl
break_kept None p (Why v) = refl

make_kept : (due : Option Refusal) (p : PairModel) (c : SheetCall) → (next_on due p (asks_on Break c)).make ≡ p.make
make_kept (Some f) p c = refl
make_kept None p (Rule v) = refl
make_kept None p (Assume l) = refl
make_kept None p (Release t) = refl
make_kept None p (Least v) = refl
make_kept None p (Why v) = refl

module _ (p : PairModel) (c : SheetCall) (few : p.make.contacts ≤ 32) (few' : p.brk.contacts ≤ 32) (named : RulesNamed p.make) (named' : RulesNamed p.brk) where
  pub make_turned : Turned p (asks_on Make c) (call_reply (meaning_of p.make) c) (call_next (meaning_of p.make) c) (meaning_of p.brk)
  make_turned =
      let mine = call_followed p Make c few named in
      let other : p.brk ≡ (next p (asks_on Make c)).brk = sym (break_kept (first_no (questions p (asks_on Make c))) p c) in
      record { reply = mine.reply; make_means = mine.means; break_means = ap meaning_of other; make_named = mine.named; break_named = subst RulesNamed other named' }

  pub break_turned : Turned p (asks_on Break c) (call_reply (meaning_of p.brk) c) (meaning_of p.make) (call_next (meaning_of p.brk) c)
  break_turned =
      let mine = call_followed p Break c few' named' in
      let other : p.make ≡ (next p (asks_on Break c)).make = sym (make_kept (first_no (questions p (asks_on Break c))) p c) in
      record { reply = mine.reply; make_means = ap meaning_of other; break_means = mine.means; make_named = subst RulesNamed other named; break_named = mine.named }
