-- A sheet answers a call, and is left by it, as the model that describes it.
use Rattle.std.proofs.Common.{◌≡◌, ℕ, suc, ◌+◌, ◌≤◌, Bool, true, false, cond, not, ◌&&◌, ◌||◌, eqb, ltb, leb, List, [], ◌∷◌, ◌++◌, map, length, ℤ, is_some, Some, None, Err, Option, unwrap_or, sym, refl, ap, ◌∙◌, subst, ap₂, arith}
use lib.Dec.{leb-suc-suc}
use Rattle.std.specs.Option.{option_map, ok_or}
use Rattle.std.specs.List.{remove, AllByRecursion as All}
use Rattle.std.proofs.lemmas.List.{length-map, map-append}
use Rattle.std.proofs.ByRecursion.{All-push}
use Rattle.std.proofs.lemmas.Bool.{cond-true, leb-true, leb-false, le-leb, le-ltb, lt-ltb}
use Rattle.faults.specs.declared.SheetFault.{SheetFault}
use Rattle.faults.specs.declared.SheetFault.TheVariants.{Solver as InSolver, TooManyHeld, TooManyTickets, ShortBuffer, NoneAllowed, SomeAllowed}
use Rattle.faults.specs.declared.SolverFault.{SolverFault}
use Rattle.faults.specs.declared.SolverFault.TheVariants.{BadLiteral, TooManyRules}
use Rattle.faults.specs.declared.Refusal.{Refusal}
use Rattle.faults.specs.Refusals.{refused}
use Rattle.faults.specs.declared.Layer.TheVariants.{Solver, Sheet}
use Rattle.literals.specs.declared.LiteralSet.{LiteralSet}
use Rattle.literals.specs.Literals.{names, first_unnamed, set_of}
use Rattle.literals.proofs.Booleans.{and_true}
use Rattle.settings.specs.Settings.{fits, literals, all_met}
use Rattle.settings.specs.Least.{least}
use Rattle.laws.specs.Choices.{why, chosen}
use Rattle.laws.proofs.Least.{least_alike, least_is}
use Rattle.laws.proofs.Literals.{length_literals}
use Rattle.laws.proofs.Named.{Named, sets_met}
use Rattle.laws.proofs.Trim.{length_chosen}
use Rattle.laws.proofs.Why.{why_alike, why_none, why_greedy}
use Rattle.solver.specs.Meaning.{stands, stands_with, full_fault, appended}
use Rattle.tables.specs.Tables.{without}
use Rattle.sheets.specs.declared.Held.{Held}
use Rattle.sheets.specs.declared.Ticket.{Ticket}
use Rattle.sheets.specs.Sheets.{SheetMeaning, held_literals, rule_answer, ruled, after_rule, assume_fault, assume_answer, after_assume, numbered_at, held_at, release_answer, after_release}
use Rattle.sheets.specs.Answers.{over, least_answer, why_answer}
use Rattle.model.specs.declared.Side.{Side}
use Rattle.model.specs.declared.Side.TheVariants.{Make, Break}
use Rattle.model.specs.Model.{SheetModel, PairModel, on, put_on, allows, earliest, reason, with_rule, with_held}
use Rattle.model.specs.Calls.{Call, RULE, ASSUME, RELEASE, LEAST, WHY, Reply, accepted, first_no, questions, holds, struck, next_on, reply_on, is, at_front, least_written, reason_written}
use Rattle.session.specs.Served.{rule_says, assume_says, release_says, least_says, why_says}
use Rattle.session.specs.Mirrors.{meaning_of, RulesNamed}

pub on_put : (p : PairModel) (side : Side) (s : SheetModel) → on (put_on p side s) side ≡ s
on_put p Make s = refl
on_put p Break s = refl

-- the reply and the sheet after a call are the model's, where this refusal or none is due
pub record FollowedBy (due : Option Refusal) (p : PairModel) (side : Side) (c : Call) (r : Reply) (m : SheetMeaning) : Type 0 where
  pub reply : r ≡ reply_on due p c
  pub means : m ≡ meaning_of (on (next_on due p c) side)
  pub named : RulesNamed (on (next_on due p c) side)

abbrev pub Followed : PairModel → Side → Call → Reply → SheetMeaning → Type 0
Followed p side c r m = FollowedBy (first_no (questions p c)) p side c r m

-- RULE: the literals, then the room
module _ (p : PairModel) (side : Side) (ls : List ℤ) (given : RulesNamed (on p side)) where
  abbrev with_added : List LiteralSet → SheetMeaning
  with_added added = record { meaning = record { contacts = (on p side).contacts; base = (on p side).new; added = added; bars = [] }; label = (on p side).label; held = (on p side).held; count = (on p side).count }

  abbrev rule_fault : Option ℕ → Bool → Option SolverFault
  rule_fault (Some place) room = Some (BadLiteral place)
  rule_fault None room = cond room None (Some TooManyRules)

  abbrev RuleFollowed : Option SolverFault → Option ℕ → Bool → Type 0
  RuleFollowed f o room =
      FollowedBy (first_no (is (not (is_some o)) (refused 5 (unwrap_or o 0) Solver) ∷ is room (refused 6 0 Solver) ∷ [])) p side (RULE side ls) (rule_says (ruled f)) (with_added (appended f (map set_of (on p side).rules) ls))

  rule_cases : (o : Option ℕ) (room : Bool) → first_unnamed (on p side).contacts ls ≡ o → RuleFollowed (rule_fault o room) o room
  rule_cases (Some place) room e = record { reply = refl; means = refl; named = given }
  rule_cases None false e = record { reply = refl; means = refl; named = given }
  rule_cases None true e =
      let there = on_put p side (with_rule (on p side) ls) in
      record {
        reply = refl;
        means = ap with_added (sym (map-append set_of (on p side).rules (ls ∷ []))) ∙ ap meaning_of (sym there);
        named = subst RulesNamed (sym there) (All-push (λ r. first_unnamed (on p side).contacts r ≡ None) (on p side).rules ls given e);
      }

  same_fault : (o : Option ℕ) (held : List LiteralSet) (k : ℕ) → length held ≡ k → full_fault (elim o [ None ↦ None | Some place ↦ Some (BadLiteral place) ]) held TooManyRules ≡ rule_fault o (ltb k 64)
  same_fault (Some place) held k e = refl
  same_fault None held k e = ap (λ j. cond (ltb j 64) None (Some TooManyRules)) e

  pub rule_followed : Followed p side (RULE side ls) (rule_says (rule_answer (meaning_of (on p side)) ls)) (after_rule (meaning_of (on p side)) ls)
  rule_followed =
      let unnamed : Option ℕ = first_unnamed (on p side).contacts ls in
      let room : Bool = ltb (length (on p side).rules) 64 in
      let fault = same_fault unnamed (map set_of (on p side).rules) (length (on p side).rules) (length-map (on p side).rules set_of) in
      subst (λ f. RuleFollowed f unnamed room) (sym fault) (rule_cases unnamed room refl)

-- ASSUME: the literal, the room, the tickets left
module _ (p : PairModel) (side : Side) (l : ℤ) (given : RulesNamed (on p side)) where
  assume_cases : (named room left : Bool) → (let fault : Option SheetFault = cond named (cond room (cond left None (Some TooManyTickets)) (Some TooManyHeld)) (Some (InSolver (BadLiteral 0))) in let o : Option ℕ = cond named None (Some 0) in FollowedBy (first_no (is (not (is_some o)) (refused 5 (unwrap_or o 0) Solver) ∷ is room (refused 7 0 Sheet) ∷ is left (refused 8 0 Sheet) ∷ [])) p side (ASSUME side l) (assume_says (assume_answer (meaning_of (on p side)) fault)) (after_assume (meaning_of (on p side)) l fault))
  assume_cases false room left = record { reply = refl; means = refl; named = given }
  assume_cases true false left = record { reply = refl; means = refl; named = given }
  assume_cases true true false = record { reply = refl; means = refl; named = given }
  assume_cases true true true =
      let there = on_put p side (with_held (on p side) ((on p side).held ++ record { literal = l; number = (on p side).count + 1 } ∷ []) ((on p side).count + 1)) in
      record { reply = refl; means = ap meaning_of (sym there); named = subst RulesNamed (sym there) given }

  pub assume_followed : Followed p side (ASSUME side l) (assume_says (assume_answer (meaning_of (on p side)) (assume_fault (meaning_of (on p side)) l))) (after_assume (meaning_of (on p side)) l (assume_fault (meaning_of (on p side)) l))
  assume_followed = assume_cases (names (on p side).contacts l) (ltb (length (on p side).held) 32) (ltb (on p side).count 65535)

-- RELEASE: the entry with the ticket's number, if the label is the sheet's
some_mapped : (o : Option ℕ) → is_some (option_map suc o) ≡ is_some o
some_mapped None = refl
some_mapped (Some k) = refl

holds_numbered : (k : ℕ) (hs : List Held) → holds k hs ≡ is_some (numbered_at k hs)
holds_numbered k [] = refl
holds_numbered k (h ∷ hs) = by (eqb h.number k) (holds_numbered k hs ∙ sym (some_mapped (numbered_at k hs))) where
  by : (b : Bool) → holds k hs ≡ is_some (option_map suc (numbered_at k hs)) → (b || holds k hs) ≡ is_some (cond b (Some 0) (option_map suc (numbered_at k hs)))
  by true later = refl
  by false later = later

without_cons : (h : Held) (hs : List Held) (i : ℕ) → without (h ∷ hs) (suc i) ≡ h ∷ without hs i
without_cons h hs i = ap (λ c. cond c (h ∷ remove hs i) (h ∷ hs)) (leb-suc-suc (suc i) (length hs)) ∙ by (ltb i (length hs)) where
  by : (b : Bool) → cond b (h ∷ remove hs i) (h ∷ hs) ≡ h ∷ cond b (remove hs i) hs
  by true = refl
  by false = refl

numbered_struck : (k : ℕ) (hs : List Held) (i : ℕ) → numbered_at k hs ≡ Some i → without hs i ≡ struck k hs
numbered_struck k [] i e = let z : ◌≡◌ {A = ℕ} 0 1 = cc in absurd (omega arith)
numbered_struck k (h ∷ hs) i e = by (eqb h.number k) (numbered_at k hs) (λ j. numbered_struck k hs j) e where
  by : (b : Bool) (o : Option ℕ) → ((j : ℕ) → o ≡ Some j → without hs j ≡ struck k hs) → cond b (Some 0) (option_map suc o) ≡ Some i → without (h ∷ hs) i ≡ cond b hs (h ∷ struck k hs)
  by true o later e = let z : i ≡ 0 = cc in ap (without (h ∷ hs)) z ∙ cond-true _ _ _ (lt-ltb 0 (suc (length hs)) (omega arith))
  by false None later e = let z : ◌≡◌ {A = ℕ} 0 1 = cc in absurd (omega arith)
  by false (Some j) later e = let z : i ≡ suc j = cc in ap (without (h ∷ hs)) z ∙ without_cons h hs j ∙ ap (λ r. h ∷ r) (later j refl)

module _ (p : PairModel) (side : Side) (t : Ticket) (given : RulesNamed (on p side)) where
  release_cases : (same : Bool) (o : Option ℕ) → numbered_at t.number (on p side).held ≡ o → FollowedBy (first_no (is (same && is_some o) (refused 9 0 Sheet) ∷ [])) p side (RELEASE side t) (release_says (release_answer (cond same o None) t)) (after_release (meaning_of (on p side)) (cond same o None))
  release_cases false o e = record { reply = refl; means = refl; named = given }
  release_cases true None e = record { reply = refl; means = refl; named = given }
  release_cases true (Some place) e =
      let there = on_put p side (with_held (on p side) (struck t.number (on p side).held) (on p side).count) in
      let left = numbered_struck t.number (on p side).held place e in
      record {
        reply = refl;
        means = ap (λ hs. meaning_of (with_held (on p side) hs (on p side).count)) left ∙ ap meaning_of (sym there);
        named = subst RulesNamed (sym there) given;
      }

  pub release_followed : Followed p side (RELEASE side t) (release_says (release_answer (held_at (meaning_of (on p side)) t) t)) (after_release (meaning_of (on p side)) (held_at (meaning_of (on p side)) t))
  release_followed =
      let same : Bool = eqb t.label (on p side).label in
      subst (λ h. FollowedBy (first_no (is (same && h) (refused 9 0 Sheet) ∷ [])) p side (RELEASE side t) (release_says (release_answer (held_at (meaning_of (on p side)) t) t)) (after_release (meaning_of (on p side)) (held_at (meaning_of (on p side)) t)))
      (sym (holds_numbered t.number (on p side).held))
      (release_cases same (numbered_at t.number (on p side).held) refl)

-- the settings that stand are those that the model allows
pub stands_allowed : (s : SheetModel) → s.contacts ≤ 32 → RulesNamed s → (x : List Bool) → length x ≡ s.contacts → stands (meaning_of s).meaning x ≡ allows s x
stands_allowed s few named x sized =
    let mine : All (Named (length x)) s.rules = subst (λ k. All (Named k) s.rules) (sym sized) named in
    ap (λ v. s.new x && v) (and_true (all_met (map set_of s.rules) x) ∙ sets_met s.rules x (omega arith) mine)

pub short_or_long : (a b : ℕ) → ltb a b ≡ not (leb b a)
short_or_long a b = by (leb b a) refl where
  by : (v : Bool) → leb b a ≡ v → ltb a b ≡ not v
  by true e = le-ltb a b (leb-true b a e)
  by false e = lt-ltb a b (leb-false b a e)

-- what is written has room in a buffer that is long enough
pub over_front : {A : Type 0} (ls out : List A) (n : ℕ) → length ls ≤ n → leb n (length out) ≡ true → over ls out ≡ at_front ls out
over_front ls out n few long = let fits : length ls ≤ length out = omega (arith, leb-true n (length out) long) in cond-true _ _ _ (le-leb _ _ fits)

module _ (p : PairModel) (side : Side) (out : List ℤ) (few : (on p side).contacts ≤ 32) (given : RulesNamed (on p side)) where
  abbrev s : SheetModel
  s = on p side

  abbrev held : List ℤ
  held = held_literals s.held

  -- LEAST: the buffer, then a setting
  least_cases : (long : Bool) (o : Option (List Bool)) → leb s.contacts (length out) ≡ long → earliest s ≡ o → FollowedBy (first_no (is long (refused 10 0 Sheet) ∷ is (is_some o) (refused 11 0 Sheet) ∷ [])) p side (LEAST side out) (least_says (cond (not long) (Err ShortBuffer) (ok_or (option_map (literals 0) o) NoneAllowed)) out) (meaning_of s)
  least_cases false o l e = record { reply = refl; means = refl; named = given }
  least_cases true None l e = record { reply = refl; means = refl; named = given }
  least_cases true (Some x) l e =
      let sized = (least_is s.contacts (λ y. allows s y && fits held y) x e).sized in
      let written = over_front (literals 0 x) out s.contacts (omega (arith, length_literals 0 x)) l in
      record {
        reply = ap (λ w. accepted (least_written w)) (written ∙ ap (λ y. at_front (literals 0 (unwrap_or y [])) out) (sym e));
        means = refl;
        named = given;
      }

  pub least_followed : Followed p side (LEAST side out) (least_says (least_answer (meaning_of s) (length out)) out) (meaning_of s)
  least_followed =
      let same : least s.contacts (stands_with (meaning_of s).meaning held) ≡ earliest s =
      least_alike s.contacts (stands_with (meaning_of s).meaning held) (λ x. allows s x && fits held x) (λ x sized. ap (λ v. v && fits held x) (stands_allowed s few given x sized)) in
      let answer : least_answer (meaning_of s) (length out) ≡ cond (not (leb s.contacts (length out))) (Err ShortBuffer) (ok_or (option_map (literals 0) (earliest s)) NoneAllowed) =
      ap₂ (λ short o. cond short (Err ShortBuffer) (ok_or (option_map (literals 0) o) NoneAllowed)) (short_or_long (length out) s.contacts) same in
      subst (λ a. Followed p side (LEAST side out) (least_says a out) (meaning_of s)) (sym answer) (least_cases (leb s.contacts (length out)) (earliest s) refl refl)

  -- WHY: the buffer, then that nothing is allowed
  why_cases : (long blocked : Bool) → leb (length s.held) (length out) ≡ long → not (is_some (earliest s)) ≡ blocked → FollowedBy (first_no (is long (refused 10 0 Sheet) ∷ is blocked (refused 12 0 Sheet) ∷ [])) p side (WHY side out) (why_says (cond (not long) (Err ShortBuffer) (ok_or (option_map (λ c. chosen c held) (reason s)) SomeAllowed)) out) (meaning_of s)
  why_cases false blocked l e = record { reply = refl; means = refl; named = given }
  why_cases true false l e =
      record { reply = ap (λ o. why_says (ok_or (option_map (λ c. chosen c held) o) SomeAllowed) out) (why_none s.contacts (allows s) held e); means = refl; named = given }
  why_cases true true l e =
      let found = why_greedy s.contacts (allows s) held e in
      record { reply = by (reason s) found; means = refl; named = given }
    where
      by : {c : List Bool} (o : Option (List Bool)) → o ≡ Some c → why_says (ok_or (option_map (λ c. chosen c held) o) SomeAllowed) out ≡ accepted (reason_written (length (chosen (unwrap_or o []) held)) (at_front (chosen (unwrap_or o []) held) out))
      by None f = let z : ◌≡◌ {A = ℕ} 0 1 = cc in absurd (omega arith)
      by (Some c) f = ap (λ w. accepted (reason_written (length (chosen c held)) w)) (over_front (chosen c held) out (length s.held) (omega (arith, length_chosen c held, length-map s.held (λ h. h.literal))) l)

  pub why_followed : Followed p side (WHY side out) (why_says (why_answer (meaning_of s) (length out)) out) (meaning_of s)
  why_followed =
      let same : why s.contacts (stands (meaning_of s).meaning) held ≡ reason s = why_alike s.contacts (stands (meaning_of s).meaning) (allows s) (stands_allowed s few given) held in
      let answer : why_answer (meaning_of s) (length out) ≡ cond (not (leb (length s.held) (length out))) (Err ShortBuffer) (ok_or (option_map (λ c. chosen c held) (reason s)) SomeAllowed) =
      ap₂ (λ short o. cond short (Err ShortBuffer) (ok_or (option_map (λ c. chosen c held) o) SomeAllowed)) (short_or_long (length out) (length s.held)) same in
      subst (λ a. Followed p side (WHY side out) (why_says a out) (meaning_of s)) (sym answer) (why_cases (leb (length s.held) (length out)) (not (is_some (earliest s))) refl refl)
