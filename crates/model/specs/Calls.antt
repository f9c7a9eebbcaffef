-- What the reference model answers to the six calls. It is fed the calls alone, and never an answer.
use Rattle.std.specs.Prelude.{ℕ, ◌+◌, Bool, false, cond, not, ◌&&◌, ◌||◌, List, [], ◌∷◌, ◌++◌, map, length, drop, ℤ, is_some, Some, None, Option, ◌==◌, nat_le, nat_lt}
use Rattle.std.specs.Option.{unwrap_or}
use Rattle.faults.specs.declared.Refusal.{Refusal}
use Rattle.faults.specs.declared.Layer.TheVariants.{Solver, Sheet}
use Rattle.faults.specs.Refusals.{refused}
use Rattle.literals.specs.Literals.{first_unnamed}
use Rattle.settings.specs.declared.Term.{Term}
use Rattle.settings.specs.Settings.{number, literals}
use Rattle.settings.specs.TermRecords.{sums}
use Rattle.laws.specs.Choices.{chosen}
use Rattle.laws.specs.Terms.{Outcome, made, shared, full}
use Rattle.sheets.specs.declared.Held.{Held}
use Rattle.sheets.specs.declared.Ticket.{Ticket}
use Rattle.sheets.specs.Sheets.{held_literals}
use Rattle.model.specs.declared.Side.{Side}
use Rattle.model.specs.Model.{SheetModel, PairModel, on, put_on, earliest, reason, card, with_rule, with_held}

-- a call brings literals, a buffer of its own or any ticket, and names its sheet; TERMS is put to both
pub data Call : Type 0 where
  RULE : Side → List ℤ → Call
  ASSUME : Side → ℤ → Call
  RELEASE : Side → Ticket → Call
  LEAST : Side → List ℤ → Call
  WHY : Side → List ℤ → Call
  TERMS : List Term → Call

-- what an accepted call answers: that it is done, a ticket, or its buffer afterwards, with the size of WHY's choice and the count of the terms
pub data Answer : Type 0 where
  done : Answer
  issued : Ticket → Answer
  least_written : List ℤ → Answer
  reason_written : ℕ → List ℤ → Answer
  terms_written : ℕ → List Term → Answer

-- what comes back of a refused call: the ticket or the buffer that it brought
pub data Returned : Type 0 where
  nothing : Returned
  same_ticket : Ticket → Returned
  same_literals : List ℤ → Returned
  same_terms : List Term → Returned

pub data Reply : Type 0 where
  accepted : Answer → Reply
  denied : Refusal → Returned → Reply

-- a question, and the refusal that is due when its answer is no
pub record Question : Type 0 where
  pub so : Bool
  pub otherwise : Refusal

abbrev pub is : Bool → Refusal → Question
is b refusal = record { so = b; otherwise = refusal }

-- questions are put in order, and the first no is the refusal
abbrev pub first_no : List Question → Option Refusal
first_no [] = None
first_no (q ∷ qs) = cond q.so (first_no qs) (Some q.otherwise)

-- does each literal name a contact?
abbrev pub all_named : ℕ → List ℤ → Question
all_named n ls = is (not (is_some (first_unnamed n ls))) (refused 5 (unwrap_or (first_unnamed n ls) 0) Solver)

-- is an assumption with that number held?
abbrev pub holds : ℕ → List Held → Bool
holds number [] = false
holds number (h ∷ hs) = h.number == number || holds number hs

-- is each picked setting outside BREAK? do fewer than 64 terms stand when one more is wanted?
abbrev pub card_questions : Outcome → List Question
card_questions (made ts) = []
card_questions (shared x) = is false (refused 14 (number x) Sheet) ∷ []
card_questions full = is false (refused 15 0 Sheet) ∷ []

abbrev pub questions : PairModel → Call → List Question
questions p (RULE side ls) = all_named (on p side).contacts ls ∷ is (nat_lt (length (on p side).rules) 64) (refused 6 0 Solver) ∷ []
questions p (ASSUME side l) =
    all_named (on p side).contacts (l ∷ []) ∷ is (nat_lt (length (on p side).held) 32) (refused 7 0 Sheet) ∷ is (nat_lt (on p side).count 65535) (refused 8 0 Sheet) ∷ []
questions p (RELEASE side t) = is (t.label == (on p side).label && holds t.number (on p side).held) (refused 9 0 Sheet) ∷ []
questions p (LEAST side out) = is (nat_le (on p side).contacts (length out)) (refused 10 0 Sheet) ∷ is (is_some (earliest (on p side))) (refused 11 0 Sheet) ∷ []
questions p (WHY side out) = is (nat_le (length (on p side).held) (length out)) (refused 10 0 Sheet) ∷ is (not (is_some (earliest (on p side)))) (refused 12 0 Sheet) ∷ []
questions p (TERMS out) = is (p.make.contacts == p.brk.contacts) (refused 13 0 Sheet) ∷ is (nat_le 64 (length out)) (refused 10 0 Sheet) ∷ card_questions (card p)

-- a list at the front of a buffer, and what stood behind it
abbrev pub at_front : {A : Type 0} → List A → List A → List A
at_front xs out = xs ++ drop (length xs) out

-- the literals of LEAST's setting; the assumptions that WHY chooses, in held order; the records of the terms, in the order made
abbrev pub earliest_literals : SheetModel → List ℤ
earliest_literals s = literals 0 (unwrap_or (earliest s) [])

abbrev pub reason_literals : SheetModel → List ℤ
reason_literals s = chosen (unwrap_or (reason s) []) (held_literals s.held)

abbrev pub card_terms : Outcome → List (List ℤ)
card_terms (made ts) = ts
card_terms (shared x) = []
card_terms full = []

abbrev pub card_records : PairModel → List Term
card_records p = map (sums p.make.contacts) (card_terms (card p))

-- the ticket has the label and the next issue number, from 1
abbrev pub next_ticket : SheetModel → Ticket
next_ticket s = record { label = s.label; number = s.count + 1 }

-- what each call answers when it is accepted
abbrev pub granted : PairModel → Call → Answer
granted p (RULE side ls) = done
granted p (ASSUME side l) = issued (next_ticket (on p side))
granted p (RELEASE side t) = done
granted p (LEAST side out) = least_written (at_front (earliest_literals (on p side)) out)
granted p (WHY side out) = reason_written (length (reason_literals (on p side))) (at_front (reason_literals (on p side)) out)
granted p (TERMS out) = terms_written (length (card_records p)) (at_front (card_records p) out)

-- and what it gives back when it is refused, as it was brought
abbrev pub returned : Call → Returned
returned (RULE side ls) = nothing
returned (ASSUME side l) = nothing
returned (RELEASE side t) = same_ticket t
returned (LEAST side out) = same_literals out
returned (WHY side out) = same_literals out
returned (TERMS out) = same_terms out

-- the assumption with that number leaves, and the others keep their order
abbrev pub struck : ℕ → List Held → List Held
struck number [] = []
struck number (h ∷ hs) = cond (h.number == number) hs (h ∷ struck number hs)

-- the literal is placed last, with its ticket's number
abbrev pub placed : SheetModel → ℤ → List Held
placed s l = s.held ++ record { literal = l; number = s.count + 1 } ∷ []

-- the pair once a call is accepted: LEAST, WHY and TERMS change nothing
abbrev pub entered : PairModel → Call → PairModel
entered p (RULE side ls) = put_on p side (with_rule (on p side) ls)
entered p (ASSUME side l) = put_on p side (with_held (on p side) (placed (on p side) l) ((on p side).count + 1))
entered p (RELEASE side t) = put_on p side (with_held (on p side) (struck t.number (on p side).held) (on p side).count)
entered p (LEAST side out) = p
entered p (WHY side out) = p
entered p (TERMS out) = p

-- the reply to a call and the pair behind it: a refused call changes nothing
abbrev pub reply_on : Option Refusal → PairModel → Call → Reply
reply_on None p c = accepted (granted p c)
reply_on (Some f) p c = denied f (returned c)

abbrev pub next_on : Option Refusal → PairModel → Call → PairModel
next_on None p c = entered p c
next_on (Some f) p c = p

abbrev pub answered : PairModel → Call → Reply
answered p c = reply_on (first_no (questions p c)) p c

abbrev pub next : PairModel → Call → PairModel
next p c = next_on (first_no (questions p c)) p c
