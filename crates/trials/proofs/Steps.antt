-- What an answer of ASSUME makes of a trial.
use Rattle.std.proofs.Common.{◌≡◌, ℕ, Bool, true, false, cond, ltb, List, ◌∷◌, ℤ, is_some, Some, None, Ok, Err, Option, Result, sym, refl, ap, ◌∙◌}
use Rattle.std.specs.Option.{option_map, ok_or}
use Rattle.std.proofs.lemmas.Bool.{false≢true}
use Rattle.faults.specs.declared.SheetFault.{SheetFault}
use Rattle.faults.specs.declared.SheetFault.TheVariants.{ShortBuffer, NoneAllowed}
use Rattle.settings.specs.Settings.{literals}
use Rattle.settings.specs.Least.{least}
use Rattle.laws.specs.Laws.{Earliest}
use Rattle.laws.proofs.Least.{least_law}
use Rattle.laws.proofs.Literals.{length_literals}
use Rattle.solver.specs.Meaning.{stands_with}
use Rattle.sheets.specs.declared.Ticket.{Ticket}
use Rattle.sheets.specs.Sheets.{SheetMeaning, held_literals, assume_fault, next_ticket, assume_answer, with_held, after_assume, held_at}
use Rattle.sheets.specs.Answers.{least_answer, told, counted}
use Rattle.trials.specs.Trials.{unless_refused, kept_if_refused, answer_under, given_back, after_trial}
use Rattle.trials.proofs.Released.{still_held}

refused_is : (p : SheetMeaning) (o : Option SheetFault) (f : SheetFault) → Err f ≡ assume_answer p o → o ≡ Some f
refused_is p None f e = absurd (let z : ◌≡◌ {A = Bool} false true = cc in false≢true z)
refused_is p (Some k) f e = cc

pub accepted_is : (p : SheetMeaning) (o : Option SheetFault) (t : Ticket) → Ok t ≡ assume_answer p o → (o ≡ None) × (t ≡ next_ticket p)
accepted_is p None t e = (refl, cc)
accepted_is p (Some f) t e = absurd (let z : ◌≡◌ {A = Bool} false true = cc in false≢true z)

module _ (p : SheetMeaning) (l : ℤ) (ls : List ℤ) where
  pub refused_answer : (question : SheetMeaning → Result (List ℤ) SheetFault) (f : SheetFault) → Err f ≡ assume_answer p (assume_fault p l) → answer_under question p (l ∷ ls) ≡ Err f
  refused_answer question f e = ap (λ o. unless_refused o (answer_under question (with_held p l) ls)) (refused_is p (assume_fault p l) f e)

  pub refused_kept : (q : SheetMeaning) (f : SheetFault) → Err f ≡ assume_answer p (assume_fault p l) → q ≡ after_assume p l (assume_fault p l) → q ≡ after_trial p (l ∷ ls)
  refused_kept q f e held =
      let is = refused_is p (assume_fault p l) f e in
      held ∙ ap (after_assume p l) is ∙ sym (ap (λ o. kept_if_refused o p (given_back (next_ticket p) (after_trial (with_held p l) ls))) is)

  pub ticket_good : (q r : SheetMeaning) (t : Ticket) → Ok t ≡ assume_answer p (assume_fault p l) → q ≡ after_assume p l (assume_fault p l) → r ≡ after_trial q ls → is_some (held_at r t) ≡ true
  ticket_good q r t answer held after =
      let a = accepted_is p (assume_fault p l) t answer in
      let while_held : q ≡ with_held p l = held ∙ ap (after_assume p l) a.0 in
      let then : r ≡ after_trial (with_held p l) ls = after ∙ ap (λ m. after_trial m ls) while_held in
      ap (λ m. is_some (held_at m t)) then ∙ ap (λ k. is_some (held_at (after_trial (with_held p l) ls) k)) a.1 ∙ still_held p l ls

module _ (p : SheetMeaning) (size : ℕ) where
  abbrev test : List Bool → Bool
  test = stands_with p.meaning (held_literals p.held)

  -- LEAST writes as many literals as there are contacts
  pub least_counted : Ok tt ≡ told (least_answer p size) → Ok p.meaning.contacts ≡ counted (least_answer p size)
  least_counted = go (ltb size p.meaning.contacts) (least p.meaning.contacts test) (least_law p.meaning.contacts test) where
    go : (b : Bool) (o : Option (List Bool)) → Earliest p.meaning.contacts test o → Ok tt ≡ told (cond b (Err ShortBuffer) (ok_or (option_map (literals 0) o) NoneAllowed)) → Ok p.meaning.contacts ≡ counted (cond b (Err ShortBuffer) (ok_or (option_map (literals 0) o) NoneAllowed))
    go true o law e = absurd (let z : ◌≡◌ {A = Bool} false true = cc in false≢true z)
    go false None law e = absurd (let z : ◌≡◌ {A = Bool} false true = cc in false≢true z)
    go false (Some x) law e = ap Ok (sym (length_literals 0 x ∙ law.sized))
