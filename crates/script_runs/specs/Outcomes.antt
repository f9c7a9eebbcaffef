-- What comes of a line.
use Rattle.std.specs.Prelude.{ℕ, List, ℤ, vec_items}
use Rattle.faults.specs.declared.Refusal.{Refusal}
use Rattle.settings.specs.declared.Term.{Term}
use Rattle.model.specs.Calls.{Reply, accepted, denied, done as said_done, issued as said_issued, least_written, reason_written, terms_written}
use Rattle.session.specs.declared.request.Request.{Request}
use Rattle.session.specs.declared.request.Request.TheVariants.{Sheet as OnSheet, Terms as TermsInto}
use Rattle.session.specs.declared.request.SheetCall.{SheetCall}
use Rattle.session.specs.declared.request.SheetCall.TheVariants.{Rule, Assume, Release, Least as LeastInto, Why as WhyInto}
use Rattle.script_runs.specs.declared.Outcome.{Outcome}
use Rattle.script_runs.specs.declared.Outcome.TheVariants.{Silent, Bad, NoTicket, Done, Issued, Least, Why, Terms, Written, Refused}

-- an outcome, its buffer as a list
pub data OutcomeForm : Type 0 where
  silent : OutcomeForm
  bad : OutcomeForm
  no_ticket : OutcomeForm
  done : OutcomeForm
  issued : ℕ → ℕ → OutcomeForm
  least : ℕ → List ℤ → OutcomeForm
  why : ℕ → List ℤ → OutcomeForm
  terms : ℕ → ℕ → List Term → OutcomeForm
  written : ℕ → List ℕ → OutcomeForm
  refused : Refusal → OutcomeForm

abbrev pub outcome_form : Outcome → OutcomeForm
outcome_form Silent = silent
outcome_form Bad = bad
outcome_form NoTicket = no_ticket
outcome_form Done = done
outcome_form (Issued label number) = issued label number
outcome_form (Least n v) = least n (vec_items v)
outcome_form (Why size v) = why size (vec_items v)
outcome_form (Terms n count v) = terms n count (vec_items v)
outcome_form (Written size v) = written size (vec_items v)
outcome_form (Refused f) = refused f

-- what is shown of a reply of a sheet, or of a pair, of n contacts
abbrev pub shown : ℕ → Reply → OutcomeForm
shown n (accepted said_done) = done
shown n (accepted (said_issued t)) = issued t.label t.number
shown n (accepted (least_written out)) = least n out
shown n (accepted (reason_written size out)) = why size out
shown n (accepted (terms_written count out)) = terms n count out
shown n (denied f back) = refused f

-- a request that brings no ticket and asks for none
abbrev pub TicketlessCall : SheetCall → Type 0
TicketlessCall (Rule v) = Unit {0}
TicketlessCall (Assume l) = ⊥
TicketlessCall (Release t) = ⊥
TicketlessCall (LeastInto v) = Unit {0}
TicketlessCall (WhyInto v) = Unit {0}

abbrev pub Ticketless : Request → Type 0
Ticketless (OnSheet side c) = TicketlessCall c
Ticketless (TermsInto v) = Unit {0}
