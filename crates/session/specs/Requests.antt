-- What requests ask and what responses say, in the words of the reference model.
use Rattle.std.specs.Prelude.{List, [], ◌∷◌, Ok, Err, vec_items, Result}
use Rattle.faults.specs.Refusals.{sheet_refusal}
use Rattle.model.specs.declared.Side.{Side}
use Rattle.model.specs.Calls.{Call, RULE, ASSUME, RELEASE, LEAST, WHY, TERMS, Answer as Said, done, issued, least_written, reason_written, terms_written, Returned as Brought, nothing, same_ticket, same_literals, same_terms, Reply, accepted, denied}
use Rattle.model.specs.Guarantee.{Event}
use Rattle.session.specs.declared.request.SheetCall.{SheetCall}
use Rattle.session.specs.declared.request.SheetCall.TheVariants.{Rule, Assume, Release, Least as LeastInto, Why as WhyInto}
use Rattle.session.specs.declared.request.Request.{Request}
use Rattle.session.specs.declared.request.Request.TheVariants.{Sheet, Terms as TermsInto}
use Rattle.session.specs.declared.request.Answer.{Answer}
use Rattle.session.specs.declared.request.Answer.TheVariants.{Done, Issued, Least, Why, Terms}
use Rattle.session.specs.declared.request.Returned.{Returned}
use Rattle.session.specs.declared.request.Returned.TheVariants.{Nothing, Ticket, Literals, Terms as Records}
use Rattle.session.specs.declared.request.Refused.{Refused}

-- the call that a request makes
abbrev pub asks_on : Side → SheetCall → Call
asks_on side (Rule v) = RULE side (vec_items v)
asks_on side (Assume l) = ASSUME side l
asks_on side (Release t) = RELEASE side t
asks_on side (LeastInto v) = LEAST side (vec_items v)
asks_on side (WhyInto v) = WHY side (vec_items v)

abbrev pub asks : Request → Call
asks (Sheet side c) = asks_on side c
asks (TermsInto v) = TERMS (vec_items v)

-- what a response says: a fault by its number, place and layer, buffers by what they hold
abbrev pub answer_says : Answer → Said
answer_says Done = done
answer_says (Issued t) = issued t
answer_says (Least v) = least_written (vec_items v)
answer_says (Why size v) = reason_written size (vec_items v)
answer_says (Terms count v) = terms_written count (vec_items v)

abbrev pub hands_back : Returned → Brought
hands_back Nothing = nothing
hands_back (Ticket t) = same_ticket t
hands_back (Literals v) = same_literals (vec_items v)
hands_back (Records v) = same_terms (vec_items v)

abbrev pub says : Result Answer Refused → Reply
says (Ok a) = accepted (answer_says a)
says (Err r) = denied (sheet_refusal r.fault) (hands_back r.returned)

-- a request with its response; several, one after the other
abbrev pub event : Request → Result Answer Refused → Event
event q r = record { call = asks q; reply = says r }

abbrev pub events : List Request → List (Result Answer Refused) → List Event
events [] rs = []
events (q ∷ qs) [] = []
events (q ∷ qs) (r ∷ rs) = event q r ∷ events qs rs
