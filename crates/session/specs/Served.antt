-- What a request is answered and leaves, from the definitions of the sheets' own calls.
use Rattle.std.specs.Prelude.{List, length, ℤ, Ok, Err, vec_items, Result}
use Rattle.faults.specs.declared.SheetFault.{SheetFault}
use Rattle.faults.specs.Refusals.{sheet_refusal}
use Rattle.settings.specs.declared.Term.{Term}
use Rattle.sheets.specs.declared.Ticket.{Ticket}
use Rattle.sheets.specs.declared.Unreleased.{Unreleased}
use Rattle.sheets.specs.Sheets.{SheetMeaning, rule_answer, after_rule, assume_fault, assume_answer, after_assume, held_at, release_answer, after_release}
use Rattle.sheets.specs.Answers.{least_answer, why_answer, over}
use Rattle.model.specs.Calls.{done, issued, least_written, reason_written, terms_written, nothing, same_ticket, same_literals, same_terms, Reply, accepted, denied}
use Rattle.terms.specs.Answers.{terms_answer}
use Rattle.model.specs.declared.Side.TheVariants.{Make, Break}
use Rattle.session.specs.declared.request.SheetCall.{SheetCall}
use Rattle.session.specs.declared.request.SheetCall.TheVariants.{Rule, Assume, Release, Least, Why}
use Rattle.session.specs.declared.request.Request.{Request}
use Rattle.session.specs.declared.request.Request.TheVariants.{Sheet, Terms}

abbrev pub rule_says : Result (Unit {0}) SheetFault → Reply
rule_says (Ok u) = accepted done
rule_says (Err f) = denied (sheet_refusal f) nothing

abbrev pub assume_says : Result Ticket SheetFault → Reply
assume_says (Ok t) = accepted (issued t)
assume_says (Err f) = denied (sheet_refusal f) nothing

abbrev pub release_says : Result (Unit {0}) Unreleased → Reply
release_says (Ok u) = accepted done
release_says (Err x) = denied (sheet_refusal x.fault) (same_ticket x.ticket)

abbrev pub least_says : Result (List ℤ) SheetFault → List ℤ → Reply
least_says (Ok ls) out = accepted (least_written (over ls out))
least_says (Err f) out = denied (sheet_refusal f) (same_literals out)

abbrev pub why_says : Result (List ℤ) SheetFault → List ℤ → Reply
why_says (Ok ls) out = accepted (reason_written (length ls) (over ls out))
why_says (Err f) out = denied (sheet_refusal f) (same_literals out)

abbrev pub terms_says : Result (List Term) SheetFault → List Term → Reply
terms_says (Ok ts) out = accepted (terms_written (length ts) (over ts out))
terms_says (Err f) out = denied (sheet_refusal f) (same_terms out)

abbrev pub call_reply : SheetMeaning → SheetCall → Reply
call_reply m (Rule v) = rule_says (rule_answer m (vec_items v))
call_reply m (Assume l) = assume_says (assume_answer m (assume_fault m l))
call_reply m (Release t) = release_says (release_answer (held_at m t) t)
call_reply m (Least v) = least_says (least_answer m (length (vec_items v))) (vec_items v)
call_reply m (Why v) = why_says (why_answer m (length (vec_items v))) (vec_items v)

abbrev pub call_next : SheetMeaning → SheetCall → SheetMeaning
call_next m (Rule v) = after_rule m (vec_items v)
call_next m (Assume l) = after_assume m l (assume_fault m l)
call_next m (Release t) = after_release m (held_at m t)
call_next m (Least v) = m
call_next m (Why v) = m

-- the same of a request on a pair, MAKE first
abbrev pub request_reply : SheetMeaning → SheetMeaning → Request → Reply
request_reply m b (Sheet Make c) = call_reply m c
request_reply m b (Sheet Break c) = call_reply b c
request_reply m b (Terms v) = terms_says (terms_answer m b (length (vec_items v))) (vec_items v)

abbrev pub make_after : SheetMeaning → Request → SheetMeaning
make_after m (Sheet Make c) = call_next m c
make_after m (Sheet Break c) = m
make_after m (Terms v) = m

abbrev pub break_after : SheetMeaning → Request → SheetMeaning
break_after b (Sheet Make c) = b
break_after b (Sheet Break c) = call_next b c
break_after b (Terms v) = b
