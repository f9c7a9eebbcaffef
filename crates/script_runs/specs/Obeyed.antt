-- What comes of each line, and what it leaves, from what the two sheets mean.
use Rattle.std.specs.Prelude.{◌≡◌, ℕ, Bool, cond, ◌||◌, List, length, replicate, ℤ, pos, is_some, Some, None, Option, slice_index_or}
use Rattle.std.specs.List.{remove}
use Rattle.settings.specs.declared.Term.{Term}
use Rattle.sheets.specs.declared.Ticket.{Ticket}
use Rattle.sheets.specs.Sheets.{SheetMeaning, rule_answer, after_rule, assume_fault, assume_answer, after_assume, held_at, release_answer, after_release}
use Rattle.sheets.specs.Answers.{least_answer, why_answer}
use Rattle.terms.specs.Answers.{terms_answer}
use Rattle.model.specs.declared.Side.{Side}
use Rattle.model.specs.declared.Side.TheVariants.{Make, Break}
use Rattle.model.specs.Calls.{Reply}
use Rattle.session.specs.Served.{rule_says, assume_says, release_says, least_says, why_says, terms_says}
use Rattle.scripts.specs.Forms.{Form, nothing, bad, call, terms, ActionForm, rule, assume, release, least, why, write}
use Rattle.script_runs.specs.Outcomes.{OutcomeForm, shown, silent, no_ticket, bad as shown_bad}

-- the sheet that a line names
abbrev pub sided : {A : Type 0} → Side → A → A → A
sided Make m b = m
sided Break m b = b

-- ASSUME on that sheet
abbrev pub assume_reply : SheetMeaning → ℤ → Reply
assume_reply s l = assume_says (assume_answer s (assume_fault s l))

abbrev pub make_assumed : Side → SheetMeaning → ℤ → SheetMeaning
make_assumed Make m l = after_assume m l (assume_fault m l)
make_assumed Break m l = m

abbrev pub break_assumed : Side → SheetMeaning → ℤ → SheetMeaning
break_assumed Make b l = b
break_assumed Break b l = after_assume b l (assume_fault b l)

-- RELEASE on that sheet
abbrev pub release_reply : SheetMeaning → Ticket → Reply
release_reply s t = release_says (release_answer (held_at s t) t)

abbrev pub make_released : Side → SheetMeaning → Ticket → SheetMeaning
make_released Make m t = after_release m (held_at m t)
make_released Break m t = m

abbrev pub break_released : Side → SheetMeaning → Ticket → SheetMeaning
break_released Make b t = b
break_released Break b t = after_release b (held_at b t)

-- the ticket at a place, where there is one
abbrev pub ticket_at : List Ticket → ℕ → Ticket
ticket_at ts place = slice_index_or ts place (record { label = 0; number = 0 })

-- the tickets once the one at a place was brought to a sheet: an accepted one is spent
abbrev pub kept_after : Option ℕ → List Ticket → ℕ → List Ticket
kept_after (Some held) ts place = remove ts place
kept_after None ts place = ts

-- MAKE has the label 1, BREAK the label 2, and with it their tickets
pub record Labelled (m b : SheetMeaning) : Type 0 where
  pub make_label : m.label ≡ 1
  pub break_label : b.label ≡ 2

abbrev pub ticket_of : Side → ℕ → Ticket
ticket_of side number = record { label = sided side 1 2; number = number }

-- a ticket is kept while its assumption is held; one that is not kept cannot be brought to any sheet
abbrev pub kept : SheetMeaning → SheetMeaning → Ticket → Bool
kept m b t = is_some (held_at m t) || is_some (held_at b t)

abbrev pub release_outcome : Side → SheetMeaning → SheetMeaning → Ticket → OutcomeForm
release_outcome side m b t = cond (kept m b t) (shown 0 (release_reply (sided side m b) t)) no_ticket

-- LEAST and WHY into a buffer of literals, TERMS into one of records
abbrev pub least_outcome : SheetMeaning → List ℤ → OutcomeForm
least_outcome s out = shown s.meaning.contacts (least_says (least_answer s (length out)) out)

abbrev pub why_outcome : SheetMeaning → List ℤ → OutcomeForm
why_outcome s out = shown s.meaning.contacts (why_says (why_answer s (length out)) out)

abbrev pub terms_outcome : SheetMeaning → SheetMeaning → List Term → OutcomeForm
terms_outcome m b out = shown m.meaning.contacts (terms_says (terms_answer m b (length out)) out)

-- the buffers of a line: as many literals or records as it says, all 0
abbrev pub no_literals : ℕ → List ℤ
no_literals n = replicate n (pos 0)

abbrev pub no_records : ℕ → List Term
no_records n = replicate n (record { closed = 0; opened = 0 })

-- what comes of a line; the rules that a sheet was loaded with are not written here
abbrev pub call_outcome : SheetMeaning → SheetMeaning → Side → ActionForm → OutcomeForm
call_outcome m b side (rule ls) = shown (sided side m b).meaning.contacts (rule_says (rule_answer (sided side m b) ls))
call_outcome m b side (assume l) = shown 0 (assume_reply (sided side m b) l)
call_outcome m b side (release label number) = release_outcome side m b (record { label = label; number = number })
call_outcome m b side (least n) = least_outcome (sided side m b) (no_literals n)
call_outcome m b side (why n) = why_outcome (sided side m b) (no_literals n)
call_outcome m b side (write n) = shown_bad

abbrev pub outcome_of : SheetMeaning → SheetMeaning → Form → OutcomeForm
outcome_of m b nothing = silent
outcome_of m b bad = shown_bad
outcome_of m b (call side a) = call_outcome m b side a
outcome_of m b (terms n) = terms_outcome m b (no_records n)

-- each sheet afterwards
abbrev pub obeyed : SheetMeaning → ActionForm → SheetMeaning
obeyed s (rule ls) = after_rule s ls
obeyed s (assume l) = after_assume s l (assume_fault s l)
obeyed s (release label number) = after_release s (held_at s (record { label = label; number = number }))
obeyed s (least n) = s
obeyed s (why n) = s
obeyed s (write n) = s

abbrev pub make_obeyed : SheetMeaning → Form → SheetMeaning
make_obeyed m nothing = m
make_obeyed m bad = m
make_obeyed m (call side a) = sided side (obeyed m a) m
make_obeyed m (terms n) = m

abbrev pub break_obeyed : SheetMeaning → Form → SheetMeaning
break_obeyed b nothing = b
break_obeyed b bad = b
break_obeyed b (call side a) = sided side b (obeyed b a)
break_obeyed b (terms n) = b
