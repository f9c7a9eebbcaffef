use Rattle.std.proofs.Common.{◌≡◌, length, sym, ap, ◌∙◌, arith}
use Rattle.std.specs.List.{insert, remove}
use Rattle.std.proofs.lemmas.List.Edits.{length-remove}
use Rattle.std.proofs.lemmas.List.{get_or_default}
use Rattle.faults.specs.Refusals.{sheet_refusal}
use Rattle.sheets.specs.Sheets.{sheet_meaning, held_at}
use Rattle.model.specs.Calls.{accepted, denied, done, same_ticket}
use Rattle.session.specs.Requests.{answer_says, hands_back}
use Rattle.tickets.specs.Tickets.{listed}
use Rattle.script_runs.specs.Outcomes.{shown, refused}
use Rattle.script_runs.specs.Obeyed.{sided, release_reply, make_released, break_released, ticket_at, kept_after}
use Rattle.script_runs.proofs.Released.{spent, handed_back, put_again}
use Rattle.script_runs.proofs.turns.bring.Goals as goal

pub put_back-requires : goal.put_back-requires
put_back-requires g c =
    let ts = listed c.args.tickets.now in
    let size = length-remove ts c.args.place c.requires.there in
    let left = ap length c.take-ticket.ensures.others in
    let few = c.args.tickets.now.few in
    let long = c.args.tickets.now.kept.ok.0 in
    record { there = omega arith; room = omega arith }

pub returns-in-Done : goal.returns-in-Done
returns-in-Done g c =
    let m = sheet_meaning g.M.Solver c.args.make.now in
    let b = sheet_meaning g.B.Solver c.args.brk.now in
    let side = c.args.side in
    let s = sided side m b in
    let ts = listed c.args.tickets.now in
    let place = c.args.place in
    let t = c.take-ticket.result in
    let same : t ≡ ticket_at ts place = c.take-ticket.ensures.taken ∙ get_or_default ts place t _ c.requires.there in
    let told = c.in-Ok.ensures in
    let said : accepted done ≡ release_reply s t = ap (λ a. accepted (answer_says a)) (sym c.in-Done.is) ∙ told.answer in
    record {
      answer = ap (shown 0) said ∙ ap (λ u. shown 0 (release_reply s u)) same;
      make_after = told.make_after ∙ ap (make_released side m) same;
      break_after = told.break_after ∙ ap (break_released side b) same;
      tickets = c.take-ticket.ensures.others ∙ spent s t ts place said ∙ ap (λ u. kept_after (held_at s u) ts place) same;
    }

pub returns-in-Ticket : goal.returns-in-Ticket
returns-in-Ticket g c =
    let m = sheet_meaning g.M.Solver c.args.make.now in
    let b = sheet_meaning g.B.Solver c.args.brk.now in
    let side = c.args.side in
    let s = sided side m b in
    let ts = listed c.args.tickets.now in
    let place = c.args.place in
    let t = c.take-ticket.result in
    let u = c.in-Ticket.ticket in
    let same : t ≡ ticket_at ts place = c.take-ticket.ensures.taken ∙ get_or_default ts place t _ c.requires.there in
    let told = c.in-Err.ensures in
    let fault = sheet_refusal c.in-Err.field-0.fault in
    let said : denied fault (same_ticket u) ≡ release_reply s t = ap (λ r. denied fault (hands_back r)) (sym c.in-Ticket.is) ∙ told.answer in
    let back = handed_back s t u fault said in
    record {
      answer = ap refused c.from.ensures ∙ ap (shown 0) said ∙ ap (λ v. shown 0 (release_reply s v)) same;
      make_after = told.make_after ∙ ap (make_released side m) same;
      break_after = told.break_after ∙ ap (break_released side b) same;
      tickets = c.put_back.ensures.placed
          ∙ ap (λ l. insert l place u) c.take-ticket.ensures.others
          ∙ ap (insert (remove ts place) place) (back.0 ∙ same)
          ∙ put_again ts place _ c.requires.there
          ∙ sym (ap (λ o. kept_after o ts place) (ap (held_at s) (sym same) ∙ back.1));
    }
