use Rattle.std.proofs.Common.{◌≡◌, sym, ap, ◌∙◌, w8, SFits, to_z, of_z, rules}
use Rattle.std.proofs.lemmas.Int.{to_z-of_z}
use Rattle.sheets.specs.Sheets.{sheet_meaning}
use Rattle.model.specs.Calls.{accepted, issued}
use Rattle.session.specs.Requests.{answer_says}
use Rattle.tickets.specs.Tickets.{listed}
use Rattle.script_runs.specs.Obeyed.{sided, assume_reply}
use Rattle.script_runs.proofs.Assumed.{room_for_it}
use Rattle.script_runs.proofs.turns.assume.Goals as goal

pub keep-requires : goal.keep-requires
keep-requires g c =
    let m = sheet_meaning g.M.Solver c.args.make.now in
    let b = sheet_meaning g.B.Solver c.args.brk.now in
    let s = sided c.args.side m b in
    let t = c.in-Issued.ticket in
    let l = c.args.literal in
    let fit : SFits w8 l = search rules in
    let lit : to_z w8 (of_z w8 l) ≡ l = to_z-of_z w8 l fit in
    let said : accepted (issued t) ≡ assume_reply s l = ap (λ a. accepted (answer_says a)) (sym c.in-Issued.is) ∙ c.in-Ok.ensures.answer ∙ ap (assume_reply s) lit in
    record { room = room_for_it s l t (listed c.args.tickets.now) said c.requires.its_own }
