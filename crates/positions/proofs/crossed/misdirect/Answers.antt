use Rattle.std.proofs.Common.{◌≡◌, true, [], pos, is_some, refl, ap, ◌∙◌}
use Rattle.sheets.specs.Sheets.{sheet_meaning, held_at}
use Rattle.trials.proofs.Steps.{ticket_good}
use Rattle.positions.proofs.Alike.{handed_back}
use Rattle.positions.proofs.crossed.misdirect.Goals as goal

pub give_back-requires : goal.give_back-requires
give_back-requires g c =
    let v = g.S.Solver in
    let a = c.in_ok-ticket.ensures in
    let q = sheet_meaning v c.assume.new.self in
    let good : is_some (held_at q c.in_ok-ticket.ticket) ≡ true = ticket_good (sheet_meaning v c.args.sheet.now) (pos 1) [] q q c.in_ok-ticket.ticket a.answer a.held refl in
    record {
      held = ap (λ t. is_some (held_at q t)) (handed_back _ c.in_ok-ticket.ticket c.in-Err.refused c.in-Err.ensures.answer) ∙ good;
    }
