use Rattle.std.proofs.Common.{◌≡◌, [], pos, is_some, sym, refl, ap, ◌∙◌}
use Rattle.sheets.specs.Sheets.{sheet_meaning, held_at}
use Rattle.trials.proofs.Steps.{ticket_good}
use Rattle.positions.proofs.Alike.{same_ticket}
use Rattle.positions.proofs.crossed.exchange.Goals as goal

pub give_back-requires : goal.give_back-requires
give_back-requires g c =
    let v = g.S.Solver in
    let a = c.in_ok-own.ensures in
    let q = sheet_meaning v c.assume.new.self in
    record {
      held = ticket_good (sheet_meaning v c.args.sheet.now) (pos 1) [] q q c.in_ok-own.own a.answer a.held refl;
    }

pub give_back-requires-in-Ok : goal.give_back-requires-in-Ok
give_back-requires-in-Ok g c =
    let p = sheet_meaning g.S.Solver c.args.sheet.now in
    let q = sheet_meaning g.T.Solver c.args.other.now in
    let a = c.in_ok-own.ensures in
    let b = c.in-Ok.ensures in
    let after = sheet_meaning g.T.Solver c.assume-2.new.self in
    let same : c.in_ok-own.own ≡ c.in-Ok.theirs = same_ticket p q _ _ _ _ c.requires.same_label c.requires.same_count a.answer b.answer in
    record {
      held = ap (λ t. is_some (held_at after t)) same ∙ ticket_good q (pos 1) [] after after c.in-Ok.theirs b.answer b.held refl;
    }

pub give_back-requires-in-Ok-2 : goal.give_back-requires-in-Ok-2
give_back-requires-in-Ok-2 g c =
    let p = sheet_meaning g.S.Solver c.args.sheet.now in
    let q = sheet_meaning g.T.Solver c.args.other.now in
    let a = c.in_ok-own.ensures in
    let b = c.in-Ok.ensures in
    let after = sheet_meaning g.S.Solver c.assume.new.self in
    let same : c.in_ok-own.own ≡ c.in-Ok.theirs = same_ticket p q _ _ _ _ c.requires.same_label c.requires.same_count a.answer b.answer in
    record {
      held = ap (λ t. is_some (held_at after t)) (sym same) ∙ ticket_good p (pos 1) [] after after c.in_ok-own.own a.answer a.held refl;
    }
