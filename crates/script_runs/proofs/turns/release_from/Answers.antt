use Rattle.std.proofs.Common.{◌≡◌, ◌<◌, length, sym, refl, ap, ◌∙◌, subst}
use Rattle.sheets.specs.Sheets.{sheet_meaning, held_at}
use Rattle.tickets.specs.Tickets.{listed, tickets_of, place_of}
use Rattle.script_runs.specs.Outcomes.{shown}
use Rattle.script_runs.specs.Obeyed.{sided, release_reply, make_released, break_released, ticket_at, kept_after, ticket_of}
use Rattle.script_runs.proofs.Found.{absent, present}
use Rattle.script_runs.proofs.turns.release_from.Goals as goal

pub bring-requires : goal.bring-requires
bring-requires g c =
    let m = sheet_meaning g.M.Solver c.args.make.now in
    let b = sheet_meaning g.B.Solver c.args.brk.now in
    let own = c.requires.its_own in
    let here = present c.args.owner c.args.side m b c.args.number c.in-Some.place c.requires.labelled (c.in-Some.ensures.first ∙ ap (place_of c.args.number) own) in
    record { there = subst (λ l. c.in-Some.place < length l) (sym own) here.there }

pub returns-in-None : goal.returns-in-None
returns-in-None g c =
    let m = sheet_meaning g.M.Solver c.args.make.now in
    let b = sheet_meaning g.B.Solver c.args.brk.now in
    let gone = absent c.args.owner c.args.side m b c.args.number c.requires.labelled (c.in-None.ensures.first ∙ ap (place_of c.args.number) c.requires.its_own) in
    record {
      answer = gone.outcome;
      make_after = gone.make_kept;
      break_after = gone.break_kept;
      its_own = c.requires.its_own;
      others_own = refl;
    }

pub returns-in-Some : goal.returns-in-Some
returns-in-Some g c =
    let m = sheet_meaning g.M.Solver c.args.make.now in
    let b = sheet_meaning g.B.Solver c.args.brk.now in
    let side = c.args.side in
    let owner = c.args.owner in
    let place = c.in-Some.place in
    let t = ticket_of owner c.args.number in
    let s = sided side m b in
    let own = c.requires.its_own in
    let here = present owner side m b c.args.number place c.requires.labelled (c.in-Some.ensures.first ∙ ap (place_of c.args.number) own) in
    let mine : ticket_at (listed c.args.tickets.now) place ≡ t = ap (λ l. ticket_at l place) own ∙ here.ticket in
    let told = c.bring.ensures in
    let make_now : sheet_meaning g.M.Solver c.bring.new.make ≡ make_released side m t = told.make_after ∙ ap (make_released side m) mine in
    let break_now : sheet_meaning g.B.Solver c.bring.new.brk ≡ break_released side b t = told.break_after ∙ ap (break_released side b) mine in
    record {
      answer = told.answer ∙ ap (λ u. shown 0 (release_reply s u)) mine ∙ here.outcome;
      make_after = make_now;
      break_after = break_now;
      its_own = told.tickets
          ∙ ap (λ u. kept_after (held_at s u) (listed c.args.tickets.now) place) mine
          ∙ ap (λ l. kept_after (held_at s t) l place) own
          ∙ here.tickets
          ∙ ap (λ x. tickets_of (sided owner x (break_released side b t))) (sym make_now)
          ∙ ap (λ x. tickets_of (sided owner (sheet_meaning g.M.Solver c.bring.new.make) x)) (sym break_now);
      others_own = ap (λ x. tickets_of (sided owner (sheet_meaning g.B.Solver c.bring.new.brk) x)) make_now
          ∙ ap (λ x. tickets_of (sided owner x (make_released side m t))) break_now
          ∙ here.others;
    }
