use Rattle.session.proofs.Standing.{mirrored, goes_on}
use Rattle.session.proofs.turns.take_turn.Goals as goal

pub returns : goal.returns
returns g c =
    let served = c.serve_request.ensures in
    record {
      answer = served.answer;
      make_after = served.make_after;
      break_after = served.break_after;
      by_the_model = mirrored g.M.Solver g.B.Solver _ _ c.args.request c.serve_request.result served.answer served.make_after served.break_after;
      guarantee = goes_on g.M.Solver g.B.Solver _ _ c.args.request c.serve_request.result served.answer served.make_after served.break_after;
    }
