use Rattle.model.specs.Guarantee.{calls_of, after}
use Rattle.session.proofs.Equal.{same_said, both_served}
use Rattle.session.proofs.Serving.{result_goes_on}
use Rattle.session.proofs.both.serve_both_lent.Goals as goal

pub returns : goal.returns
returns g c =
    let served = c.serve_each.ensures in
    let first = result_goes_on g.M.Solver g.B.Solver _ _ _ _ served.first_served in
    let second = result_goes_on g.N.Solver g.C.Solver _ _ _ _ served.second_served in
    record {
      first_guarantee = first;
      second_guarantee = second;
      same_responses = λ start start' past past' s s' alike before same.
          both_served c.serve_each.result.first c.serve_each.result.second _ _ _ _ _ _ _ _
          (served.first_served (after start (calls_of past)) s.here) (first start past s)
          (served.second_served (after start' (calls_of past')) s'.here) (second start' past' s')
          (λ a b d t d' t'. same_said start start' past past' _ _ _ _ d.as_many d'.as_many s'.new alike before same s.guaranteed s'.guaranteed t.guaranteed t'.guaranteed);
    }
