use Rattle.session.proofs.Beginning.{beginning}
use Rattle.session.proofs.start.begin.Goals as goal

pub returns : goal.returns
returns g c = record { stands_at_the_start = beginning g.M.Solver g.B.Solver (record { make = c.args.make.now; brk = c.args.brk.now }) }
