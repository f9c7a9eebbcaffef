use Rattle.std.proofs.Common.{◌≡◌, true, sym, subst}
use Rattle.tables.specs.Tables.{items}
use Rattle.solver.specs.Over.{meaning_of}
use Rattle.witnesses.specs.Witnesses.{all_stand}
use Rattle.witnesses.proofs.Standing.{all_cleared}
use Rattle.witnesses.proofs.WitnessCacheSolver.clear.Goals as goal

pub invariant_of-self : goal.invariant_of-self
invariant_of-self g c =
    let held = items c.args.self.now.seen in
    record { standing = subst (λ m. all_stand m held ≡ true) (sym c.clear.ensures.bars_emptied) (all_cleared (meaning_of g.S.Solver c.args.self.now.below) held c.args.self.now.standing) }
