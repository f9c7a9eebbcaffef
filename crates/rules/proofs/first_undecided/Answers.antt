use Rattle.std.proofs.Common.{ℕ, true, not, Some, None, Option, subst, sym, arith}
use Rattle.std.proofs.lemmas.Bool.{not-true, not-false}
use Rattle.search.specs.declared.Assignment.{Assignment}
use Rattle.search.specs.Assignments.{decided}
use Rattle.rules.specs.Rules.{Choice}
use Rattle.rules.proofs.Firsts.{IsFirst, found_first}
use Rattle.rules.proofs.first_undecided.Goals as goal

chosen : (n : ℕ) (a : Assignment) (r : Option ℕ) → IsFirst (λ k. not (decided a k)) 0 n r → Choice n a true r
chosen n a (Some i) h = (omega (arith, h.1), not-true _ h.2)
chosen n a None h = λ unmet k lt. not-false _ (h k (omega arith) (omega (arith, lt)))

pub returns : goal.returns
returns c =
    let n = c.args.variables in
    let a = c.args.assignment in
    record { choice = chosen n a c.find_undecided.result (subst (IsFirst (λ k. not (decided a k)) 0 n) (sym c.find_undecided.ensures.found) (found_first (λ k. not (decided a k)) 0 n)) }
