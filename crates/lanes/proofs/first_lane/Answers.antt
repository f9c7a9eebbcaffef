use Rattle.std.proofs.Common.{ℕ, Some, None, Option, ap, sym, subst, ◌∙◌, arith}
use Rattle.literals.specs.Bits.{bit}
use Rattle.literals.proofs.Bits.{bit_zero}
use Rattle.rules.proofs.Firsts.{IsFirst, found_first}
use Rattle.lanes.specs.Words.{FirstLane}
use Rattle.lanes.proofs.first_lane.Goals as goal

pub returns-then-word-eq0 : goal.returns-then-word-eq0
returns-then-word-eq0 c = record { first = λ j lt. ap (λ w. bit w j) c.if-word-eq0.true ∙ bit_zero j }

found : (w : ℕ) (r : Option ℕ) → IsFirst (λ k. bit w k) 0 64 r → FirstLane w r
found w (Some i) h = (h.1, h.2)
found w None h = λ k lt. h k (omega arith) lt

pub returns : goal.returns
returns c =
    let w = c.args.word in
    record { first = found w c.lowest_lane.result (subst (IsFirst (λ k. bit w k) 0 64) (sym c.lowest_lane.ensures.found) (found_first (λ k. bit w k) 0 64)) }
