use Rattle.std.proofs.Common.{◌+◌, sym, ◌∙◌, subst, arith, length-set}
use Rattle.implications.specs.Ternaries.{Agree}
use Rattle.implications.proofs.Sound.{sound_set}
use Rattle.implications.proofs.Implying.{first_sound}
use Rattle.implications.proofs.known.first_values.Goals as goal

pub loop-index-init : goal.loop-index-init
loop-index-init c =
    let e = c.nothing_known-values.ensures in
    (length-set _ _ _ ∙ e.length, λ V low inputs. first_sound c.nothing_known-values.result V (omega (arith, e.length)) e.unknown low)

pub loop-index-preserved : goal.loop-index-preserved
loop-index-preserved c =
    let k = c.loop-index.index in
    let ts = c.loop-index.values in (
      length-set ts _ _ ∙ c.loop-index.invariant.0,
      λ V low inputs. sound_set ts V (k + 1) c.assigned.result (omega (arith, c.loop-index.invariant.0)) (c.loop-index.invariant.1 V low inputs) (subst (λ t. Agree t (V (k + 1))) (sym c.assigned.ensures.assigned) (inputs k c.loop-index-test.true)),
    )
