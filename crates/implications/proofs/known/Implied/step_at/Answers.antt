use Rattle.std.proofs.Common.{length, Some, ⊎_elim}
use Rattle.std.proofs.lemmas.Bool.{cases_lt}
use Rattle.implications.proofs.Sound.{gate_right, holds_from}
use Rattle.implications.proofs.known.Implied.step_at.Goals as goal

pub returns : goal.returns
returns c =
    let k = c.args.circuit in
    let before = c.args.self.now in
    let after = c.step_if_any.new.self.values in
    let found = c.step_if_any.ensures in
    record {
      stepped = found.stepped;
      right = λ V obeys s.
          ⊎_elim
          (λ lt. gate_right V k.inputs k.gates.now c.args.index before.values after c.step_if_any.result before.whole k.few_inputs k.few_gates lt (found.stepped lt) obeys s)
          (λ le. holds_from 2081 V c.step_if_any.result after (Some before.values) (found.beyond le) (before.whole, s))
          (cases_lt c.args.index (length k.gates.now));
    }
