use Rattle.std.proofs.Common.{◌≡◌, ◌+◌, ◌-◌, ◌*◌, ap, ◌∙◌, arith}
use Rattle.texts.specs.Lexemes.{ahead}
use Rattle.aiger.specs.Aag.{input_lines}
use Rattle.aiger.proofs.Inputs.{input_step}
use Rattle.aiger.proofs.head.input_lines.Goals as goal

pub loop-k-preserved : goal.loop-k-preserved
loop-k-preserved c =
    let k = c.loop-k.k in
    let n = c.args.inputs in
    let next : 2 * k + 2 + 2 ≡ 2 * (k + 1) + 2 = omega arith in
    c.loop-k.invariant
    ∙ input_step (n - k) (n - (k + 1)) (2 * k + 2) (ahead c.loop-k.words) (ahead c.due_line.new.words) (omega arith) c.in_ok-due_line.ensures.reads
    ∙ ap (λ d. input_lines (n - (k + 1)) d (ahead c.due_line.new.words)) next
