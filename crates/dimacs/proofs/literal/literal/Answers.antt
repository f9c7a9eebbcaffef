use Rattle.std.proofs.Common.{sym, ap, ◌∙◌}
use Rattle.texts.specs.Due.{one, leaving}
use Rattle.texts.specs.Lexemes.{ahead}
use Rattle.dimacs.specs.Literals.{literal}
use Rattle.dimacs.proofs.Lines.{word_is}
use Rattle.dimacs.proofs.literal.literal.Goals as goal

pub returns : goal.returns
returns c =
    let us = ahead c.word.new.self in
    record { reads = ap (one (literal c.args.vars)) (word_is (ahead c.args.words.now) us c.in_ok-word.word.now c.in_ok-word.at c.in_ok-word.ensures.reads) ∙ ap (λ r. leaving r us) (sym c.signed.ensures.value) }
