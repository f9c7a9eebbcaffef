use Rattle.std.proofs.Common.{codes, sym, ap, arith, rules}
use Rattle.std.proofs.lemmas.Slice.Eq.{text_from_reads}
use Rattle.scripts.specs.Grammar.{verb_of}
use Rattle.scripts.proofs.read.read_verb.Goals as goal

pub returns-in-assume : goal.returns-in-assume
returns-in-assume c = record { value = sym (ap verb_of (text_from_reads c.args.word.now (codes "assume") (omega arith) (search rules))) }

pub returns-in-release : goal.returns-in-release
returns-in-release c = record { value = sym (ap verb_of (text_from_reads c.args.word.now (codes "release") (omega arith) (search rules))) }
