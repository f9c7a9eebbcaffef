use Rattle.std.proofs.Common.{◌≡◌, ◌++◌, length, vec_items}
use Rattle.std.specs.Option.{option_map}
use Rattle.scripts.specs.Words.{words_ahead}
use Rattle.scripts.specs.Grammar.{literals_of}
use Rattle.scripts.proofs.read.read_literals.Given as goal

-- the literals of all words are those read so far and those of the words that are left
abbrev pub invariant-loop-word : goal.invariant-loop-word
invariant-loop-word l = literals_of (words_ahead l.initial.words) ≡ option_map (λ ls. vec_items l.literals ++ ls) (literals_of (words_ahead l.words))

abbrev pub decreases-loop-word : goal.decreases-loop-word
decreases-loop-word l = length (words_ahead l.words)
