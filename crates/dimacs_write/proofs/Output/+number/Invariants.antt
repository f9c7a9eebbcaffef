use Rattle.dimacs_write.proofs.Output.+number.Given as goal

abbrev pub decreases-number : goal.decreases-number
decreases-number l = l.number
