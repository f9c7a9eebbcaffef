use Rattle.implications.proofs.known.Implied.propagate.Goals as goal

pub returns-in_err-sweep-2 : goal.returns-in_err-sweep-2
returns-in_err-sweep-2 c = record { right = λ V obeys s. absurd (c.in_err-sweep-2.ensures.right V obeys (c.in_ok-sweep.ensures.right V obeys (c.loop.invariant V obeys s))) }
