use Rattle.std.proofs.Common.{◌+◌, ◌/◌, ◌%◌, [], ◌∷◌, decimal, sym, subst, arith}
use Rattle.std.proofs.lemmas.Fmt.{decimal_digit, decimal_step, length-decimal-le_succ}
use Rattle.dimacs_write.specs.Puts.{Put}
use Rattle.dimacs_write.proofs.Buffers.{put_both}
use Rattle.dimacs_write.proofs.Output.+number.Goals as goal

pub byte-requires-else-number-lt10 : goal.byte-requires-else-number-lt10
byte-requires-else-number-lt10 t c = record { low = omega (arith, length-decimal-le_succ (c.args.number / 10) (omega arith), c.number.ensures.put.counted) }

pub returns-then-number-lt10 : goal.returns-then-number-lt10
returns-then-number-lt10 t c = record { put = subst (λ l. Put c.args.self.now l c.byte.new.self) (sym (decimal_digit c.args.number c.if-number-lt10.true)) c.byte.ensures.put }

pub returns-else-number-lt10 : goal.returns-else-number-lt10
returns-else-number-lt10 t c =
    let n = c.args.number in
    record { put = put_both c.args.self.now c.number.new.self c.byte-else-number-lt10.new.self (decimal (n / 10)) ((48 + n % 10) ∷ []) (decimal n) (decimal_step n c.if-number-lt10.false (omega arith)) c.number.ensures.put c.byte-else-number-lt10.ensures.put }
