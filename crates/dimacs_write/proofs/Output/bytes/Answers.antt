use Rattle.std.proofs.Common.{◌+◌, ◌≤◌, [], ◌∷◌, length, get_or, drop, arith, drop_of_length-le}
use Rattle.std.proofs.lemmas.List.{at_drop_more}
use Rattle.dimacs_write.proofs.Buffers.{put_both, put_none}
use Rattle.dimacs_write.proofs.Output.bytes.Goals as goal

pub loop-byte-preserved : goal.loop-byte-preserved
loop-byte-preserved c =
    let bs = c.args.bytes.now in
    let i = c.loop-byte.byte-index in
    let told = c.byte.ensures.put in (
      λ last rest. c.loop-byte.invariant.0 last (put_both c.loop-byte.self c.byte.new.self last (get_or bs i 0 ∷ []) (drop (i + 1) bs) (drop i bs) (at_drop_more (λ l. l) bs i 0 c.loop-byte-test.true) told rest),
      omega (arith, c.loop-byte.invariant.1, told.counted),
    )

pub returns : goal.returns
returns c =
    let bs = c.args.bytes.now in
    let past : length bs ≤ c.loop-byte.byte-index = omega arith in
    record { put = c.loop-byte.invariant.0 c.loop-byte.self (put_none c.loop-byte.self (drop c.loop-byte.byte-index bs) (drop_of_length-le bs past)) }
