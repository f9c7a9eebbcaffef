use Rattle.dimacs_write.proofs.Written.{buffer, back, again}
use Rattle.dimacs_write.proofs.text.write.Goals as goal

pub returns : goal.returns
returns c =
    let V = c.args.loaded.vars in
    let sets = c.args.loaded.rules.now in
    let told = c.put_whole.ensures in
    let after = buffer V sets c.args.out.now c.put_whole.result c.put_whole.new.out told.answer told.buffer in
    record {
      answer = told.answer;
      buffer = after;
      back = back V sets c.args.out.now c.put_whole.result c.put_whole.new.out told.answer after;
      again = λ text e. again text (V, sets) e;
    }
