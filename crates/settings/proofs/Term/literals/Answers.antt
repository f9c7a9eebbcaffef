use Rattle.std.proofs.Common.{◌-◌, ◌++◌, length, sym, ap, ◌∙◌, arith}
use Rattle.literals.specs.Bits.{bit}
use Rattle.settings.specs.TermRecords.{signed_at, wanted}
use Rattle.settings.proofs.Wanted.{front_length, front_more, front_all}
use Rattle.settings.proofs.Term.literals.Goals as goal

pub place_wanted-requires : goal.place_wanted-requires
place_wanted-requires c =
    record {
      contact = c.loop-index-test.true;
      few = omega (arith, c.min-count.ensures);
      room = omega (arith, ap length c.loop-index.invariant, front_length c.min-count.result c.args.self c.loop-index.index);
    }

pub loop-index-preserved : goal.loop-index-preserved
loop-index-preserved c =
    let n = c.min-count.result in
    let i = c.loop-index.index in
    let t = c.args.self in
    c.place_wanted.ensures.placed
    ∙ ap (λ ls. ls ++ signed_at i (bit t.closed (n - 1 - i)) (bit t.opened (n - 1 - i))) c.loop-index.invariant
    ∙ sym (front_more n t i c.loop-index-test.true)

pub returns : goal.returns
returns c = record {
  listed = c.loop-index.invariant ∙ front_all c.min-count.result c.args.self c.loop-index.index c.loop-index-test.false ∙ ap (λ n. wanted n c.args.self) c.min-count.ensures;
}
