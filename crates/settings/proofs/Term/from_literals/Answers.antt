use Rattle.std.proofs.Common.{get_or, pos, sym, ap, ◌∙◌, ap₂, take_all, w8, SFits, rules}
use Rattle.std.proofs.lemmas.Int.{to_z-of_z}
use Rattle.std.proofs.lemmas.List.Sums.{fold_more}
use Rattle.settings.specs.TermRecords.{no_wants, with_wanted, record_of}
use Rattle.settings.proofs.Term.from_literals.Goals as goal

pub loop-literal-preserved : goal.loop-literal-preserved
loop-literal-preserved c =
    let n = c.min-count.result in
    let f : SFits w8 (get_or c.args.literals.now c.loop-literal.literal-index (pos 0)) = search rules in
    c.with-term.ensures.wanted ∙ ap₂ (with_wanted n) c.loop-literal.invariant (to_z-of_z _ _ f)
    ∙ sym (fold_more (with_wanted n) no_wants c.args.literals.now c.loop-literal.literal-index (pos 0) c.loop-literal-test.true)

pub returns : goal.returns
returns c = record {
  wanted = c.loop-literal.invariant ∙ ap (record_of c.min-count.result) (take_all _ _ c.loop-literal-test.false) ∙ ap (λ n. record_of n c.args.literals.now) c.min-count.ensures;
}
