use Rattle.std.proofs.Common.{◌≡◌, Some, None, Option, sym, refl, ap, ◌∙◌, subst}
use Rattle.faults.specs.declared.SolverFault.TheVariants.{BadLiteral}
use Rattle.literals.specs.Literals.{first_unnamed}
use Rattle.tables.specs.Tables.{items}
use Rattle.solver.specs.Meaning.{Meaning}
use Rattle.solver.specs.Over.{meaning_of}
use Rattle.witnesses.specs.Witnesses.{all_stand}
use Rattle.witnesses.specs.Recalls.{recalled, ByRecall}
use Rattle.witnesses.proofs.Standing.{recalled_answers, all_noted}
use Rattle.witnesses.proofs.WitnessCacheSolver.ask.Goals as goal

pub returns-in-Some-recall : goal.returns-in-Some-recall
returns-in-Some-recall g c =
    let m : Meaning = meaning_of g.S.Solver c.args.self.now.below in
    let before = c.args.self.now in
    let held = items before.seen in
    let ls = c.args.literals.now in
    let n = c.contacts-n.ensures.count in
    let s = c.in-Some-recall.setting in
    let named : first_unnamed m.contacts ls ≡ None = ap (λ k. first_unnamed k ls) (sym n) ∙ sym c.find_unnamed.ensures.first ∙ c.in_default.is in
    let found : recalled m.contacts ls held ≡ Some s = ap (λ k. recalled k ls held) (sym n) ∙ ap (recalled _ ls) (sym c.as_slice.ensures.entries) ∙ sym c.recall.ensures.oldest ∙ c.in-Some-recall.is in
    record {
      answer = (ap (λ (o : Option _). elim o [ None ↦ None | Some place ↦ Some (BadLiteral place) ]) named, recalled_answers m ls held s before.standing found);
      meaning_kept = refl;
      recalls = subst (ByRecall before (Some s) before) (sym found) (refl, refl);
    }

pub invariant_of-self-2 : goal.invariant_of-self-2
invariant_of-self-2 g c =
    let m : Meaning = meaning_of g.S.Solver c.args.self.now.below in
    let before = c.args.self.now in
    let told = c.in_ok-answer.ensures.answer in
    record { standing = ap (λ k. all_stand k (items c.note.new.seen)) c.ask.ensures.meaning_kept ∙ ap (all_stand m) c.note.ensures.noted ∙ all_noted m c.args.literals.now (items before.seen) c.in_ok-answer.answer before.standing told.1 }

pub returns : goal.returns
returns g c =
    let m : Meaning = meaning_of g.S.Solver c.args.self.now.below in
    let before = c.args.self.now in
    let held = items before.seen in
    let ls = c.args.literals.now in
    let missed : recalled m.contacts ls held ≡ None = ap (λ k. recalled k ls held) (sym c.contacts-n.ensures.count) ∙ ap (recalled _ ls) (sym c.as_slice.ensures.entries) ∙ sym c.recall.ensures.oldest ∙ c.in_default-recall.is in
    record {
      answer = c.in_ok-answer.ensures.answer;
      meaning_kept = c.ask.ensures.meaning_kept;
      recalls = subst (ByRecall before c.in_ok-answer.answer _) (sym missed) c.note.ensures.noted;
    }
