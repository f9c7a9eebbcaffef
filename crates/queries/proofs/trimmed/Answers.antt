use Rattle.std.proofs.Common.{◌≡◌, ◌+◌, ◌-◌, cond, [], ◌∷◌, ◌++◌, length, get_or, take, drop, pos, sym, refl, ap, ◌∙◌, subst, arith, w8, SFits, to_z, of_z, rules}
use Rattle.std.proofs.lemmas.List.{take_rest, length-drop}
use Rattle.std.proofs.lemmas.Int.{to_z-of_z}
use Rattle.tables.specs.Tables.{items}
use Rattle.laws.specs.Choices.{enough, trim}
use Rattle.laws.proofs.Named.{Named}
use Rattle.solver.specs.Meaning.{stands}
use Rattle.solver.specs.Over.{meaning_of}
use Rattle.queries.specs.Queries.{possible_with}
use Rattle.queries.proofs.Answers.{named_from, items-few}
use Rattle.queries.proofs.Reasons.{Kept, kept_none, kept_next, kept_all}
use Rattle.queries.proofs.trimmed.Given as given
use Rattle.queries.proofs.trimmed.Goals as goal
use Rattle.queries.proofs.trimmed.Goals.{After-as_slice-all}

all_named : (g : given.Over) (c : After-as_slice-all g) → Named (g.S.Solver.size c.args.solver.now) c.as_slice-all.result.now
all_named g c =
    let m = meaning_of g.S.Solver c.args.solver.now in
    subst (Named m.contacts) (sym c.as_slice-all.ensures.entries) (named_from m (items c.args.held.now) c.requires.named)

pub loop-k-init : goal.loop-k-init
loop-k-init g c =
    let m = meaning_of g.S.Solver c.args.solver.now in
    (subst (Kept m c.as_slice-all.result.now 0) (sym c.new-choice.ensures.empty) (kept_none m c.as_slice-all.result.now (all_named g c)), refl)

pub keep_next-requires : goal.keep_next-requires
keep_next-requires g c =
    let all = c.as_slice-all.result.now in
    let k = c.loop-k.k in
    let few = items-few c.args.held.now in
    let lt = c.loop-k-test.true in
    record {
      room = omega (arith, ap length (take_rest all (k + 1)), length-drop (k + 1) all, ap length c.as_slice-all.ensures.entries, c.loop-k.invariant.0.few);
    }

pub loop-k-preserved : goal.loop-k-preserved
loop-k-preserved g c =
    let m = meaning_of g.S.Solver c.args.solver.now in
    let all = c.as_slice-all.result.now in
    let k = c.loop-k.k in
    let kept = items c.loop-k.choice in
    let f : SFits w8 (get_or all k (pos 0)) = search rules in
    let read : to_z w8 (of_z w8 (get_or all k (pos 0))) ≡ get_or all k (pos 0) = to_z-of_z w8 (get_or all k (pos 0)) f in
    let same = c.loop-k.invariant.1 in
    let step : items c.keep_next.new.kept ≡ cond (possible_with m (kept ++ drop (k + 1) all)) (kept ++ get_or all k (pos 0) ∷ []) kept = c.keep_next.ensures.next ∙ ap (λ z. cond (possible_with (meaning_of g.S.Solver c.loop-k.solver) (kept ++ take (length all - (k + 1)) (drop (k + 1) all))) (kept ++ z ∷ []) kept) read ∙ ap (λ t. cond (possible_with (meaning_of g.S.Solver c.loop-k.solver) (kept ++ t)) (kept ++ get_or all k (pos 0) ∷ []) kept) (take_rest all (k + 1)) ∙ ap (λ v. cond (possible_with v (kept ++ drop (k + 1) all)) (kept ++ get_or all k (pos 0) ∷ []) kept) same in (
      kept_next m all (all_named g (goal.at.loop-k-preserved g c).After-as_slice-all) k kept (items c.keep_next.new.kept) c.loop-k-test.true c.loop-k.invariant.0 step,
      c.keep_next.ensures.meaning_kept ∙ same,
    )

pub returns : goal.returns
returns g c =
    let m = meaning_of g.S.Solver c.args.solver.now in
    record {
      left = kept_all m c.as_slice-all.result.now (all_named g (goal.at.returns g c).After-as_slice-all) c.loop-k.k (items c.loop-k.choice) c.loop-k-test.false c.loop-k.invariant.0
          ∙ ap (trim (enough m.contacts (stands m)) []) c.as_slice-all.ensures.entries;
      meaning_kept = c.loop-k.invariant.1;
    }
