use Rattle.std.proofs.Common.{◌≡◌, ℕ, ◌+◌, ◌-◌, ◌≤◌, cond, List, [], ◌∷◌, ◌++◌, length, get_or, take, drop, sym, refl, ap, ◌∙◌, subst, arith}
use Rattle.std.proofs.lemmas.List.{take_rest}
use Rattle.tables.specs.Tables.{items}
use Rattle.settings.specs.declared.Term.{Term}
use Rattle.settings.specs.TermRecords.{no_wants}
use Rattle.solver.specs.Meaning.{Meaning, without_bars}
use Rattle.solver.specs.Over.{meaning_of}
use Rattle.queries.proofs.Answers.{items-few}
use Rattle.striking.specs.Striking.{with_terms, covers_some, unstruck}
use Rattle.striking.proofs.Bars.{only_bars}
use Rattle.striking.proofs.Kept.{Kept, kept_none, kept_next, kept_all}
use Rattle.striking.proofs.kept_of.Given as given
use Rattle.striking.proofs.kept_of.Goals as goal
use Rattle.striking.proofs.kept_of.Goals.{After-as_slice-all}

module _ (g : given.Over) (c : After-as_slice-all g) where
  abbrev mean : Meaning
  mean = meaning_of g.S.Solver c.args.solver.now

  abbrev all : List Term
  all = c.as_slice-all.result.now

  all_few : length all ≤ 64
  all_few = omega (arith, ap length c.as_slice-all.ensures.entries, items-few c.args.terms.now)

  small : mean.contacts ≤ 32
  small = (g.S.Solver.few c.args.solver.now).1

pub loop-k-init : goal.loop-k-init
loop-k-init g c =
    (subst (Kept (without_bars (mean g c)) (all g c) 0) (sym c.new-standing.ensures.empty) (kept_none (without_bars (mean g c)) (all g c)), refl)

pub keep_next-requires : goal.keep_next-requires
keep_next-requires g c =
    let v = (goal.at.keep_next-requires g c).After-as_slice-all in
    record { room = omega (arith, c.loop-k.invariant.0.few, c.loop-k-test.true, all_few g v) }

pub loop-k-preserved : goal.loop-k-preserved
loop-k-preserved g c =
    let v = (goal.at.loop-k-preserved g c).After-as_slice-all in
    let m : Meaning = mean g v in
    let now : Meaning = meaning_of g.S.Solver c.loop-k.solver in
    let ts : List Term = all g v in
    let k : ℕ = c.loop-k.k in
    let kept : List Term = items c.loop-k.standing in
    let t : Term = get_or ts k no_wants in
    let same : without_bars now ≡ without_bars m = c.loop-k.invariant.1 in
    let rest : take (length ts - (k + 1)) (drop (k + 1) ts) ≡ drop (k + 1) ts = take_rest ts (k + 1) in
    let step : items c.keep_next.new.kept ≡ cond (covers_some (with_terms (with_terms (without_bars m) kept) (drop (k + 1) ts)) t) (kept ++ t ∷ []) kept = c.keep_next.ensures.next ∙ ap (λ l. cond (covers_some (with_terms (with_terms (without_bars now) kept) l) t) (kept ++ t ∷ []) kept) rest ∙ ap (λ u. cond (covers_some (with_terms (with_terms u kept) (drop (k + 1) ts)) t) (kept ++ t ∷ []) kept) same in
    let later : List Term = take (length ts - (k + 1)) (drop (k + 1) ts) in
    let front : Meaning = with_terms (without_bars now) kept in (
      kept_next m ts (small g v) (all_few g v) k kept (items c.keep_next.new.kept) c.loop-k-test.true c.loop-k.invariant.0 step,
      ap without_bars c.keep_next.ensures.barred ∙ only_bars front later ∙ only_bars (without_bars now) kept ∙ same,
    )

pub returns : goal.returns
returns g c =
    let v = (goal.at.returns g c).After-as_slice-all in
    record {
      standing = kept_all (without_bars (mean g v)) (all g v) c.loop-k.k (items c.loop-k.standing) c.loop-k-test.false c.loop-k.invariant.0
          ∙ ap (unstruck (without_bars (mean g v)) []) c.as_slice-all.ensures.entries;
      bars_apart = c.loop-k.invariant.1;
    }
