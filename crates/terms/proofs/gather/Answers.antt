use Rattle.std.proofs.Common.{◌≡◌, ◌≤◌, Bool, true, false, List, [], ℤ, Ok, Err, Result, sym, refl, ap, ◌∙◌, subst, arith}
use Rattle.std.proofs.lemmas.Result.{err_from_is_err_and}
use Rattle.faults.specs.declared.SheetFault.{SheetFault}
use Rattle.tables.specs.Tables.{items}
use Rattle.settings.specs.declared.Term.{Term}
use Rattle.solver.specs.Meaning.{Meaning, without_bars}
use Rattle.solver.specs.Over.{meaning_of}
use Rattle.queries.proofs.Answers.{items-few}
use Rattle.terms.specs.Steps.{listed_terms}
use Rattle.terms.proofs.Turns.{Making, making_none, Turned, turned, turned_apart}
use Rattle.terms.proofs.gather.Given as given
use Rattle.terms.proofs.gather.Goals as goal
use Rattle.terms.proofs.gather.Goals.{After-next_term}

-- a turn, and what it came to
module _ (g : given.Over) (c : After-next_term g) where
  abbrev start : Meaning
  start = meaning_of g.M.Solver c.args.make.now

  abbrev other : Meaning
  other = meaning_of g.B.Solver c.args.brk.now

  abbrev so_far : List Term
  so_far = items c.loop.terms

  abbrev after : List Term
  after = items c.next_term.new.terms

  abbrev last-now : List ℤ
  last-now = items c.loop.last

  abbrev last_then : List ℤ
  last_then = items c.next_term.new.last

  abbrev barred-now : Meaning
  barred-now = meaning_of g.M.Solver c.loop.make

  abbrev barred-after : Meaning
  barred-after = meaning_of g.M.Solver c.next_term.new.make

  small : start.contacts ≤ 32
  small = (g.M.Solver.few c.args.make.now).1

  ended : (r : Result Bool SheetFault) → c.next_term.result ≡ r → Turned start other so_far r after barred-after last_then
  ended r e =
      turned start other small c.requires.same_contacts barred-now so_far last-now (items-few c.loop.terms) c.loop.invariant.0 (meaning_of g.B.Solver c.loop.brk) barred-after r after last_then
      c.loop.invariant.1 (sym e ∙ c.next_term.ensures.answer) c.next_term.ensures.placed c.next_term.ensures.barred c.next_term.ensures.last

  apart : without_bars barred-after ≡ without_bars start
  apart =
      turned_apart start other small c.requires.same_contacts barred-now so_far last-now (items-few c.loop.terms) c.loop.invariant.0 (meaning_of g.B.Solver c.loop.brk) barred-after c.loop.invariant.1 c.next_term.ensures.barred

  kept : meaning_of g.B.Solver c.next_term.new.brk ≡ other
  kept = c.next_term.ensures.break_kept ∙ c.loop.invariant.1

pub loop-init : goal.loop-init
loop-init g c =
    let m : Meaning = meaning_of g.M.Solver c.args.make.now in
    let b : Meaning = meaning_of g.B.Solver c.args.brk.now in
    (subst (Making m b m (items c.new-terms.result)) (sym c.new-last.ensures.empty) (subst (λ ts. Making m b m ts []) (sym c.new-terms.ensures.empty) (making_none m b c.requires.no_bars)), refl)

pub returns-in_err-next_term : goal.returns-in_err-next_term
returns-in_err-next_term g c =
    let v = (goal.at.returns-in_err-next_term g c).After-next_term in
    let failed = err_from_is_err_and c.from_residual.result c.from_residual.ensures.1 in
    record {
      answer = ap listed_terms (failed.1 ∙ ap Err failed.2) ∙ ended g v (Err c.in_err-next_term.field-0.0) c.in_err-next_term.was;
      bars_apart = apart g v;
      break_kept = kept g v;
    }

pub loop-smaller : goal.loop-smaller
loop-smaller g c =
    let v = (goal.at.loop-smaller g c).After-next_term in
    let more = (ended g v (Ok true) (c.in_ok-next_term.was ∙ ap Ok c.if-branch.true)).1 in
    omega (arith, items-few c.next_term.new.terms)

pub loop-preserved : goal.loop-preserved
loop-preserved g c =
    let v = (goal.at.loop-preserved g c).After-next_term in
    ((ended g v (Ok true) (c.in_ok-next_term.was ∙ ap Ok c.if-branch.true)).0, kept g v)

pub returns : goal.returns
returns g c =
    let v = (goal.at.returns g c).After-next_term in
    record {
      answer = ended g v (Ok false) (c.in_ok-next_term.was ∙ ap Ok c.if-branch.false);
      bars_apart = apart g v;
      break_kept = kept g v;
    }
