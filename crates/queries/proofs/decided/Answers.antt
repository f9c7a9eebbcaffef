use Rattle.std.proofs.Common.{◌≡◌, ◌<◌, ◌≤◌, true, List, length, ℤ, is_some, sym, refl, ap, ◌∙◌, subst, arith}
use Rattle.tables.specs.Tables.{items}
use Rattle.settings.specs.Readings.{reading}
use Rattle.settings.specs.Least.{some}
use Rattle.laws.proofs.Least.{some_from}
use Rattle.laws.proofs.Named.{Named}
use Rattle.solver.specs.Meaning.{Meaning, stands_with}
use Rattle.solver.specs.Over.{meaning_of}
use Rattle.queries.specs.Queries.{possible_with, Shown, Ready, wanted_next}
use Rattle.queries.proofs.Answers.{length_reading, named_from}
use Rattle.queries.proofs.Contacts.{Placed, placed_none, as_many, placing_ready, placing_next, placed_all}
use Rattle.queries.proofs.decided.Given as given
use Rattle.queries.proofs.decided.Goals as goal
use Rattle.queries.proofs.decided.Goals.{Start}

module _ (g : given.Over) (c : Start g) where
  abbrev mean : Meaning
  mean = meaning_of g.S.Solver c.args.solver.now

  abbrev held : List ℤ
  held = items c.args.held.now

  all_named : Named mean.contacts held
  all_named = named_from mean held c.requires.named

  one : some mean.contacts (stands_with mean held) ≡ true
  one = some_from mean.contacts (stands_with mean held) (reading mean.contacts c.args.first) (length_reading mean.contacts c.args.first) c.requires.shown

  few : mean.contacts ≤ 32
  few = (g.S.Solver.few c.args.solver.now).1

pub loop-init : goal.loop-init
loop-init g c =
    let v = (goal.at.loop-init g c).Start in
    (subst (λ t. Placed (mean g v) (held g v) 0 t c.args.first) (sym c.new.ensures.empty) (placed_none (mean g v) (held g v) (all_named g v) (one g v) c.args.first c.requires.shown), refl, refl)

pub next_open-found-requires : goal.next_open-found-requires
next_open-found-requires g c =
    let v = (goal.at.next_open-found-requires g c).Start in
    let p = c.loop.placing in
    let at = c.loop.invariant.0 in
    let kept = ap (λ t. items t.now) c.loop.invariant.1 in
    let lt : c.loop.counter < g.S.Solver.size c.args.solver.now = omega (arith, c.loop-test.true, c.contacts-end.ensures.count) in
    record {
      room = omega (arith, few g v, as_many (mean g v) (held g v) (all_named g v) (one g v) c.loop.counter p lt kept at);
      ready = subst (λ u. Ready u (wanted_next p) p.last (length (items p.placed))) (sym c.loop.invariant.2) (placing_ready (mean g v) (held g v) (all_named g v) (one g v) c.loop.counter p lt kept at);
    }

pub place-requires : goal.place-requires
place-requires g c =
    let v = (goal.at.place-requires g c).Start in
    let lt : c.loop.counter < g.S.Solver.size c.args.solver.now = omega (arith, c.loop-test.true, c.contacts-end.ensures.count) in
    record { room = omega (arith, few g v, as_many (mean g v) (held g v) (all_named g v) (one g v) c.loop.counter c.loop.placing lt (ap (λ t. items t.now) c.loop.invariant.1) c.loop.invariant.0) }

pub loop-preserved : goal.loop-preserved
loop-preserved g c =
    let v = (goal.at.loop-preserved g c).Start in
    let p = c.loop.placing in
    let r = c.next_open-found.result in
    let told = c.next_open-found.ensures in
    let same = c.loop.invariant.2 in
    let lt : c.loop.counter < g.S.Solver.size c.args.solver.now = omega (arith, c.loop-test.true, c.contacts-end.ensures.count) in
    let found : is_some r ≡ possible_with (mean g v) (wanted_next p) = told.found ∙ ap (λ u. possible_with u (wanted_next p)) same in
    let shown : Shown (mean g v) (wanted_next p) r = subst (λ u. Shown u (wanted_next p) r) same told.shown in (
      placing_next (mean g v) (held g v) (all_named g v) (one g v) c.loop.counter p lt (ap (λ t. items t.now) c.loop.invariant.1) c.loop.invariant.0 r c.place.new.self found shown c.place.ensures.next c.place.ensures.last,
      c.place.ensures.held_kept ∙ c.loop.invariant.1,
      told.meaning_kept ∙ same,
    )

pub returns : goal.returns
returns g c =
    let v = (goal.at.returns g c).Start in
    record {
      earliest = placed_all (mean g v) (held g v) (all_named g v) (one g v) c.loop.counter (items c.loop.placing.placed) c.loop.placing.last (omega (arith, c.loop-test.false, c.contacts-end.ensures.count)) c.loop.invariant.0;
      meaning_kept = c.loop.invariant.2;
    }
