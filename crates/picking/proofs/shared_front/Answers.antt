use Rattle.std.proofs.Common.{◌≡◌, ℕ, ◌<◌, Bool, cond, List, [], ◌∷◌, ◌++◌, length, get_or, ℤ, pos, sym, ap, ◌∙◌, arith, w8, SFits, to_z, of_z, rules}
use Rattle.std.proofs.lemmas.Int.{to_z-of_z}
use Rattle.tables.specs.Tables.{items}
use Rattle.solver.specs.Meaning.{Meaning}
use Rattle.solver.specs.Over.{meaning_of}
use Rattle.queries.specs.Queries.{possible_with}
use Rattle.picking.proofs.Fronts.{front_more, front_stops, front_all}
use Rattle.picking.proofs.shared_front.Given as given
use Rattle.picking.proofs.shared_front.Goals as goal
use Rattle.picking.proofs.shared_front.Goals.{After-extend_front}

module _ (g : given.Over) (c : After-extend_front g) where
  abbrev mean : Meaning
  mean = meaning_of g.S.Solver c.args.solver.now

  abbrev near : List ℤ
  near = items c.args.near.now

  abbrev k : ℕ
  k = c.loop-literal.literal-index

  abbrev front : List ℤ
  front = items c.loop-literal.front

  abbrev next : List ℤ
  next = items c.extend_front.new.front

  within : k < length near
  within = omega (arith, c.loop-literal-test.true, ap length c.as_slice-literal-items.ensures.entries)

  read : to_z w8 (of_z w8 (get_or c.as_slice-literal-items.result.now k (pos 0))) ≡ get_or near k (pos 0)
  read =
      let fit : SFits w8 (get_or c.as_slice-literal-items.result.now k (pos 0)) = search rules in
      to_z-of_z w8 (get_or c.as_slice-literal-items.result.now k (pos 0)) fit ∙ ap (λ ls. get_or ls k (pos 0)) c.as_slice-literal-items.ensures.entries

  told : (b : Bool) → c.extend_front.result ≡ b → possible_with mean (front ++ get_or near k (pos 0) ∷ []) ≡ b
  told b e = sym (sym e ∙ c.extend_front.ensures.possible ∙ ap (λ m. possible_with m (front ++ to_z w8 (of_z w8 (get_or c.as_slice-literal-items.result.now k (pos 0))) ∷ [])) c.loop-literal.invariant.1 ∙ ap (λ l. possible_with mean (front ++ l ∷ [])) read)

  placed : next ≡ cond (possible_with mean (front ++ get_or near k (pos 0) ∷ [])) (front ++ get_or near k (pos 0) ∷ []) front
  placed =
      c.extend_front.ensures.placed
      ∙ ap (λ m. cond (possible_with m (front ++ to_z w8 (of_z w8 (get_or c.as_slice-literal-items.result.now k (pos 0))) ∷ [])) (front ++ to_z w8 (of_z w8 (get_or c.as_slice-literal-items.result.now k (pos 0))) ∷ []) front) c.loop-literal.invariant.1
      ∙ ap (λ l. cond (possible_with mean (front ++ l ∷ [])) (front ++ l ∷ []) front) read

  kept : meaning_of g.S.Solver c.extend_front.new.solver ≡ mean
  kept = c.extend_front.ensures.meaning_kept ∙ c.loop-literal.invariant.1

pub returns-then-not-extend_front : goal.returns-then-not-extend_front
returns-then-not-extend_front g c =
    let v = (goal.at.returns-then-not-extend_front g c).After-extend_front in
    record {
      shared = front_stops (mean g v) (near g v) (k g v) (front g v) (within g v) c.loop-literal.invariant.0 (next g v) (told g v _ c.if-not-extend_front.true) (placed g v);
      meaning_kept = kept g v;
    }

pub loop-literal-preserved : goal.loop-literal-preserved
loop-literal-preserved g c =
    let v = (goal.at.loop-literal-preserved g c).After-extend_front in
    (front_more (mean g v) (near g v) (k g v) (front g v) (within g v) c.loop-literal.invariant.0 (next g v) (told g v _ c.if-not-extend_front.false) (placed g v), kept g v)

pub returns : goal.returns
returns g c =
    record {
      shared = front_all (meaning_of g.S.Solver c.args.solver.now) (items c.args.near.now) c.loop-literal.literal-index (items c.loop-literal.front) (omega (arith, c.loop-literal-test.false, ap length c.as_slice-literal-items.ensures.entries)) c.loop-literal.invariant.0;
      meaning_kept = c.loop-literal.invariant.1;
    }
