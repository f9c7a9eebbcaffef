use Rattle.std.specs.List.{range_with_len}
use Rattle.std.proofs.Common.{◌≡◌, ◌+◌, ◌^◌, ◌<◌, false, cond, map, length, get_or, sym, ap, ◌∙◌, subst, ⊎_elim, arith}
use Rattle.std.proofs.lemmas.List.FromFn.{fill_by_all}
use Rattle.std.proofs.lemmas.List.{length-map, get_or-map}
use Rattle.std.proofs.lemmas.Bool.{cases_eq, eq-eqb, ne_eqb}
use Rattle.literals.specs.Bits.{bit}
use Rattle.lanes.proofs.Steps.{bit_with, with_small}
use Rattle.lanes.proofs.lane_setting.Goals as goal

pub loop-index-preserved : goal.loop-index-preserved
loop-index-preserved c =
    let i = c.loop-index.index in
    let m = c.loop-index.closed in
    let ws = c.as_slice-words.result.now in
    let b = c.has_lane.result in
    let e = c.with_bit-closed.ensures.mask in
    let old = c.loop-index.invariant in (
      subst (λ m. m < 2 ^ (i + 1)) (sym e) (with_small m i b old.0),
      λ k lt.
          ap (λ m. bit m k) e ∙ bit_with m i k b old.0 lt
          ∙ ⊎_elim
          (λ same. ap (λ d. cond d b (bit m k)) (eq-eqb k i same) ∙ c.has_lane.ensures.set ∙ ap (λ k. bit (get_or ws k 0) c.args.lane) (sym same))
          (λ other. ap (λ d. cond d b (bit m k)) (ne_eqb k i other) ∙ old.1 k (omega (arith, other)))
          (cases_eq k i),
    )

pub returns : goal.returns
returns c =
    let ws = c.as_slice-words.result.now in
    let lane = c.args.lane in
    record {
      setting = subst (λ ws. map (λ k. bit c.loop-index.closed k) (range_with_len 0 (length ws)) ≡ map (λ w. bit w lane) ws) c.as_slice-words.ensures.entries
          (sym
          (fill_by_all (λ k. bit c.loop-index.closed k) (map (λ w. bit w lane) ws) (length ws) false (length-map ws (λ w. bit w lane))
          (λ k lt. get_or-map (λ w. bit w lane) ws k 0 false lt ∙ sym (c.loop-index.invariant.1 k (omega (arith, c.loop-index-test.false))))));
    }
