use Rattle.std.proofs.Common.{◌≡◌, ℕ, ◌+◌, ◌-◌, length, take, ap, ◌∙◌, arith}
use Rattle.stores.proofs.Laying.{no_fault, none_left}
use Rattle.stores.proofs.passes.pour.Goals as goal

pub unreachable-requires : goal.unreachable-requires
unreachable-requires g c =
    let left : ℕ = length c.loop-place.place-items - c.loop-place.place-index - 1 in
    let more : length c.loop-place.place-items - c.loop-place.place-index ≡ left + 1 = omega arith in
    let fault = ap (λ n. g.R.Records.reading n c.loop-place.records) more ∙ c.in-Err.ensures.begins left in
    let all = ap (λ n. g.R.Records.reading n c.args.records) c.loop-place.auto.place-items in
    no_fault (take c.loop-place.place-index c.loop-place.place-items) c.in-Err.field-0 _ _ fault (c.loop-place.invariant ∙ all) c.requires.readable

pub returns : goal.returns
returns g c =
    let s = c.loop-place.place-items in
    let n = c.loop-place.place-index in
    let all = ap (λ n. g.R.Records.reading n c.args.records) c.loop-place.auto.place-items in
    let none : length s - n ≡ 0 = omega arith in
    record { placed = none_left s n _ _ (omega arith) (λ xs read. g.met.R.Records.as_many _ _ xs read ∙ none) (c.loop-place.invariant ∙ all) c.requires.readable }
