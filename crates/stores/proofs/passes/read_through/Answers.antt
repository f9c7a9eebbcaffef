use Rattle.std.proofs.Common.{◌≡◌, ℕ, ◌+◌, ◌-◌, Err, sym, ap, ◌∙◌, arith}
use Rattle.std.proofs.lemmas.Result.{err_from_is_err_and}
use Rattle.stores.specs.Stores.{verdict}
use Rattle.stores.proofs.passes.read_through.Goals as goal

pub returns-in_err-next : goal.returns-in_err-next
returns-in_err-next g c =
    let p = err_from_is_err_and c.from_residual.result c.from_residual.ensures.1 in
    let left : ℕ = c.count-end.result - c.loop.counter - 1 in
    let more : c.count-end.result - c.loop.counter ≡ left + 1 = omega arith in
    let fault = ap (λ n. g.R.Records.reading n c.loop.records) more ∙ c.in_err-next.ensures.begins left in
    record { reads = rw (p.1, p.2) (sym (c.loop.invariant ∙ ap verdict {y = Err c.in_err-next.field-0.0} fault)) }
