use Rattle.std.proofs.Common.{◌≡◌, ℕ, suc, ◌+◌, ◌-◌, List, [], ◌++◌, length, take, drop, ap, ◌∙◌, arith}
use Rattle.std.specs.List.{remove}
use Rattle.std.proofs.lemmas.List.{take_rest}
use Rattle.tables.specs.Tables.{items}
use Rattle.tables.proofs.table.Table.take_out.Goals as goal

-- the two parts of a list around i
parts : {A : Type 0} (none front whole s xs : List A) (i : ℕ) → s ≡ xs → none ≡ [] → front ≡ none ++ take (i - 0) s → whole ≡ front ++ take (length s - (i + 1)) (drop (i + 1) s) → whole ≡ remove xs i
parts none front whole s xs i same e f w =
    let a : front ≡ take i xs = f ∙ ap (λ t. t ++ take (i - 0) s) e ∙ ap (λ k. take k s) (omega arith) ∙ ap (take i) same in
    let next : i + 1 ≡ suc i = omega arith in
    w ∙ ap (λ t. t ++ take (length s - (i + 1)) (drop (i + 1) s)) a ∙ ap (λ t. take i xs ++ t) (take_rest s (i + 1) ∙ ap (λ k. drop k s) next ∙ ap (drop (suc i)) same)

pub returns : goal.returns
returns g c = record {
  taken = parts (items c.new-rest.result) (items c.place_all.new.self) (items c.place_all-2.new.self) c.as_slice-all.result.now (items c.args.self.now) c.args.place c.as_slice-all.ensures.entries c.new-rest.ensures.empty c.place_all.ensures.placed c.place_all-2.ensures.placed;
}
