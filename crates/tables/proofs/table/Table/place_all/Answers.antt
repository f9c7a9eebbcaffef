use Rattle.std.proofs.Common.{◌<◌, [], ◌∷◌, ◌++◌, length, take, sym, ap, ◌∙◌, arith, rules}
use Rattle.std.proofs.lemmas.List.{append_assoc, length-append, length-take-le, take_more, take_all}
use Rattle.tables.specs.Tables.{items}
use Rattle.tables.proofs.table.Table.place_all.Goals as goal

pub place_last-requires : goal.place_last-requires
place_last-requires g c =
    let long = ap length c.loop-entry.invariant ∙ length-append (items c.args.self.now) (take c.loop-entry.entry-index c.args.entries.now) in
    let front = length-take-le c.loop-entry.entry-index c.args.entries.now c.loop-entry.auto.entry-index-end in
    let room : length (items c.loop-entry.self) < g.row.N = omega arith in
    (search rules, room)

pub loop-entry-preserved : goal.loop-entry-preserved
loop-entry-preserved g c =
    let front = take c.loop-entry.entry-index c.args.entries.now in
    let last = c.entry-item.result in
    c.place_last.ensures.placed ∙ ap (λ xs. xs ++ last ∷ []) c.loop-entry.invariant
    ∙ append_assoc (items c.args.self.now) front (last ∷ [])
    ∙ ap (λ xs. items c.args.self.now ++ xs) (sym (take_more c.args.entries.now c.loop-entry.entry-index last c.loop-entry-test.true ∙ ap (λ x. front ++ x ∷ []) (sym c.entry-item.is)))

pub returns : goal.returns
returns g c = record {
  placed = c.loop-entry.invariant ∙ ap (λ xs. items c.args.self.now ++ xs) (take_all c.loop-entry.entry-index c.args.entries.now c.loop-entry-test.false);
}
