use Rattle.std.proofs.Common.{rules, ◌≡◌, ◌+◌, [], ◌∷◌, ◌++◌, sym, subst}
use Rattle.tables.specs.Tables.{items}
use Rattle.laws.proofs.Named.{Named}
use Rattle.sheets.specs.declared.Held.{Held}
use Rattle.sheets.specs.Sheets.{held_literals}
use Rattle.sheets.proofs.Order.{named_held}
use Rattle.sheets.proofs.Sheet.hold.Goals as goal

pub invariant_of-self : goal.invariant_of-self
invariant_of-self g c =
    let x = c.args.self.now in
    let n = g.S.Solver.size x.solver in
    let last : Held = record { literal = c.args.literal; number = x.count + 1 } in
    let more : items c.push.new.self ≡ items x.held ++ last ∷ [] = search rules in
    record { no_bars = x.no_bars; named = subst (λ hs. Named n (held_literals hs)) (sym more) (named_held n (items x.held) last c.requires.named x.named) }
