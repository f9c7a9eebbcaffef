use Rattle.std.proofs.Common.{◌≡◌, true, false, Some, length, sym, ap, ◌∙◌, ap₂, w8, SFits, to_z, of_z, rules}
use Rattle.std.proofs.lemmas.Int.{to_z-of_z}
use Rattle.settings.specs.Readings.{reading}
use Rattle.settings.specs.Settings.{agrees, literal}
use Rattle.tables.specs.Tables.{items}
use Rattle.solver.specs.Over.{meaning_of}
use Rattle.queries.specs.Queries.{wanted_next}
use Rattle.queries.proofs.Answers.{answer-possible}
use Rattle.queries.proofs.Placing.next_open.Goals as goal

pub returns-then-agrees-clause-found : goal.returns-then-agrees-clause-found
returns-then-agrees-clause-found g c =
    let m = meaning_of g.S.Solver c.args.solver.now in
    let p = c.args.self.now in
    let l = c.literal_of.result in
    let fit : SFits w8 l = search rules in
    let wanted : to_z w8 (of_z w8 l) ≡ literal (length (items p.placed)) false = to_z-of_z w8 l fit ∙ c.literal_of.ensures.agreeing ∙ ap (λ k. literal k false) c.len.ensures.length in
    let open_there : agrees (reading m.contacts p.last) (literal (length (items p.placed)) false) ≡ true = sym (ap₂ (λ n z. agrees (reading n p.last) z) c.contacts.ensures.count wanted) ∙ sym c.if-agrees.ensures.agreement in
    answer-possible m (wanted_next p) (Some p.last) (c.requires.ready.named, c.requires.ready.serves open_there)
