use Rattle.std.proofs.Common.{◌≡◌, ◌+◌, ◌≤◌, false, leb, [], ◌∷◌, ◌++◌, length, ap, ap₂, ◌∙◌, arith, w8, SFits, to_z, of_z, rules}
use Rattle.std.proofs.lemmas.Int.{to_z-of_z}
use Rattle.std.proofs.lemmas.List.{length-append}
use Rattle.std.proofs.lemmas.Bool.{le-leb, cond-true}
use Rattle.tables.specs.Tables.{items}
use Rattle.settings.specs.Settings.{literal}
use Rattle.queries.specs.Queries.{opened_next}
use Rattle.queries.proofs.Answers.{items-few}
use Rattle.queries.proofs.Placing.wanting_open.Goals as goal

pub returns : goal.returns
unfolding opened_next
returns c =
    let held = items c.args.self.now.held.now in
    let placed = items c.args.self.now.placed in
    let front = items c.joined-all.result in
    let l = c.literal_of.result in
    let fit : SFits w8 l = search rules in
    let is : to_z w8 (of_z w8 l) ≡ literal (length placed) false = to_z-of_z w8 l fit ∙ c.literal_of.ensures.agreeing ∙ ap (λ k. literal k false) c.len.ensures.length in
    let both : front ≡ held ++ placed = c.joined-all.ensures.both ∙ ap₂ (λ s t. s ++ t) c.as_slice.ensures.entries c.as_slice-2.ensures.entries in
    let room : length front + 1 ≤ 65 = omega (arith, ap length both, length-append held placed, items-few c.args.self.now.held.now, c.requires.room) in
    record { all = c.push.ensures.placed ∙ cond-true (leb (length front + 1) 65) (front ++ to_z w8 (of_z w8 l) ∷ []) front (le-leb (length front + 1) 65 room) ∙ ap (λ z. front ++ z ∷ []) is ∙ ap (λ t. t ++ literal (length placed) false ∷ []) both }
