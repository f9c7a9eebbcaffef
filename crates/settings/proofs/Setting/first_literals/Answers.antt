use Rattle.std.proofs.Common.{◌≡◌, ◌+◌, ◌≤◌, [], ◌∷◌, ◌++◌, length, ℤ, sym, ap, ◌∙◌, arith, w8, SFits, to_z, of_z, rules}
use Rattle.std.proofs.lemmas.Int.{to_z-of_z}
use Rattle.tables.specs.Tables.{items}
use Rattle.tables.proofs.Rooms.{appended_in_room}
use Rattle.settings.specs.Settings.{literal, literals}
use Rattle.settings.specs.Readings.{reading}
use Rattle.settings.proofs.Recorded.{length_reading, reading_at}
use Rattle.settings.proofs.Listed.{literals_more, length_literals}
use Rattle.settings.proofs.Setting.first_literals.Goals as goal

pub loop-index-preserved : goal.loop-index-preserved
loop-index-preserved c =
    let i = c.loop-index.index in
    let s = c.args.self in
    let long : length (items c.loop-index.out) ≡ i = ap length c.loop-index.invariant ∙ length_literals 0 (reading i s) ∙ length_reading i s in
    let room : length (items c.loop-index.out) + 1 ≤ 32 = omega arith in
    let f : SFits w8 c.literal_of.result = search rules in
    let l = to_z w8 (of_z w8 c.literal_of.result) in
    appended_in_room {T = ℤ} 32 (items c.loop-index.out) (l ∷ []) (items c.push.new.self) c.push.ensures.placed room
    ∙ ap (λ ls. ls ++ l ∷ []) c.loop-index.invariant
    ∙ ap (λ k. literals 0 (reading i s) ++ k ∷ []) (to_z-of_z w8 _ f ∙ c.literal_of.ensures.agreeing ∙ ap (literal i) (c.is_closed.ensures.closed ∙ reading_at 32 s i (omega arith)))
    ∙ sym (literals_more s i)
