use Rattle.std.proofs.Common.{◌≡◌, ◌+◌, ◌≤◌, Bool, false, [], ◌∷◌, ◌++◌, length, sym, ap, ◌∙◌, arith}
use Rattle.std.proofs.lemmas.List.FromFn.{map-range_with_len_more}
use Rattle.literals.specs.Bits.{bit}
use Rattle.tables.specs.Tables.{items}
use Rattle.tables.proofs.Rooms.{appended_in_room}
use Rattle.settings.specs.Readings.{reading}
use Rattle.settings.proofs.Recorded.{length_reading}
use Rattle.networks.proofs.input_values.Goals as goal

pub loop-index-preserved : goal.loop-index-preserved
loop-index-preserved c =
    let i = c.loop-index.index in
    let s = c.args.setting in
    let now = items c.loop-index.values in
    let long : length now ≡ i + 1 = ap length c.loop-index.invariant ∙ omega (arith, length_reading i s) in
    let room : length now + 1 ≤ 2081 = omega arith in
    appended_in_room {T = Bool} 2081 now (c.has_bit.result ∷ []) (items c.push-in-loop-index.new.self) c.push-in-loop-index.ensures.placed room
    ∙ ap (λ vs. vs ++ c.has_bit.result ∷ []) c.loop-index.invariant
    ∙ ap (λ b. false ∷ (reading i s ++ b ∷ [])) c.has_bit.ensures.set
    ∙ ap (λ x. false ∷ x) (sym (map-range_with_len_more (λ k. bit s.closed k) 0 i i (omega arith)))
