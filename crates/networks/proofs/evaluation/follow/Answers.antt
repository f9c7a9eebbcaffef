use Rattle.std.proofs.Common.{◌≡◌, ◌+◌, ◌≤◌, [], ◌∷◌, ◌++◌, length, get_or, take, sym, ap, ◌∙◌, arith}
use Rattle.std.proofs.lemmas.List.{length-take-le, take_more, take_all}
use Rattle.tables.specs.Tables.{items}
use Rattle.tables.proofs.Rooms.{appended_in_room}
use Rattle.networks.specs.Networks.{no_gate}
use Rattle.networks.specs.Evaluation.{gate_from, extended}
use Rattle.networks.proofs.Values.{extended_push, length_extended}
use Rattle.networks.proofs.evaluation.follow.Goals as goal

pub loop-gate-preserved : goal.loop-gate-preserved
loop-gate-preserved g c =
    let v = g.V.Value in
    let start = items c.args.values.now in
    let gates = c.args.gates.now in
    let i = c.loop-gate.gate-index in
    let now = items c.loop-gate.values in
    let front = length-take-le i gates c.loop-gate.auto.gate-index-end in
    let long : length now ≡ length start + i = ap length c.loop-gate.invariant ∙ length_extended v.zero v.opposite v.both start (take i gates) ∙ omega arith in
    let room : length now + 1 ≤ 2081 = omega arith in
    appended_in_room 2081 now (c.gate_value-value.result ∷ []) (items c.push.new.self) c.push.ensures.placed room
    ∙ ap (λ b. now ++ b ∷ []) (c.gate_value-value.ensures.value ∙ ap (λ vs. gate_from v.zero v.opposite v.both vs (get_or gates i no_gate)) c.as_slice.ensures.entries)
    ∙ ap (λ vs. vs ++ gate_from v.zero v.opposite v.both vs (get_or gates i no_gate) ∷ []) c.loop-gate.invariant
    ∙ sym (extended_push v.zero v.opposite v.both start (take i gates) (get_or gates i no_gate))
    ∙ ap (extended v.zero v.opposite v.both start) (sym (take_more gates i no_gate c.loop-gate-test.true))

pub returns : goal.returns
returns g c = let v = g.V.Value in record { followed = c.loop-gate.invariant ∙ ap (extended v.zero v.opposite v.both (items c.args.values.now)) (take_all _ _ c.loop-gate-test.false) }
