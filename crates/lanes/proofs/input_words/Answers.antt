use Rattle.std.proofs.Common.{◌≡◌, ℕ, ◌+◌, ◌≤◌, [], ◌∷◌, ◌++◌, length, sym, ap, ◌∙◌, ap₂, arith}
use Rattle.std.proofs.lemmas.List.FromFn.{map-range_with_len_more, length-map-range_with_len}
use Rattle.tables.specs.Tables.{items}
use Rattle.tables.proofs.Rooms.{appended_in_room}
use Rattle.search.specs.Assignments.{undecided}
use Rattle.lanes.specs.Words.{input_word, next_rank}
use Rattle.lanes.proofs.Steps.{rank_more, rank_small}
use Rattle.lanes.proofs.input_words.Goals as goal

pub loop-index-preserved : goal.loop-index-preserved
loop-index-preserved c =
    let i = c.loop-index.index in
    let a = c.args.assignment in
    let now = items c.loop-index.words in
    let old = c.loop-index.invariant in
    let long : length now ≡ i = ap length old.0 ∙ length-map-range_with_len (λ k. input_word a k (undecided k a)) 0 i in
    let room : length now + 1 ≤ 32 = omega (arith, c.args.circuit.few_inputs) in
    let e = c.next_rank-rank.ensures.rank in (
      appended_in_room {T = ℕ} 32 now (c.input_word.result ∷ []) (items c.push.new.self) c.push.ensures.placed room
          ∙ ap₂ (λ ws w. ws ++ w ∷ []) old.0 (c.input_word.ensures.lanes ∙ ap (input_word a i) old.1)
          ∙ sym (map-range_with_len_more (λ k. input_word a k (undecided k a)) 0 i i (omega arith)),
      e ∙ ap (next_rank a i) old.1 ∙ rank_more a i,
      omega (arith, e, rank_small a i c.loop-index.rank, old.2),
    )
