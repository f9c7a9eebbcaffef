use Rattle.std.proofs.Common.{sym, subst}
use Rattle.lanes.specs.Words.{Tried, circuit_good}
use Rattle.lanes.proofs.Present.{none_good, some_good}
use Rattle.lanes.proofs.try_all.Goals as goal

pub returns-in_err-lane : goal.returns-in_err-lane
returns-in_err-lane c = record {
  tried = subst (Tried c.args.circuit.inputs (circuit_good c.args.circuit c.args.rules.now c.args.bars.now) c.args.assignment) (sym c.from_residual.ensures)
      (none_good c.args.circuit c.args.rules.now c.args.bars.now c.args.assignment _ c.input_words-words.ensures.words c.good_word.result c.good_word.ensures.lanes c.requires.few c.in_err-lane.ensures.first);
}

pub returns : goal.returns
returns c = record {
  tried = some_good c.args.circuit c.args.rules.now c.args.bars.now c.args.assignment _ c.input_words-words.ensures.words c.good_word.result c.good_word.ensures.lanes c.in_ok-lane.lane c.lane_setting.result c.in_ok-lane.ensures.first c.lane_setting.ensures.setting;
}
