use Rattle.std.proofs.Common.{◌≡◌, suc, length, ap, ◌∙◌, arith}
use Rattle.tables.specs.Tables.{items}
use Rattle.settings.proofs.Recorded.{length_reading}
use Rattle.networks.proofs.output_value.Goals as goal

pub follow-requires : goal.follow-requires
follow-requires c =
    let inputs : length (items c.input_values-values.result) ≡ suc c.args.inputs = ap length c.input_values-values.ensures.inputs ∙ ap suc (length_reading c.args.inputs c.args.setting) in
    (omega arith, omega arith)
