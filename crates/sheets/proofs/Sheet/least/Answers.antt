use Rattle.sheets.specs.Sheets.{sheet_meaning}
use Rattle.sheets.proofs.Written.{least_written}
use Rattle.sheets.proofs.Sheet.least.Goals as goal

pub returns : goal.returns
returns g c =
    record {
      answer = c.write_least.ensures.answer;
      buffer = c.write_least.ensures.buffer;
      earliest = least_written (sheet_meaning g.S.Solver c.args.self.now) c.args.out.now c.write_least.new.out c.write_least.result c.write_least.ensures.buffer c.write_least.ensures.answer;
      meaning_kept = c.write_least.ensures.meaning_kept;
    }
