use Rattle.sheets.specs.Sheets.{sheet_meaning}
use Rattle.sheets.proofs.Written.{why_written}
use Rattle.sheets.proofs.Sheet.why.Goals as goal

pub returns : goal.returns
returns g c =
    record {
      answer = c.write_why.ensures.answer;
      buffer = c.write_why.ensures.buffer;
      smallest = why_written (sheet_meaning g.S.Solver c.args.self.now) c.args.out.now c.write_why.new.out c.write_why.result c.write_why.ensures.buffer c.write_why.ensures.answer;
      meaning_kept = c.write_why.ensures.meaning_kept;
    }
