-- The tickets that are kept: those of each sheet's held assumptions, in held order.
use Rattle.std.specs.Prelude.{◌≡◌}
use Rattle.sheets.specs.Sheets.{SheetMeaning}
use Rattle.tickets.specs.Tickets.{listed, tickets_of}
use Rattle.script_runs.specs.declared.Kept.{Kept}
use Rattle.script_runs.specs.Obeyed.{Labelled}

pub record Keeps (m b : SheetMeaning) (k : Kept) : Type 0 where
  pub labelled : Labelled m b
  pub make_own : listed k.make ≡ tickets_of m
  pub break_own : listed k.brk ≡ tickets_of b
