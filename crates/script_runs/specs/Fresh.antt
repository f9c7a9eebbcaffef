-- A sheet on which nothing is held.
use Rattle.std.specs.Prelude.{◌≡◌, ℕ, []}
use Rattle.sheets.specs.Sheets.{SheetMeaning}

-- with that label, and no assumption held
pub record Fresh (label : ℕ) (p : SheetMeaning) : Type 0 where
  pub labelled : p.label ≡ label
  pub none_held : p.held ≡ []
