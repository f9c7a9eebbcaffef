-- The reference model of a pair of sheets: what a reader would write down of them, with no solver.
use Rattle.std.specs.Prelude.{ℕ, Bool, ◌&&◌, List, [], ◌∷◌, ◌++◌, ℤ, Option}
use Rattle.settings.specs.Settings.{fits}
use Rattle.settings.specs.Least.{least}
use Rattle.laws.specs.Texts.{every_met}
use Rattle.laws.specs.Choices.{why}
use Rattle.laws.specs.Terms.{Outcome, terms}
use Rattle.sheets.specs.declared.Held.{Held}
use Rattle.sheets.specs.Sheets.{held_literals}
use Rattle.model.specs.declared.Side.{Side}
use Rattle.model.specs.declared.Side.TheVariants.{Make, Break}

-- a sheet: its number of contacts, its label, the settings that it allowed when it was new, the rules accepted since,
-- the assumptions held with the numbers of their tickets, and how many tickets were issued
pub record SheetModel : Type 0 where
  pub contacts : ℕ
  pub label : ℕ
  pub new : List Bool → Bool
  pub rules : List (List ℤ)
  pub held : List Held
  pub count : ℕ

pub record PairModel : Type 0 where
  pub make : SheetModel
  pub brk : SheetModel

abbrev pub on : PairModel → Side → SheetModel
on p Make = p.make
on p Break = p.brk

abbrev pub put_on : PairModel → Side → SheetModel → PairModel
put_on p Make s = record { make = s; brk = p.brk }
put_on p Break s = record { make = p.make; brk = s }

-- it allows the settings allowed when new that meet all its rules
abbrev pub allows : SheetModel → List Bool → Bool
allows s x = s.new x && every_met s.rules x

-- LEAST's setting: the earliest allowed one that agrees with all held assumptions
abbrev pub earliest : SheetModel → Option (List Bool)
earliest s = least s.contacts (λ x. allows s x && fits (held_literals s.held) x)

-- WHY's choice of the held assumptions: the enough one of smallest number
abbrev pub reason : SheetModel → Option (List Bool)
reason s = why s.contacts (allows s) (held_literals s.held)

-- what the steps of TERMS come to; held assumptions play no part
abbrev pub card : PairModel → Outcome
card p = terms p.make.contacts (allows p.make) (allows p.brk)

-- one rule more
abbrev pub with_rule : SheetModel → List ℤ → SheetModel
with_rule s ls = record { contacts = s.contacts; label = s.label; new = s.new; rules = s.rules ++ ls ∷ []; held = s.held; count = s.count }

-- other assumptions held, and that many tickets issued
abbrev pub with_held : SheetModel → List Held → ℕ → SheetModel
with_held s hs count = record { contacts = s.contacts; label = s.label; new = s.new; rules = s.rules; held = hs; count = count }
