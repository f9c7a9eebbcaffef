-- A pair of sheets and the reference model that says all there is to know of it.
use Rattle.std.specs.Prelude.{◌≡◌, List, [], map, length, None, Ok, Err, Result}
use Rattle.std.specs.List.{AllByRecursion}
use Rattle.literals.specs.Literals.{first_unnamed, set_of}
use Rattle.solver.specs.declared.Solver.{Ghosts}
use Rattle.sheets.specs.Sheets.{SheetMeaning, sheet_meaning}
use Rattle.model.specs.Model.{SheetModel, PairModel}
use Rattle.model.specs.Guarantee.{Event, calls_of, after, NewPair, ByTheModel, Guaranteed}
use Rattle.session.specs.declared.pair.Pair.{Pair}
use Rattle.session.specs.declared.request.Request.{Request}
use Rattle.session.specs.declared.request.Answer.{Answer}
use Rattle.session.specs.declared.request.Refused.{Refused}
use Rattle.session.specs.Requests.{events}

-- what a sheet means that its model describes: the settings allowed when new are its solver's base set, and its rules are held as the sets of their literals
abbrev pub meaning_of : SheetModel → SheetMeaning
meaning_of s = record {
  meaning = record { contacts = s.contacts; base = s.new; added = map set_of s.rules; bars = [] };
  label = s.label;
  held = s.held;
  count = s.count;
}

-- the model of a new sheet: it allows its solver's base set, and has no rule, no assumption and no ticket
abbrev pub new_model : SheetMeaning → SheetModel
new_model m = record { contacts = m.meaning.contacts; label = m.label; new = m.meaning.base; rules = []; held = []; count = 0 }

abbrev pub new_pair : SheetMeaning → SheetMeaning → PairModel
new_pair make brk = record { make = new_model make; brk = new_model brk }

-- each rule names contacts
abbrev pub RulesNamed : SheetModel → Type 0
RulesNamed s = AllByRecursion (λ r. first_unnamed s.contacts r ≡ None) s.rules

module _ {M B : Type 0} (m : Ghosts M) (b : Ghosts B) (pair : Pair M B m b) where
  -- the model describes both sheets, and its rules name contacts
  pub record Mirrors (p : PairModel) : Type 0 where
    pub make_means : sheet_meaning m pair.make ≡ meaning_of p.make
    pub break_means : sheet_meaning b pair.brk ≡ meaning_of p.brk
    pub make_named : RulesNamed p.make
    pub break_named : RulesNamed p.brk

  -- the pair stands where these calls have brought a new one, and all that it was asked and answered since is guaranteed
  pub record Stands (start : PairModel) (past : List Event) : Type 0 where
    pub new : NewPair start
    pub guaranteed : Guaranteed start past
    pub here : Mirrors (after start (calls_of past))

  -- a list of requests was served, from where the model describes the pair: each response is the model's, and the model that the requests bring describes the pair behind them
  pub record Served (p : PairModel) (requests : List Request) (responses : List (Result Answer Refused)) : Type 0 where
    pub as_many : length responses ≡ length requests
    pub by_the_model : ByTheModel p (events requests responses)
    pub here : Mirrors (after p (calls_of (events requests responses)))

-- what holds of the responses where both lists were served
abbrev pub BothServed : {A E : Type 0} → Result A E → Result A E → (A → A → Type 0) → Type 0
BothServed (Ok a) (Ok b) P = P a b
BothServed (Ok a) (Err f) P = Unit {0}
BothServed (Err e) (Ok b) P = Unit {0}
BothServed (Err e) (Err f) P = Unit {0}
