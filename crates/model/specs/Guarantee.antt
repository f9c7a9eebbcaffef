-- What holds of every list of calls on a pair of sheets that was new, whatever solvers are below.
use Rattle.std.specs.Prelude.{◌≡◌, ℕ, ◌<◌, Bool, true, List, [], ◌∷◌, ◌++◌, map, length, ℤ, ◌≢◌}
use Rattle.std.specs.List.{AllByRecursion}
use Rattle.settings.specs.declared.Term.{Term}
use Rattle.settings.specs.Settings.{agrees, met, number, literals}
use Rattle.settings.specs.TermRecords.{sums}
use Rattle.laws.specs.Choices.{chosen}
use Rattle.laws.specs.Laws.{Card}
use Rattle.sheets.specs.Sheets.{held_literals}
use Rattle.model.specs.declared.Side.{Side}
use Rattle.model.specs.declared.Side.TheVariants.{Make, Break}
use Rattle.model.specs.Model.{SheetModel, PairModel, on, allows}
use Rattle.model.specs.Calls.{Call, RULE, ASSUME, RELEASE, LEAST, WHY, TERMS, least_written, reason_written, terms_written, Reply, accepted, denied, at_front, answered, next}

-- a call and what it was answered
pub record Event : Type 0 where
  pub call : Call
  pub reply : Reply

abbrev pub calls_of : List Event → List Call
calls_of h = map (λ e. e.call) h

-- the model once these calls are entered, one after the other
abbrev pub after : PairModel → List Call → PairModel
after p [] = p
after p (c ∷ cs) = after (next p c) cs

-- a sheet is new when no rule was accepted, nothing is held and no ticket was issued
pub record NewSheet (s : SheetModel) : Type 0 where
  pub no_rules : s.rules ≡ []
  pub none_held : s.held ≡ []
  pub none_issued : s.count ≡ 0

pub record NewPair (p : PairModel) : Type 0 where
  pub make : NewSheet p.make
  pub brk : NewSheet p.brk

-- what is said of a sheet, where it is the one meant
abbrev pub if_same : {A : Type 0} → Side → Side → List A → List A
if_same Make Make xs = xs
if_same Make Break xs = []
if_same Break Make xs = []
if_same Break Break xs = xs

-- the rules of the accepted RULE calls on a sheet, as the replies tell
abbrev pub if_accepted : {A : Type 0} → Reply → List A → List A
if_accepted (accepted answer) xs = xs
if_accepted (denied f back) xs = []

abbrev pub rule_of : Side → Call → List (List ℤ)
rule_of side (RULE s ls) = if_same side s (ls ∷ [])
rule_of side (ASSUME s l) = []
rule_of side (RELEASE s t) = []
rule_of side (LEAST s out) = []
rule_of side (WHY s out) = []
rule_of side (TERMS out) = []

abbrev pub accepted_rules : Side → List Event → List (List ℤ)
accepted_rules side [] = []
accepted_rules side (e ∷ es) = if_accepted e.reply (rule_of side e.call) ++ accepted_rules side es

module _ (start : PairModel) (before : List Event) where
  -- the pair at this point, by the model
  abbrev pub here : PairModel
  here = after start (calls_of before)

  abbrev pub held_here : Side → List ℤ
  held_here side = held_literals (on here side).held

  -- a setting was allowed when the sheet was new, and meets every accepted RULE
  pub record Allowed (side : Side) (x : List Bool) : Type 0 where
    pub sized : length x ≡ (on start side).contacts
    pub allowed_when_new : (on start side).new x ≡ true
    pub meets_rules : AllByRecursion (λ r. met r x ≡ true) (accepted_rules side before)

  -- and agrees with each held assumption
  pub record Free (side : Side) (x : List Bool) : Type 0 where
    pub allowed : Allowed side x
    pub agrees_with_held : AllByRecursion (λ l. agrees x l ≡ true) (held_here side)

  -- LEAST's setting is such a setting, and every other one is later
  pub record LeastSetting (side : Side) (x : List Bool) : Type 0 where
    pub free : Free side x
    pub others_later : (y : List Bool) → Free side y → (y ≢ x) → number x < number y

  -- a choice of the held assumptions is enough to block: no allowed setting agrees with all of it
  abbrev pub Blocks : Side → List Bool → Type 0
  Blocks side c = (x : List Bool) → Allowed side x → AllByRecursion (λ l. agrees x l ≡ true) (chosen c (held_here side)) → ⊥

  -- WHY's choice is enough, and every other enough choice has a greater number
  pub record SmallestReason (side : Side) (c : List Bool) : Type 0 where
    pub sized : length c ≡ length (held_here side)
    pub enough : Blocks side c
    pub others_greater : (d : List Bool) → length d ≡ length (held_here side) → Blocks side d → (d ≢ c) → number c < number d

  -- what was written stands at the front of the buffer that was brought, and behind it what stood there
  pub record LeastTold (side : Side) (out written : List ℤ) : Type 0 where
    pub setting : List Bool
    pub least : LeastSetting side setting
    pub buffer : written ≡ at_front (literals 0 setting) out

  pub record ReasonTold (side : Side) (out : List ℤ) (size : ℕ) (written : List ℤ) : Type 0 where
    pub choice : List Bool
    pub smallest : SmallestReason side choice
    pub counted : size ≡ length (chosen choice (held_here side))
    pub buffer : written ≡ at_front (chosen choice (held_here side)) out

  -- the terms cover every MAKE setting and no BREAK setting, a term short of any one literal would cover a BREAK setting, and the terms short of any one would miss a MAKE setting
  pub record TermsTold (out : List Term) (count : ℕ) (written : List Term) : Type 0 where
    pub terms : List (List ℤ)
    pub card : Card (on start Make).contacts (allows here.make) (allows here.brk) terms
    pub counted : count ≡ length terms
    pub buffer : written ≡ at_front (map (sums (on start Make).contacts) terms) out

  -- what an accepted LEAST, WHY or TERMS was told
  abbrev pub Told : Call → Reply → Type 0
  Told (RULE side ls) r = Unit {0}
  Told (ASSUME side l) r = Unit {0}
  Told (RELEASE side t) r = Unit {0}
  Told (LEAST side out) r = (written : List ℤ) → r ≡ accepted (least_written written) → LeastTold side out written
  Told (WHY side out) r = (size : ℕ) (written : List ℤ) → r ≡ accepted (reason_written size written) → ReasonTold side out size written
  Told (TERMS out) r = (count : ℕ) (written : List Term) → r ≡ accepted (terms_written count written) → TermsTold out count written

  -- each refusal, ticket, size, count and buffer is the model's
  pub record Answered (e : Event) : Type 0 where
    pub by_the_model : e.reply ≡ answered here e.call
    pub told : Told e.call e.reply

-- at every point of a history
abbrev pub Run : PairModel → List Event → Type 0
Run start h = (before : List Event) (e : Event) (rest : List Event) → h ≡ before ++ e ∷ rest → Answered start before e

-- alike in contacts, labels and settings allowed when new
pub record AlikeSheets (s t : SheetModel) : Type 0 where
  pub contacts : s.contacts ≡ t.contacts
  pub label : s.label ≡ t.label
  pub new : (x : List Bool) → length x ≡ s.contacts → s.new x ≡ t.new x

pub record AlikePairs (p q : PairModel) : Type 0 where
  pub make : AlikeSheets p.make q.make
  pub brk : AlikeSheets p.brk q.brk

-- the whole guarantee of all that was called and answered since the pair was new:
-- what each call was told, and that a second pair, alike when new and given the same calls, has given the same answers
pub record Guaranteed (start : PairModel) (h : List Event) : Type 0 where
  pub run : Run start h
  pub second_pair : (start' : PairModel) (h' : List Event) → NewPair start' → AlikePairs start start' → Run start' h' → calls_of h' ≡ calls_of h → h' ≡ h

-- each answer is the model's
abbrev pub ByTheModel : PairModel → List Event → Type 0
ByTheModel p [] = Unit {0}
ByTheModel p (e ∷ es) = (e.reply ≡ answered p e.call) × ByTheModel (next p e.call) es

abbrev pub GuaranteeLaw : Type 0
GuaranteeLaw = (start : PairModel) (h : List Event) → NewPair start → ByTheModel start h → Guaranteed start h
