-- What TERMS answers and writes, and the laws of it.
use Rattle.std.specs.Prelude.{◌≡◌, ℕ, Bool, cond, List, map, length, take, ℤ, Ok, Err, Result, ◌==◌, nat_lt}
use Rattle.faults.specs.declared.SheetFault.{SheetFault}
use Rattle.faults.specs.declared.SheetFault.TheVariants.{ShortBuffer, OtherContacts, BothAllow, TooManyTerms}
use Rattle.settings.specs.declared.Term.{Term}
use Rattle.settings.specs.Settings.{number}
use Rattle.settings.specs.TermRecords.{sums}
use Rattle.laws.specs.Terms.{Outcome, made, shared, full, terms}
use Rattle.laws.specs.Laws.{Card, Shared, Overfull}
use Rattle.solver.specs.Meaning.{Meaning, stands}
use Rattle.sheets.specs.Sheets.{SheetMeaning}

-- the records of the terms; or the number of a setting that both sheets allow; or one term more than 64 is wanted
abbrev pub recorded : ℕ → Outcome → Result (List Term) SheetFault
recorded n (made ts) = Ok (map (sums n) ts)
recorded n (shared x) = Err (BothAllow (number x))
recorded n full = Err TooManyTerms

-- the steps on what stands in two solvers
abbrev pub card_answer : Meaning → Meaning → Result (List Term) SheetFault
card_answer m b = recorded m.contacts (terms m.contacts (stands m) (stands b))

-- TERMS: have both sheets the same contacts? is the buffer 64 records long? then the terms are written, or the steps refuse; held assumptions play no part
abbrev pub terms_answer : SheetMeaning → SheetMeaning → ℕ → Result (List Term) SheetFault
terms_answer p q size =
    cond (p.meaning.contacts == q.meaning.contacts) (cond (nat_lt size 64) (Err ShortBuffer) (card_answer p.meaning q.meaning)) (Err OtherContacts)

-- TERMS wrote the records of a card: its terms cover every MAKE setting and no BREAK setting, and none can be shorter or left out
pub record CardWritten (p q : SheetMeaning) (count : ℕ) (out : List Term) : Type 0 where
  pub terms : List (List ℤ)
  pub records_written : take count out ≡ map (sums p.meaning.contacts) terms
  pub count_told : count ≡ length terms
  pub card : Card p.meaning.contacts (stands p.meaning) (stands q.meaning) terms

-- both sheets allow the setting of that number, which was picked while terms were made
pub record SharedTold (p q : SheetMeaning) (place : ℕ) : Type 0 where
  pub setting : List Bool
  pub numbered : place ≡ number setting
  pub shared : Shared p.meaning.contacts (stands p.meaning) (stands q.meaning) setting

pub record TermsLaw (p q : SheetMeaning) (out : List Term) (r : Result ℕ SheetFault) : Type 0 where
  pub accepted : (count : ℕ) → r ≡ Ok count → CardWritten p q count out
  pub both_allow : (place : ℕ) → r ≡ Err (BothAllow place) → SharedTold p q place
  pub too_many : r ≡ Err TooManyTerms → Overfull p.meaning.contacts (stands p.meaning) (stands q.meaning)
