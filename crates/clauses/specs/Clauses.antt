-- What a clause solver means.
use Rattle.std.specs.Prelude.{◌≡◌, ℕ, ◌+◌, ◌-◌, Bool, true, false, ◌&&◌, ◌||◌, List, [], ◌++◌, map, take, Ok, Err, Option, Result, nat_le}
use Rattle.std.specs.Option.{option_or}
use Rattle.faults.specs.declared.SheetFault.{SheetFault}
use Rattle.faults.specs.declared.SheetFault.TheVariants.{WrongContacts}
use Rattle.literals.specs.declared.LiteralSet.{LiteralSet}
use Rattle.settings.specs.Settings.{all_met}
use Rattle.settings.specs.Least.{some}
use Rattle.solver.specs.Meaning.{Meaning, meaning_from}
use Rattle.additions.specs.Additions.{rules_of, bars_of, passes}
use Rattle.search.specs.declared.Assignment.{Assignment}
use Rattle.rules.specs.declared.Finding.{Finding}
use Rattle.rules.specs.Rules.{as_rule, scanned, scanned_both, any_unmet}
use Rattle.clauses.specs.declared.counts.VariableCounts.{VariableCounts}
use Rattle.clauses.specs.declared.ClauseSolver.{ClauseSolver}

-- the contacts come first among the variables
abbrev pub clause_contacts : ClauseSolver → ℕ
clause_contacts s = s.counts.contacts

abbrev pub clause_variables : ClauseSolver → ℕ
clause_variables s = s.counts.contacts + s.counts.inner

-- some values of the inner variables meet all loaded rules together with the setting
abbrev pub clause_base : ClauseSolver → List Bool → Bool
clause_base s x = some s.counts.inner (λ y. all_met s.rules.now (x ++ y))

abbrev pub clause_added : ClauseSolver → List LiteralSet
clause_added s = rules_of s.additions

abbrev pub clause_bars : ClauseSolver → List LiteralSet
clause_bars s = bars_of s.additions

abbrev pub clause_meaning : ClauseSolver → Meaning
clause_meaning s = meaning_from clause_contacts clause_base clause_added clause_bars s

-- the meaning that a making gives: no added rule, no bar
abbrev pub loaded_meaning : ℕ → ℕ → List LiteralSet → Meaning
loaded_meaning n inner rules = record { contacts = n; base = λ x. some inner (λ y. all_met rules (x ++ y)); added = []; bars = [] }

-- there are 1 to 32 contacts and at most 64 variables, the contacts among them
abbrev pub suits : ℕ → ℕ → Bool
suits variables contacts = (nat_le 1 contacts && nat_le contacts 32) && (nat_le contacts variables && nat_le variables 64)

-- the counts that were made, or the refusal
abbrev pub Counted : ℕ → ℕ → Result VariableCounts SheetFault → Type 0
Counted variables contacts (Ok c) = (suits variables contacts ≡ true) × (c.contacts ≡ contacts) × (c.inner ≡ variables - contacts)
Counted variables contacts (Err f) = (suits variables contacts ≡ false) × (f ≡ WrongContacts)

-- what the search looks for, over contacts and inner variables: all loaded rules are met, and by the contacts alone the added rules, and no bar covers these
abbrev pub clause_good : ClauseSolver → List Bool → Bool
clause_good s x = all_met s.rules.now x && passes s.additions (take s.counts.contacts x)

-- what the first rule says that forces a literal or has failed: of the loaded rules, then of the added ones, then of the bars as rules
abbrev pub clause_scan : ClauseSolver → Assignment → Option Finding
clause_scan s a =
    option_or (scanned (clause_variables s) (map (as_rule false) s.rules.now) a) (scanned_both s.counts.contacts (rules_of s.additions) (bars_of s.additions) a)

-- some rule of the three kinds is not met yet
abbrev pub clause_unmet : ClauseSolver → Assignment → Bool
clause_unmet s a =
    (any_unmet (clause_variables s) (map (as_rule false) s.rules.now) a || any_unmet s.counts.contacts (map (as_rule false) (rules_of s.additions)) a)
    || any_unmet s.counts.contacts (map (as_rule true) (bars_of s.additions)) a
