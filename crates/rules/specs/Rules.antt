-- What rules say of an assignment. A rule has failed where none of its literals is met or undecided,
-- and forces its literal where that is the single undecided one and none is met.
use Rattle.std.specs.Prelude.{◌≡◌, ℕ, zero, suc, ◌-◌, ◌<◌, Bool, true, false, cond, not, ◌||◌, List, [], ◌∷◌, map, Some, None, Option, ◌==◌, bit_and, bit_or, bit_xor}
use Rattle.std.specs.Option.{is_some, option_or}
use Rattle.literals.specs.Bits.{bit}
use Rattle.literals.specs.declared.LiteralSet.{LiteralSet}
use Rattle.settings.specs.Settings.{opposite}
use Rattle.search.specs.declared.Assignment.{Assignment}
use Rattle.search.specs.Assignments.{decided, low_mask}
use Rattle.search.specs.declared.Found.{Found}
use Rattle.search.specs.declared.Found.TheVariants.{Conflict, Forced as Forces}
use Rattle.rules.specs.declared.Finding.{Finding}
use Rattle.rules.specs.declared.Finding.TheVariants.{Failed, Forced}
use Rattle.rules.specs.declared.Tally.{Tally}

-- a set of literals as a rule; a bar (true) as the rule of the opposite ones, which is met exactly where the bar does not cover
abbrev pub as_rule : Bool → LiteralSet → LiteralSet
as_rule true s = opposite s
as_rule false s = s

-- a rule's literals on the variables of a mask, and on the first n
abbrev pub masked : ℕ → LiteralSet → LiteralSet
masked m r = record { closed = bit_and r.closed m; opened = bit_and r.opened m }

abbrev pub restricted : ℕ → LiteralSet → LiteralSet
restricted n r = masked (low_mask n) r

-- a literal of the rule is met, or two of its literals are opposite, so that every setting meets it
abbrev pub met_mask : LiteralSet → Assignment → ℕ
met_mask r a = bit_or (bit_or (bit_and r.closed a.closed) (bit_and r.opened a.opened)) (bit_and r.closed r.opened)

abbrev pub is_met : LiteralSet → Assignment → Bool
is_met r a = not (met_mask r a == 0)

-- the undecided variables of a rule
abbrev pub undecided_in : LiteralSet → Assignment → ℕ
undecided_in r a = let variables = bit_or r.closed r.opened in bit_xor variables (bit_and variables (bit_or a.closed a.opened))

-- a mask has two variables or more: one is left without the lowest
abbrev pub several : ℕ → Bool
several m = not (bit_and m (m - 1) == 0)

-- a rule neither forces a literal nor has failed
abbrev pub is_quiet : LiteralSet → Assignment → Bool
is_quiet r a = is_met r a || several (undecided_in r a)

-- the value that a rule wants of a variable, if that is undecided
abbrev pub wanted_at : LiteralSet → Assignment → ℕ → Option Bool
wanted_at r a k = cond (decided a k) None (cond (bit r.closed k) (Some true) (cond (bit r.opened k) (Some false) None))

-- the first such value among n variables from variable k on; where there is none, the rule has failed
abbrev pub first_wanted : ℕ → ℕ → LiteralSet → Assignment → Finding
first_wanted k zero r a = Failed
first_wanted k (suc n) r a = elim (wanted_at r a k) [ Some b ↦ Forced k b | None ↦ first_wanted (suc k) n r a ]

-- the first rule that forces a literal or has failed, on n variables
abbrev pub scanned : ℕ → List LiteralSet → Assignment → Option Finding
scanned n [] a = None
scanned n (r ∷ rs) a = cond (is_quiet (restricted n r) a) (scanned n rs a) (Some (first_wanted 0 n (restricted n r) a))

-- what a finding says of an assignment
abbrev pub found_by : Finding → Found
found_by Failed = Conflict
found_by (Forced k b) = Forces k b

-- the first of some rules, then of some bars as rules
abbrev pub scanned_both : ℕ → List LiteralSet → List LiteralSet → Assignment → Option Finding
scanned_both n rules bars a = option_or (scanned n (map (as_rule false) rules) a) (scanned n (map (as_rule true) bars) a)

-- some rule is not met yet
abbrev pub any_unmet : ℕ → List LiteralSet → Assignment → Bool
any_unmet n [] a = false
any_unmet n (r ∷ rs) a = not (is_met (restricted n r) a) || any_unmet n rs a

-- the rules counted in so far are not all met
abbrev pub has_unmet : Tally → Bool
has_unmet t = is_some t.shortest

-- a choice names an undecided variable; there is none only where every rule is met, or all n variables are decided
abbrev pub Choice : ℕ → Assignment → Bool → Option ℕ → Type 0
Choice n a unmet (Some k) = (k < n) × (decided a k ≡ false)
Choice n a unmet None = unmet ≡ true → (k : ℕ) → k < n → decided a k ≡ true
