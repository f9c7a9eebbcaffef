-- What an answer of ASK tells.
use Rattle.std.proofs.Common.{◌≡◌, ℕ, ◌≤◌, false, cond, List, length, ℤ, is_some, Some, None, Ok, Err, Option, Result, sym, refl, ap, ◌∙◌, subst, arith}
use Rattle.std.proofs.lemmas.List.FromFn.{length-map-range_with_len}
use Rattle.std.proofs.lemmas.List.{length-take-le}
use Rattle.std.specs.Result.{result_unwrap_or}
use Rattle.tables.specs.declared.table.Table.{Table}
use Rattle.tables.specs.Tables.{items}
use Rattle.faults.specs.declared.SolverFault.{SolverFault}
use Rattle.faults.specs.declared.SolverFault.TheVariants.{BadLiteral}
use Rattle.literals.specs.Literals.{first_unnamed}
use Rattle.literals.specs.Bits.{bit}
use Rattle.settings.specs.declared.Setting.{Setting}
use Rattle.settings.specs.Readings.{reading}
use Rattle.settings.specs.Least.{some}
use Rattle.laws.proofs.Least.{some_from}
use Rattle.laws.proofs.Named.{Named}
use Rattle.solver.specs.Meaning.{Meaning, stands_with, literal_fault, Answers, Asked}
use Rattle.queries.specs.Queries.{possible_with, Shown}

pub length_reading : (n : ℕ) (s : Setting) → length (reading n s) ≡ n
length_reading n s = length-map-range_with_len (λ k. bit s.closed k) 0 n

-- a yes or a no tells whether some setting stands and agrees
pub answer-tells : (m : Meaning) (ls : List ℤ) (o : Option Setting) → Answers m ls o → is_some o ≡ some m.contacts (stands_with m ls)
answer-tells m ls None h = sym h
answer-tells m ls (Some s) h = sym (some_from m.contacts (stands_with m ls) (reading m.contacts s) (length_reading m.contacts s) h)

possible_unrefused : (m : Meaning) (ls : List ℤ) → literal_fault m ls ≡ None → possible_with m ls ≡ some m.contacts (stands_with m ls)
unfolding possible_with
possible_unrefused m ls named = ap (λ o. cond (is_some o) false (some m.contacts (stands_with m ls))) named

pub answer-possible : (m : Meaning) (ls : List ℤ) (o : Option Setting) → (literal_fault m ls ≡ None) × Answers m ls o → is_some o ≡ possible_with m ls
answer-possible m ls o h = answer-tells m ls o h.1 ∙ sym (possible_unrefused m ls h.0)

pub refused-impossible : (m : Meaning) (ls : List ℤ) (f : SolverFault) → literal_fault m ls ≡ Some f → false ≡ possible_with m ls
unfolding possible_with
refused-impossible m ls f e = sym (ap (λ o. cond (is_some o) false (some m.contacts (stands_with m ls))) e)

-- no fault says that each literal names a contact
pub fault_none : (m : Meaning) (ls : List ℤ) → Named m.contacts ls → literal_fault m ls ≡ None
fault_none m ls h = ap (λ (o : Option ℕ). elim o as (λ _. Option SolverFault) [ None ↦ None | Some place ↦ Some (BadLiteral place) ]) h

pub named_from : (m : Meaning) (ls : List ℤ) → literal_fault m ls ≡ None → Named m.contacts ls
named_from m ls = go (first_unnamed m.contacts ls) where
  go : (o : Option ℕ) → elim o as (λ _. Option SolverFault) [ None ↦ None | Some place ↦ Some (BadLiteral place) ] ≡ None → o ≡ None
  go None e = refl
  go (Some place) e = absurd (let z : ◌≡◌ {A = ℕ} 0 1 = cc in omega arith)

pub possible_named : (m : Meaning) (ls : List ℤ) → Named m.contacts ls → possible_with m ls ≡ some m.contacts (stands_with m ls)
possible_named m ls h = possible_unrefused m ls (fault_none m ls h)

-- a table of N has at most N entries
pub items-few : {T : Type 0} {N : ℕ} (t : Table T N) → length (items t) ≤ N
items-few t = omega (arith, length-take-le t.len t.slots t.within, t.within, t.whole)

pub answer-shown : (m : Meaning) (ls : List ℤ) (o : Option Setting) → Answers m ls o → Shown m ls o
answer-shown m ls None h = tt
answer-shown m ls (Some s) h = h

-- what was told of a list, told of an equal one
pub told : (m : Meaning) (ls held : List ℤ) (o : Option Setting) → ls ≡ held → Asked m ls (Ok o) → Asked m held (Ok o)
told m ls held o same = subst (λ t. Asked m t (Ok o)) same

-- of whatever ASK answered, a refusal taken for a no
pub witness_found : (m : Meaning) (ls : List ℤ) (r : Result (Option Setting) SolverFault) → Asked m ls r → is_some (result_unwrap_or r None) ≡ possible_with m ls
witness_found m ls (Ok o) h = answer-possible m ls o h
witness_found m ls (Err f) h = refused-impossible m ls f h

pub witness_shown : (m : Meaning) (ls : List ℤ) (r : Result (Option Setting) SolverFault) → Asked m ls r → Shown m ls (result_unwrap_or r None)
witness_shown m ls (Ok o) h = answer-shown m ls o h.1
witness_shown m ls (Err f) h = tt
